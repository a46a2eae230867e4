use Rattle.std.proofs.Common.{[], ◌++◌, append-nil, rules, subst}
use Rattle.std.proofs.lemmas.Int.{to_z-of_z}
use Rattle.std.proofs.lemmas.Result.{on_ok_weaker}
use Rattle.std.specs.Int.{int_wrap, w32, w64}
use Rattle.arrow_layout.specs.Spelling.{number_bytes}
use Rattle.arrow_scalar.proofs.spelled_value.MonthDayNanoSpelledNative.push_parts.Goals as goal

pub returns : goal.returns
returns g c =
    let A = g.W.SpellingOut.Appended in
    let joined = g.W.SpellingOut.joined in
    let x = c.args.out.now in
    let y = c.push_parts.new.out in
    let z = c.push_parts-2.new.out in
    let u = c.push_parts-3.new.out in
    let first = number_bytes (int_wrap w32 c.args.self.0) in
    let second = number_bytes (int_wrap w32 c.args.self.1) in
    let third = number_bytes (int_wrap w64 c.args.self.2) ++ [] in
    let h : A x (first ++ []) y = search (rules, to_z-of_z, c.in_ok-push_parts.ensures) in
    let k : A y (second ++ []) z = search (rules, to_z-of_z, c.in_ok-push_parts-2.ensures) in
    on_ok_weaker c.push_parts-3.result (λ e. joined x y u first (second ++ third) (subst (λ bs. A x bs y) (append-nil first) h) (joined y z u second third (subst (λ bs. A y bs z) (append-nil second) k) e))
    (search (rules, to_z-of_z, c.push_parts-3.ensures))
