use Rattle.std.proofs.Common.{[], ◌++◌, append-nil, rules, subst}
use Rattle.std.proofs.lemmas.Int.{to_z-of_z}
use Rattle.std.proofs.lemmas.Result.{on_ok_weaker}
use Rattle.std.specs.Int.{int_wrap, w32}
use Rattle.arrow_layout.specs.Spelling.{number_bytes}
use Rattle.arrow_scalar.proofs.spelled_value.DaysMsSpelledNative.push_parts.Goals as goal

pub returns : goal.returns
returns g c =
    let A = g.W.SpellingOut.Appended in
    let x = c.args.out.now in
    let y = c.push_parts.new.out in
    let first = number_bytes (int_wrap w32 c.args.self.0) in
    let h : A x (first ++ []) y = search (rules, to_z-of_z, c.in_ok-push_parts.ensures) in
    on_ok_weaker c.push_parts-2.result
    (λ k. g.W.SpellingOut.joined x y c.push_parts-2.new.out first (number_bytes (int_wrap w32 c.args.self.1) ++ []) (subst (λ bs. A x bs y) (append-nil first) h) k)
    (search (rules, to_z-of_z, c.push_parts-2.ensures))
