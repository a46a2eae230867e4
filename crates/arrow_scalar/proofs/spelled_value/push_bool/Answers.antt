use Rattle.std.proofs.Common.{[], ◌∷◌, cond, rules}
use Rattle.std.proofs.lemmas.Result.{on_ok_weaker}
use Rattle.arrow_scalar.proofs.spelled_value.push_bool.Goals as goal

pub returns : goal.returns
returns g c =
    on_ok_weaker c.push_byte-2.result (λ h. g.W.SpellingOut.joined c.args.out.now c.push_byte.new.self c.push_byte-2.new.self (1 ∷ []) (cond c.args.bit 1 0 ∷ []) c.in_ok-push_byte.ensures h) (search rules)
