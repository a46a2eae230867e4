use Rattle.std.proofs.Common.{◌≡◌, ◌++◌, ◌∙◌, OnOk, subst, rules}
use Rattle.std.specs.Int.{cast_unsigned, to_le_bytes, w128}
use Rattle.std.specs.Prelude.{List, ℕ}
use Rattle.arrow_scalar.proofs.Spelled.{number-bytes}
use Rattle.arrow_scalar.proofs.spelling_out.VecU8SpellingOut.push_number.Goals as goal

pub returns : goal.returns
returns c =
    let P : List ℕ → Type 0 = λ bs. OnOk c.extend_from_slice.result (c.extend_from_slice.new.self.items ≡ c.args.self.now.items ++ bs) in
    let e : c.to_le_bytes.result ≡ to_le_bytes w128 (cast_unsigned w128 c.args.number) = search (rules, c.to_le_bytes.ensures) in
    subst P (e ∙ number-bytes c.args.number) (search rules)
