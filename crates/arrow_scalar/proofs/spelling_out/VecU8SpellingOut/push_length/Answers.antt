use Rattle.std.proofs.Common.{◌≡◌, ◌++◌, OnOk, ◌∙◌, subst, rules}
use Rattle.arrow_scalar.proofs.Spelled.{length-bytes}
use Rattle.arrow_scalar.proofs.spelling_out.VecU8SpellingOut.push_length.Goals as goal

pub returns : goal.returns
returns c =
    let same = c.to_le_bytes.ensures ∙ length-bytes c.args.length in
    subst (λ bs. OnOk c.extend_from_slice.result (c.extend_from_slice.new.self.items ≡ c.args.self.now.items ++ bs)) same (search rules)
