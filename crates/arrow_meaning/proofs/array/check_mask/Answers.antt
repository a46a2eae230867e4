use Rattle.std.proofs.Common.{subst, sym, ◌∙◌}
use Rattle.std.proofs.lemmas.Bool.{false≢true}
use Rattle.arrow_layout.specs.Masks.{KeysInRange}
use Rattle.arrow_meaning.specs.Nodes.{AreKeysBelow, key_layout, layout_of}
use Rattle.arrow_meaning.specs.Refusals.{TakesMask}
use Rattle.arrow_meaning.proofs.array.check_mask.Goals as goal

pub returns-then-name_values-clause-ok : goal.returns-then-name_values-clause-ok
returns-then-name_values-clause-ok c =
    let m = c.args.validity.now in
    let below = subst (λ n. AreKeysBelow n m (key_layout c.in-Dictionary.keys)) c.len.ensures (c.name_values.ensures.0 c.if-name_values.true) in
    subst (λ n. TakesMask m (layout_of n)) (sym c.in-Dictionary.is) (λ h. h, below)

pub returns-else-name_values-clause-refused : goal.returns-else-name_values-clause-refused
returns-else-name_values-clause-refused c = λ h.
    let m = c.args.validity.now in
    let below = subst (λ n. KeysInRange m (layout_of n)) c.in-Dictionary.is h in
    false≢true (sym c.if-name_values.false ∙ c.name_values.ensures.1 (subst (λ n. AreKeysBelow n m (key_layout c.in-Dictionary.keys)) (sym c.len.ensures) below))
