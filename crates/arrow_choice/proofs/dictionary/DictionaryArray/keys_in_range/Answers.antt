use Rattle.std.proofs.Common.{None, subst, sym}
use Rattle.arrow_layout.specs.Masks.{KeysInRange}
use Rattle.arrow_meaning.specs.Nodes.{AreKeysBelow, primitive_layout}
use Rattle.arrow_choice.proofs.dictionary.DictionaryArray.keys_in_range.Goals as goal

pub returns : goal.returns
returns g c =
    let keys = primitive_layout g.K.NativeType.parts c.parts.result.0.now in (
      λ h. subst (λ l. KeysInRange None l) (sym c.parts.ensures.same) (subst (λ n. AreKeysBelow n None keys) c.len.ensures (c.name_values.ensures.0 h)),
      λ h. c.name_values.ensures.1 (subst (λ n. AreKeysBelow n None keys) (sym c.len.ensures) (subst (λ l. KeysInRange None l) c.parts.ensures.same h)),
    )
