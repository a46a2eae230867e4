use Rattle.std.proofs.Common.{length, ap, sym, ◌∙◌, subst, Some}
use Rattle.arrow_types.specs.Types.{integer_type, physical_of}
use Rattle.arrow_types.specs.declared.datatype.PhysicalType.TheVariants as physical
use Rattle.arrow_flat.specs.Primitives.{MaskHasLength}
use Rattle.arrow_gather.proofs.KeyPlaces.{key_physical, numbers_count}
use Rattle.arrow_gather.proofs.dictionary_keys.key_array.Goals as goal

pub new-requires-clause-fits : goal.new-requires-clause-fits
new-requires-clause-fits g c =
    let many = numbers_count g.K.NativeType.parts c.in_ok-values.values.items c.args.positions.now c.in_ok-values.ensures in
    subst (MaskHasLength c.args.validity) (sym many ∙ ap length (sym c.in_ok-values-2.ensures)) c.requires.mask

pub new-requires-clause-stored : goal.new-requires-clause-stored
new-requires-clause-stored g c =
    ap physical_of c.from.ensures ∙ ap (λ k. physical_of (integer_type k)) c.KEY_TYPE.ensures ∙ key_physical g.K.NodeKey.KEY_TYPE
    ∙ ap (λ p. Some (physical.Primitive p)) (sym g.met.K.DictionaryKey.stored)
