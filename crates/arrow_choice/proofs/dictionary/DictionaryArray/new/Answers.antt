use Rattle.std.proofs.Common.{Some, ap, map, subst, sym, ◌∙◌}
use Rattle.arrow_types.specs.Seen.{seen}
use Rattle.arrow_types.specs.Types.{physical_of}
use Rattle.arrow_types.specs.declared.datatype.PhysicalType.TheVariants as physical
use Rattle.arrow_layout.specs.Denote.{validity_of}
use Rattle.arrow_layout.specs.FitsHere.{FitsHere}
use Rattle.arrow_layout.specs.Forms.{form_of, key_by, value_by}
use Rattle.arrow_layout.specs.Layouts.{dictionaries, type_of}
use Rattle.arrow_meaning.specs.Nodes.{key_numbers}
use Rattle.arrow_choice.proofs.DictionaryNodes.{dictionary_physical}
use Rattle.arrow_choice.proofs.DictionaryParts.{accepted_fits}
use Rattle.arrow_choice.proofs.dictionary.DictionaryArray.new.Goals as goal

pub from_node-requires : goal.from_node-requires
from_node-requires g c =
    let keys = c.args.keys in
    let t = seen c.args.dtype in
    let fits = accepted_fits g.K.NodeKey.KEY_TYPE t (seen keys.dtype) keys.mask (map g.K.NativeType.parts keys.values) c.args.values c.invariant.ensures.sound c.invariant-2.ensures c.requires in
    let kind = dictionary_physical t (key_by (form_of t)) (value_by (form_of t)) c.requires.0 in (
      subst (λ l. FitsHere (dictionaries t (type_of l) (validity_of l) (key_numbers l) c.args.values)) (sym c.in_ok-key_node.ensures.same) fits,
      kind ∙ ap (λ k. Some (physical.Dictionary k)) (c.requires.1.0 ∙ sym c.in_ok-key_node.ensures.kind),
    )

pub invariant_of-result : goal.invariant_of-result
invariant_of-result g c =
    let t = seen c.args.dtype in
    ap (λ l. physical_of (type_of l)) c.in_ok-from_node.ensures
    ∙ (dictionary_physical t (key_by (form_of t)) (value_by (form_of t)) c.requires.0 ∙ ap (λ k. Some (physical.Dictionary k)) c.requires.1.0)
