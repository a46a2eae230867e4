use Rattle.std.proofs.Common.{◌≡◌, ap, map, subst, ◌∙◌}
use Rattle.arrow_types.specs.Seen.{seen}
use Rattle.arrow_types.specs.Types.{integer_type}
use Rattle.arrow_layout.specs.Forms.{dictionaries_of, form_of}
use Rattle.arrow_layout.specs.Layouts.{dictionaries, type_of}
use Rattle.arrow_layout.specs.WellFormed.{WellFormed}
use Rattle.arrow_meaning.specs.Nodes.{key_number}
use Rattle.column_read.proofs.DictionaryRead.{keys_layout, keys_sound}
use Rattle.column_read.proofs.dictionary.dictionary_over_keys.Goals as goal

pub from_node-requires : goal.from_node-requires
from_node-requires g c =
    let a = c.args.keys.now in
    let k = g.K.NodeKey.KEY_TYPE in
    let form : form_of (seen c.in_ok-dtype.dtype) ≡ dictionaries_of k (type_of c.args.values) = ap (λ t. form_of (seen t)) c.in_ok-dtype.ensures ∙ c.requires.form in
    keys_sound k c.in_ok-dtype.dtype c.in_ok-key_node.key_node (seen a.dtype) a.mask (map g.K.NativeType.parts a.values) c.args.values form c.in_ok-key_node.ensures.same
    c.in_ok-key_node.ensures.kind c.requires.plain c.invariant.ensures.sound c.invariant-2.ensures c.requires.named

pub returns : goal.returns
returns g c =
    let a = c.args.keys.now in
    let k = g.K.NodeKey.KEY_TYPE in
    let rows = map g.K.NativeType.parts a.values in
    let is : c.in_ok-array.array ≡ dictionaries (seen c.args.dtype.now) (integer_type k) a.mask (map key_number rows) c.args.values =
    c.in_ok-array.ensures
    ∙ keys_layout k c.args.dtype.now c.in_ok-dtype.dtype c.in_ok-key_node.key_node (seen a.dtype) a.mask rows c.args.values c.in_ok-dtype.ensures c.in_ok-key_node.ensures.same c.requires.plain in
    (is, subst WellFormed is c.invariant-3.ensures)
