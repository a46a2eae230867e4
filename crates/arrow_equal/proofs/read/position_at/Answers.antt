use Rattle.std.proofs.Common.{◌^◌, Some, ap, map, pos, subst, ◌∙◌}
use Rattle.std.proofs.lemmas.Option.{get_or_from_slice_get}
use Rattle.arrow_meaning.specs.Nodes.{key_number}
use Rattle.arrow_types.specs.Carried.{IsBelow}
use Rattle.arrow_equal.proofs.Slots.{key_number_at}
use Rattle.arrow_equal.proofs.read.position_at.Goals as goal

pub unreachable-requires : goal.unreachable-requires
unreachable-requires g c =
    let parts = g.K.NativeType.parts in
    let read = key_number_at parts c.args.keys.now.values c.args.i c.value.result c.value.ensures in
    c.in-None.ensures (subst (IsBelow (2 ^ 64)) (get_or_from_slice_get (map key_number (map parts c.args.keys.now.values)) c.args.i (key_number (parts c.value.result)) (pos 0) read) c.requires.names)

pub returns : goal.returns
returns g c =
    key_number_at g.K.NativeType.parts c.args.keys.now.values c.args.i c.value.result c.value.ensures ∙ ap Some c.in-Some.ensures
