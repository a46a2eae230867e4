use Rattle.std.proofs.Common.{sym}
use Rattle.arrow_meaning.specs.Nodes.{primitive_layout}
use Rattle.arrow_gather.proofs.KeyPlaces.{array_position, position_none}
use Rattle.arrow_gather.proofs.dictionary_keys.position_at.Goals as goal

pub returns-then-is_valid : goal.returns-then-is_valid
returns-then-is_valid g c =
    array_position g.K.NativeType.parts c.args.keys.now c.invariant.ensures.fits c.args.i c.value.result c.to_position.result c.requires.named c.requires.within c.value.ensures
    (sym c.if-is_valid.ensures) c.to_position.ensures

pub returns-else-is_valid : goal.returns-else-is_valid
returns-else-is_valid g c = position_none (primitive_layout g.K.NativeType.parts c.args.keys.now) c.args.i (sym c.if-is_valid.ensures)
