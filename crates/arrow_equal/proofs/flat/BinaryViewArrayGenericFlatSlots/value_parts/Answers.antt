use Rattle.arrow_flat.specs.Natives.{octets}
use Rattle.arrow_views.specs.ViewArrays.{values_of}
use Rattle.arrow_equal.proofs.Slots.{view_at}
use Rattle.arrow_equal.proofs.flat.BinaryViewArrayGenericFlatSlots.value_parts.Goals as goal

pub returns-clause-value : goal.returns-clause-value
returns-clause-value g c =
    view_at (values_of c.args.self.now) c.args.i (octets c.value_bytes.result.now) c.value_bytes.ensures.value
