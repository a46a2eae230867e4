use Rattle.std.proofs.Common.{sym, ◌∙◌}
use Rattle.arrow_flat.specs.Natives.{octets}
use Rattle.arrow_canon.proofs.Views.{value_there, nothing_there}
use Rattle.arrow_canon.proofs.view.slot_bytes.Goals as goal

pub returns-then-is_valid : goal.returns-then-is_valid
returns-then-is_valid g c =
    value_there c.args.array.now c.args.i (octets c.value_bytes.result.now) c.requires.fits (sym c.is_valid.ensures ∙ c.if-is_valid.true) c.value_bytes.ensures.value

pub returns-else-is_valid : goal.returns-else-is_valid
returns-else-is_valid g c = nothing_there c.args.array.now c.args.i c.requires.fits (sym c.is_valid.ensures ∙ c.if-is_valid.false) c.requires.slot
