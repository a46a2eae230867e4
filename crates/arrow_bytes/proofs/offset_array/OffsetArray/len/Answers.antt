use Rattle.std.proofs.Common.{ap, ◌∙◌}
use Rattle.arrow_bytes.specs.Binaries.{slot_count}
use Rattle.arrow_bytes.proofs.Windows.{one_before}
use Rattle.arrow_bytes.proofs.offset_array.OffsetArray.len.Goals as goal

pub returns : goal.returns
returns g c = one_before _ _ c.len_proxy.ensures.slots ∙ ap slot_count c.self.view_is
