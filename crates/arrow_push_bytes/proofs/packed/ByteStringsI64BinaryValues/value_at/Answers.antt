use Rattle.std.proofs.Common.{Some, ap, sym, ◌∙◌}
use Rattle.arrow_views.specs.ViewBytes.{octets_same}
use Rattle.arrow_push_bytes.proofs.packed.ByteStringsI64BinaryValues.value_at.Goals as goal

pub returns : goal.returns
returns c = c.value.ensures.value ∙ ap Some (sym (octets_same c.value.result.now c.value.ensures.bytes))
