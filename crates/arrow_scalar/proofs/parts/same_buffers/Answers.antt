use Rattle.std.proofs.Common.{sym, ◌∙◌}
use Rattle.std.proofs.lemmas.Bool.{false≢true}
use Rattle.arrow_flat.specs.Natives.{octets}
use Rattle.arrow_scalar.proofs.Lists.{same_at}
use Rattle.arrow_scalar.proofs.parts.same_buffers.Goals as goal

pub returns-then-not-same_bytes : goal.returns-then-not-same_bytes
returns-then-not-same_bytes c = (
  λ e. absurd (false≢true e),
  λ e. sym c.if-not-same_bytes.true ∙ c.same_bytes.ensures.1 (same_at octets c.args.lhs.now c.args.rhs.now c.loop-i.i c.index-lhs-i.result c.index-rhs-i.result c.index-lhs-i.is c.index-rhs-i.is c.loop-i-test.true e),
)
