use Rattle.std.proofs.Common.{List, ℕ, drop, map}
use Rattle.arrow_flat.specs.Slots.{bytes}
use Rattle.arrow_flat.specs.Built.{Takes}
use Rattle.arrow_push.specs.State.{state}
use Rattle.arrow_push_bytes.specs.Parts.{parts}
use Rattle.arrow_push_bytes.proofs.PartsPushed.{Left}
use Rattle.arrow_push_bytes.proofs.extend.push_parts.Given as goal

abbrev pub invariant-loop-length : goal.invariant-loop-length
invariant-loop-length g l =
    (us : List (List ℕ))
    × Takes (state l.fn.builder) (state l.builder) (map bytes us)
    × Left (drop l.length-index l.fn.lengths) l.rest (parts l.fn.lengths l.fn.bytes) us
