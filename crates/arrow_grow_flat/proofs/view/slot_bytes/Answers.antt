use Rattle.std.proofs.Common.{arith}
use Rattle.arrow_flat.specs.Natives.{octets}
use Rattle.arrow_meaning.proofs.Octets.{octets_count}
use Rattle.arrow_grow_flat.proofs.SharedViews.{value_fits}
use Rattle.arrow_grow_flat.proofs.view.slot_bytes.Goals as goal

pub returns-then-is_valid-clause-fits : goal.returns-then-is_valid-clause-fits
returns-then-is_valid-clause-fits g c =
    let v = c.value_bytes.result.now in
    omega (arith, octets_count v, value_fits c.args.array.now c.args.i (octets v) c.invariant.ensures.placed c.value_bytes.ensures.value)
