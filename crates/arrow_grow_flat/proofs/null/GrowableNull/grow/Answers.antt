use Rattle.std.proofs.Common.{◌+◌, arith}
use Rattle.arrow_types.specs.Seen.{seen}
use Rattle.arrow_grow_flat.proofs.Counts.{at_least}
use Rattle.arrow_grow_flat.proofs.NullRuns.{nulls_full, nulls_grow}
use Rattle.arrow_grow_flat.proofs.null.GrowableNull.grow.Goals as goal

pub returns-in_default : goal.returns-in_default
returns-in_default c =
    let s = c.self.inside in
    nulls_full (seen s.dtype) s.length c.self.invariant s.failed c.args.self.now c.self.view_is c.args.additional (at_least (s.length + c.args.additional) c.in_default.ensures)

pub returns : goal.returns
returns c =
    let s = c.self.inside in
    let t = c.in-Some.ensures in
    nulls_grow (seen s.dtype) s.length c.self.invariant s.failed c.args.self.now c.self.view_is c.args.additional c.in-Some.length c.requires t.1 (omega (arith, t.0, t.1))
