use Rattle.std.proofs.Common.{arith, refl}
use Rattle.jobs.proofs.Depths.{depth_other}
use Rattle.jobs.proofs.depth.+depth.Goals as goal

pub is_within-returns-in_default : goal.is_within-returns-in_default
is_within-returns-in_default t c =
    let d = c.in_default in
    let one = depth_other c.args.dtype.now d.not-List d.not-LargeList d.not-FixedSizeList d.not-Map d.not-Struct d.not-Union d.not-Dictionary d.not-Extension in
    (λ _. omega (arith, one, c.if-limit-eq0.false), λ _. refl)
