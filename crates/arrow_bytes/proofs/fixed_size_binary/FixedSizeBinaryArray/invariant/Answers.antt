use Rattle.std.proofs.Common.{subst, arith}
use Rattle.arrow_types.specs.Seen.{seen}
use Rattle.arrow_bytes.specs.FixedSizeBinaries.{IsSound}
use Rattle.arrow_bytes.proofs.Carried.{sized_carried}
use Rattle.arrow_bytes.proofs.fixed_size_binary.FixedSizeBinaryArray.invariant.Goals as goal

pub returns : goal.returns
returns c =
    let a = c.self.inside in
    let kept = c.self.invariant in
    subst IsSound c.self.view_is (record {
      sized = kept.sized;
      positive = kept.positive;
      multiple = kept.multiple;
      fits = kept.fits;
      led = c.invariant.ensures;
      carried = sized_carried (seen a.dtype) a.size kept.sized kept.positive (omega arith);
    })
