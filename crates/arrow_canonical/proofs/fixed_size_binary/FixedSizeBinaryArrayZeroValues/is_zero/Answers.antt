use Rattle.arrow_canonical.proofs.Sized.{chunk_zero}
use Rattle.arrow_canonical.proofs.fixed_size_binary.FixedSizeBinaryArrayZeroValues.is_zero.Goals as goal

pub returns : goal.returns
returns c = chunk_zero c.args.self.now c.args.i c.value.result.now c.are_zero.result c.invariant.ensures.sound c.value.ensures c.are_zero.ensures
