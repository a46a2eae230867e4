use Rattle.std.proofs.Common.{◌+◌, ◌*◌, length, refl}
use Rattle.arrow_canonical.proofs.Fillings.{chunk_place, null_filled}
use Rattle.arrow_canonical.proofs.fill.unset_are_filled.Goals as goal

pub returns-then-is_null_array : goal.returns-then-is_null_array
returns-then-is_null_array c = (
  λ t. λ i w v j u. null_filled c.args.child.now (i * c.args.size + j) (c.is_null_array.ensures c.if-is_null_array.true) c.invariant.ensures
      (chunk_place i j c.args.size (length c.args.bits.now.bits) _ w u c.requires),
  λ h. refl,
)
