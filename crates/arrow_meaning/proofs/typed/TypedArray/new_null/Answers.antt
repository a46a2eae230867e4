use Rattle.arrow_meaning.proofs.NullArrays.{null_stored}
use Rattle.arrow_types.specs.Seen.{seen}
use Rattle.arrow_meaning.proofs.typed.TypedArray.new_null.Goals as goal

pub unreachable-requires : goal.unreachable-requires
unreachable-requires g c =
    c.in-Err.ensures.1 (null_stored (seen c.args.dtype) c.args.length c.in_ok-new_null_array.field-0 g.Self.TypedArray.physical c.in_ok-new_null_array.ensures.ok c.requires)
