use Rattle.column_read.proofs.BadParts.{bad_sized}
use Rattle.column_read.proofs.fixed_size_binary.fixed_size_binary_array.Goals as goal

pub returns-in-Err : goal.returns-in-Err
returns-in-Err c = λ _ w. bad_sized c.in-Err.field-0 c.args.dtype c.args.parts.size c.args.parts.validity c.args.parts.values c.requires c.in-Err.ensures w
