use Rattle.arrow_nested.proofs.FixedSizeLists.{other_types}
use Rattle.arrow_nested.proofs.fixed_size_list.+declared_items.Goals as goal

pub returns-in_default : goal.returns-in_default
returns-in_default t c = other_types c.args.dtype.now c.in_default.not-FixedSizeList c.in_default.not-Extension
