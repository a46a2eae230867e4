use Rattle.column_read.proofs.InlineHex.{too_long}
use Rattle.column_read.proofs.view.inline_of.Goals as goal

pub returns-then-size-gt12 : goal.returns-then-size-gt12
returns-then-size-gt12 c = too_long c.args.text.now c.if-size-gt12.true
