use Rattle.std.proofs.Common.{◌∙◌}
use Rattle.column_read.proofs.Prefixes.{four_there}
use Rattle.column_read.proofs.view.first_four.Goals as goal

pub returns : goal.returns
returns c = c.four.ensures ∙ four_there c.args.bytes.now c.args.length c.args.offset c.if-length-bytes.false c.if-offset-bytes.false
