use Rattle.std.proofs.Common.{sym}
use Rattle.arrow_nested.proofs.Lists.{no_child}
use Rattle.arrow_nested.proofs.parts.+child_field.Goals as goal

pub returns-in_default : goal.returns-in_default
returns-in_default t c =
    let d = c.in_default in sym (no_child c.args.dtype.now d.not-List d.not-LargeList d.not-FixedSizeList d.not-Map d.not-Extension)
