use Rattle.arrow_grow_flat.proofs.JoinedSpans.{appended_empty}
use Rattle.arrow_grow_flat.proofs.spans.extend_empty.Goals as goal

pub returns-clause-ok : goal.returns-clause-ok
returns-clause-ok g c = appended_empty g.O.Offset.number c.args.offsets.now c.args.values.now.items c.requires.joined c.args.additional c.extend_constant.new.self c.in_ok-extend_constant.ensures.ok
