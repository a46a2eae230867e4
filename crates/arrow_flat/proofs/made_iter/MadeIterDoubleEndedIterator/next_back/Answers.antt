use Rattle.std.proofs.Common.{sym, ◌∙◌, arith}
use Rattle.arrow_flat.proofs.Masked.{left_last}
use Rattle.arrow_flat.proofs.made_iter.MadeIterDoubleEndedIterator.next_back.Goals as goal

pub returns-clause-steps : goal.returns-clause-steps
returns-clause-steps g c =
    let it = c.self.inside in
    let s = c.item.ensures in
    (s.0, sym c.self.view_is ∙ left_last (g.A.MadeAccess.items it.access) it.front it.back s.0 s.1 (omega arith), s.2)
