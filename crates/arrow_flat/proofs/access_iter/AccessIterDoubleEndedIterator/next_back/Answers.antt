use Rattle.std.proofs.Common.{sym, ◌∙◌, arith}
use Rattle.arrow_flat.proofs.Masked.{left_last}
use Rattle.arrow_flat.proofs.access_iter.AccessIterDoubleEndedIterator.next_back.Goals as goal

pub returns-clause-steps : goal.returns-clause-steps
returns-clause-steps g c =
    let it = c.self.inside in
    sym c.self.view_is ∙ left_last (g.A.Access.items it.access) it.front it.back (g.A.Access.seen c.item.result) c.item.ensures (omega arith)
