use Rattle.std.proofs.Common.{sym, ◌∙◌, arith}
use Rattle.arrow_flat.proofs.Masked.{left_first}
use Rattle.arrow_flat.proofs.access_iter.AccessIterIterator.next.Goals as goal

pub returns-clause-steps : goal.returns-clause-steps
returns-clause-steps g c =
    let it = c.self.inside in
    sym c.self.view_is ∙ left_first (g.A.Access.items it.access) it.front it.back (g.A.Access.seen c.item-item.result) c.item-item.ensures (omega arith)
