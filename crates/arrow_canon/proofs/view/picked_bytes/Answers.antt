use Rattle.std.proofs.Common.{[], ap, sym, arith, ◌∙◌}
use Rattle.arrow_canon.specs.Picks.{pick}
use Rattle.arrow_canon.proofs.Views.{none_past, slot_values}
use Rattle.arrow_canon.proofs.view.picked_bytes.Goals as goal

pub returns-else-i-len : goal.returns-else-i-len
returns-else-i-len g c =
    let a = c.args.array.now in
    none_past a c.in-Some.i c.invariant.ensures.array.fits (omega (arith, c.if-i-len.false, c.len.ensures)) ∙ ap (pick [] (slot_values a)) (sym c.in-Some.is)
