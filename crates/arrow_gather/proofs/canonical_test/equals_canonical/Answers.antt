use Rattle.std.proofs.Common.{sym, ◌∙◌}
use Rattle.arrow_layout.proofs.Unique.{canonical-is_canon}
use Rattle.arrow_gather.proofs.canonical_test.equals_canonical.Goals as goal

pub returns-in-Ok : goal.returns-in-Ok
returns-in-Ok c =
    let law = canonical-is_canon c.args.array.now c.invariant.ensures in
    let is = c.in-Ok.ensures.ok.0 in
    let same = c.same_layout-is_same.ensures in
    (λ t. law.1 (same.0 t ∙ is), λ h. same.1 (law.0 h ∙ sym is))
