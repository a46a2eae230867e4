use Rattle.std.proofs.Common.{take, drop, ap, sym, ◌∙◌}
use Rattle.std.proofs.lemmas.Bool.Decides.{Decides-eqb}
use Rattle.std.proofs.lemmas.Slice.Eq.{slice_eq-Decides}
use Rattle.arrow_views.specs.ViewBytes.{own_octets}
use Rattle.arrow_views.proofs.Checks.{prefix_at}
use Rattle.arrow_views.proofs.check.begins_with_prefix.Goals as goal

pub returns : goal.returns
returns c =
    let d = slice_eq-Decides Decides-eqb (take 4 (drop 4 c.as_bytes.result.now)) (take 4 c.args.value.now) c.eq.result c.eq.ensures in
    let prefix = ap (λ bs. take 4 (drop 4 bs)) c.as_bytes.ensures.bytes ∙ prefix_at c.args.view.now c.as_bytes.ensures.placed in
    let value = ap (take 4) (sym (own_octets c.args.value.now c.type_inv.value)) in
    (λ t. sym prefix ∙ d.0 t ∙ value, λ p. d.1 (prefix ∙ p ∙ sym value))
