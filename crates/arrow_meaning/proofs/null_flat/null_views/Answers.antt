use Rattle.std.proofs.Common.{[], ap, map, replicate, subst, sym, ◌∙◌, ◌≡◌}
use Rattle.arrow_flat.specs.Natives.{octets}
use Rattle.arrow_views.specs.ViewArrays.{AreTextsIf, values_in}
use Rattle.arrow_meaning.proofs.NullParts.{no_view_texts}
use Rattle.arrow_meaning.proofs.null_flat.null_views.Goals as goal

pub new-requires-clause-texts : goal.new-requires-clause-texts
new-requires-clause-texts g c =
    let buffers : map octets c.new-buffers.result.items ≡ [] = ap (map octets) c.new-buffers.ensures.items in
    subst (λ vs. AreTextsIf g.T.ViewType.IS_TEXT (values_in (map octets c.new-buffers.result.items) vs)) (sym (c.in_ok-views.ensures ∙ ap (replicate c.args.length) c.new_inline.ensures))
    (no_view_texts g.T.ViewType.IS_TEXT (map octets c.new-buffers.result.items) c.args.length buffers)
