use Rattle.std.proofs.Common.{ap, sym, ◌∙◌}
use Rattle.std.proofs.lemmas.Bool.Decides.{Decides-eqb}
use Rattle.std.proofs.lemmas.Slice.Eq.{slice_eq-Decides}
use Rattle.arrow_views.specs.ViewParts.{bytes_of}
use Rattle.arrow_scalar.proofs.SameViews.{views_one}
use Rattle.arrow_scalar.proofs.parts.same_view.Goals as goal

pub returns : goal.returns
returns c =
    let d = slice_eq-Decides Decides-eqb c.as_bytes.result.now c.as_bytes-2.result.now c.eq.result c.eq.ensures in (
      λ t. views_one c.args.lhs.now c.args.rhs.now c.as_bytes.ensures.placed c.as_bytes-2.ensures.placed (sym c.as_bytes.ensures.bytes ∙ d.0 t ∙ c.as_bytes-2.ensures.bytes),
      λ e. d.1 (c.as_bytes.ensures.bytes ∙ ap bytes_of e ∙ sym c.as_bytes-2.ensures.bytes),
    )
