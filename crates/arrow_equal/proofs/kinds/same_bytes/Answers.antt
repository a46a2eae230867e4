use Rattle.std.proofs.Common.{ap, sym, ◌∙◌}
use Rattle.std.proofs.lemmas.Bool.Decides.{Decides-eqb}
use Rattle.std.proofs.lemmas.Slice.Eq.{slice_eq-Decides}
use Rattle.arrow_flat.specs.Natives.{octets}
use Rattle.arrow_views.specs.ViewBytes.{own_octets}
use Rattle.arrow_equal.proofs.kinds.same_bytes.Goals as goal

pub returns : goal.returns
returns c =
    let d = slice_eq-Decides Decides-eqb c.args.lhs.now c.args.rhs.now c.eq.result c.eq.ensures in
    (λ t. ap octets (d.0 t), λ e. d.1 (sym (own_octets c.args.lhs.now c.type_inv.lhs) ∙ e ∙ own_octets c.args.rhs.now c.type_inv.rhs))
