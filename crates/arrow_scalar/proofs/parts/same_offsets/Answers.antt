use Rattle.std.proofs.Common.{ap, map, sym, ◌∙◌}
use Rattle.arrow_scalar.proofs.Lists.{map_one}
use Rattle.arrow_scalar.proofs.parts.same_offsets.Goals as goal

pub returns : goal.returns
returns g c =
    let number = g.O.Offset.number in
    let p = c.as_slice.ensures.value in
    let q = c.as_slice-2.ensures.value in
    let h = c.same_values.ensures.values in
    (λ t. ap (map number) (sym p ∙ h.0 t ∙ q), λ e. h.1 (p ∙ map_one number g.met.O.Offset.same_number c.args.lhs.now c.args.rhs.now e ∙ sym q))
