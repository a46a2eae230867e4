use Rattle.std.proofs.Common.{ap, map, sym, ◌∙◌}
use Rattle.arrow_flat.specs.Natives.{unsigned}
use Rattle.arrow_scalar.proofs.Lists.{octets_of, of_octets}
use Rattle.arrow_scalar.proofs.parts.same_bytes.Goals as goal

pub returns : goal.returns
returns c =
    let p = ap (map (unsigned 8)) c.as_slice.ensures in
    let q = ap (map (unsigned 8)) c.as_slice-2.ensures in
    let h = c.same_values.ensures.numbers in
    (λ t. octets_of c.args.lhs.now c.args.rhs.now (sym p ∙ h.0 t ∙ q), λ e. h.1 (p ∙ of_octets c.args.lhs.now c.args.rhs.now e ∙ sym q))
