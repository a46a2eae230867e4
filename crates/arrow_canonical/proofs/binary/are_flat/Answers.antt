use Rattle.std.proofs.Common.{arith, sym, ◌∙◌}
use Rattle.std.specs.Option.{option_copied}
use Rattle.std.proofs.lemmas.Bool.{false≢true}
use Rattle.arrow_canonical.proofs.Flats.{flat_of}
use Rattle.arrow_canonical.proofs.binary.are_flat.Goals as goal

pub returns-then-spans : goal.returns-then-spans
returns-then-spans g c =
    let f = flat_of g.O.Offset.number c.args.offsets.now (option_copied c.args.validity) c.args.top c.requires (omega (arith, c.len_proxy-slots.ensures.slots)) in
    (λ t. f.1 (c.spans.ensures.0 c.if-spans.true, c.nulls_are_empty.ensures.0 t), λ h. c.nulls_are_empty.ensures.1 (f.0 h).1)

pub returns-else-spans : goal.returns-else-spans
returns-else-spans g c =
    let f = flat_of g.O.Offset.number c.args.offsets.now (option_copied c.args.validity) c.args.top c.requires (omega (arith, c.len_proxy-slots.ensures.slots)) in
    (λ t. absurd (false≢true (sym c.if-spans.false ∙ t)), λ h. c.spans.ensures.1 (f.0 h).0)
