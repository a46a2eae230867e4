use Rattle.std.proofs.Common.{cond, ap, sym, ◌∙◌, Some, None}
use Rattle.arrow_flat.proofs.Masked.{slot_at, null_at}
use Rattle.arrow_flat.proofs.access.ArrayAccessor.get.Goals as goal

pub returns-then-is_valid : goal.returns-then-is_valid
returns-then-is_valid g c =
    let a = c.args.self in
    let x = g.Self.ArrayAccessor.seen c.value.result in
    slot_at (g.Self.ArrayAccessor.mask a) (g.Self.ArrayAccessor.values a) c.args.i x c.is_valid.ensures.fits c.value.ensures
    ∙ ap (λ b. Some (cond b (Some x) None)) (sym c.is_valid.ensures.valid ∙ c.if-is_valid.true)
    ∙ ap Some (sym (g.met.Self.ArrayAccessor.of_value c.value.result))

pub returns-else-is_valid : goal.returns-else-is_valid
returns-else-is_valid g c =
    let a = c.args.self in
    null_at (g.Self.ArrayAccessor.mask a) (g.Self.ArrayAccessor.values a) c.args.i c.is_valid.ensures.fits c.requires
    (sym c.is_valid.ensures.valid ∙ c.if-is_valid.false)
    ∙ ap Some (sym g.met.Self.ArrayAccessor.of_null)
