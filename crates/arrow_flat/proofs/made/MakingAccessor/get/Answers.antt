use Rattle.std.proofs.Common.{rules, cond, ap, sym, ◌∙◌, Some, None}
use Rattle.arrow_flat.proofs.Masked.{slot_at, null_at}
use Rattle.arrow_flat.proofs.made.MakingAccessor.get.Goals as goal

pub returns-in_err-value : goal.returns-in_err-value
returns-in_err-value g c =
    let a = c.args.self in
    let s = c.value.ensures in
    let at = slot_at (g.Self.MakingAccessor.mask a) (g.Self.MakingAccessor.values a) c.args.i s.0 c.is_valid.ensures.fits s.1
    ∙ ap (λ b. Some (cond b (Some s.0) None)) (sym c.is_valid.ensures.valid ∙ c.if-is_valid.true) in
    (Some s.0, at, search rules)

pub returns-in_ok-value : goal.returns-in_ok-value
returns-in_ok-value g c =
    let a = c.args.self in
    let s = c.in_ok-value.ensures in (
      Some s.0,
      slot_at (g.Self.MakingAccessor.mask a) (g.Self.MakingAccessor.values a) c.args.i s.0 c.is_valid.ensures.fits s.1
          ∙ ap (λ b. Some (cond b (Some s.0) None)) (sym c.is_valid.ensures.valid ∙ c.if-is_valid.true),
      s.2,
    )

pub returns-else-is_valid : goal.returns-else-is_valid
returns-else-is_valid g c =
    let a = c.args.self in (
      None,
      null_at (g.Self.MakingAccessor.mask a) (g.Self.MakingAccessor.values a) c.args.i c.is_valid.ensures.fits c.requires.slot
          (sym c.is_valid.ensures.valid ∙ c.if-is_valid.false),
      tt,
    )
