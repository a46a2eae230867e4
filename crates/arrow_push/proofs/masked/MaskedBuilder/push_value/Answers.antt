use Rattle.std.proofs.Common.{[], ◌∷◌, true, refl, inl}
use Rattle.arrow_flat.specs.Built.{Built}
use Rattle.arrow_push.proofs.Later.{passed_on, cut_unchanged, masked_unchanged, kept_fits, kept_bare}
use Rattle.arrow_push.proofs.Masks.{filled_valid}
use Rattle.arrow_push.proofs.MaskedTakes.{fits_after, bare_after, takes_after, refused_value}
use Rattle.arrow_push.proofs.masked.MaskedBuilder.push_value.Goals as goal

pub invariant_of-self-in_default : goal.invariant_of-self-in_default
invariant_of-self-in_default g c =
    let b = c.args.self.now in
    let v : Built = g.V.Building.seen b.values in
    let w : Built = g.V.Building.seen c.try_push.new.self in
    let laws = g.met.V.ValuesLaws in
    let p = c.in_ok-try_push.ensures.pushed (laws.whole b.values) in
    record {
      fits = fits_after g.V.ValuesLaws.blank v w b.validity c.push_bit.new.validity c.len-len.result p.0 true (laws.plain b.values) c.len-len.ensures c.in_default.ensures b.fits p.2;
      bare = bare_after g.V.ValuesLaws.blank v w b.validity c.push_bit.new.validity c.len-len.result p.0 true (laws.plain b.values) c.len-len.ensures c.in_default.ensures b.fits p.2 b.bare (filled_valid (g.V.ValuesLaws.blank v.dtype) p.0 (g.met.V.SolidValues.solid c.args.value p.0 p.1));
    }

pub returns-clause-pushed : goal.returns-clause-pushed
returns-clause-pushed g c =
    let b = c.args.self.now in
    let v : Built = g.V.Building.seen b.values in
    let w : Built = g.V.Building.seen c.try_push.new.self in
    let laws = g.met.V.ValuesLaws in
    let p = c.in_ok-try_push.ensures.pushed (laws.whole b.values) in (
      p.0,
      p.1,
      takes_after g.V.ValuesLaws.blank v w b.validity c.push_bit.new.validity c.len-len.result p.0 true (laws.plain b.values) c.len-len.ensures c.in_default.ensures b.fits p.2 (filled_valid (g.V.ValuesLaws.blank v.dtype) p.0 (g.met.V.SolidValues.solid c.args.value p.0 p.1)),
    )

pub invariant_of-self : goal.invariant_of-self
invariant_of-self g c =
    let b = c.args.self.now in
    let v : Built = g.V.Building.seen b.values in
    let w : Built = g.V.Building.seen c.try_push.new.self in
    let k = (c.in_err-try_push.ensures.pushed (g.met.V.ValuesLaws.whole b.values)).0 in
    record {
      fits = kept_fits v w b.validity b.validity refl k b.fits;
      bare = kept_bare g.V.ValuesLaws.blank v w b.validity b.validity refl k b.bare;
    }

pub invariant_of-self-in-Err : goal.invariant_of-self-in-Err
invariant_of-self-in-Err g c =
    let b = c.args.self.now in
    let v : Built = g.V.Building.seen b.values in
    let w : Built = g.V.Building.seen c.try_push.new.self in
    let u : Built = g.V.Building.seen c.truncate.new.self in
    let k = cut_unchanged v w u ((c.in_ok-try_push.ensures.pushed (g.met.V.ValuesLaws.whole b.values)).0 ∷ []) c.len-len.result (g.V.Building.starts b.values) (c.in_ok-try_push.ensures.pushed (g.met.V.ValuesLaws.whole b.values)).2.held c.len-len.ensures c.truncate.ensures in
    record {
      fits = kept_fits v u b.validity c.push_bit.new.validity c.in-Err.ensures k b.fits;
      bare = kept_bare g.V.ValuesLaws.blank v u b.validity c.push_bit.new.validity c.in-Err.ensures k b.bare;
    }

pub returns-in_err-try_push-clause-pushed : goal.returns-in_err-try_push-clause-pushed
returns-in_err-try_push-clause-pushed g c =
    let b = c.args.self.now in
    let v : Built = g.V.Building.seen b.values in
    let w : Built = g.V.Building.seen c.try_push.new.self in
    let blank = g.V.ValuesLaws.blank in
    let p = c.in_err-try_push.ensures.pushed (g.met.V.ValuesLaws.whole b.values) in
    passed_on c.from_residual.result _ _ _ c.from_residual.ensures.1 (
      masked_unchanged blank v b.validity b.fits w b.validity refl p.0,
      refused_value blank v b.validity (g.V.TryPush.begins c.args.value) _ (g.met.V.SolidValues.solid_begun c.args.value) p.1,
    )

pub returns-in-Err-clause-pushed : goal.returns-in-Err-clause-pushed
returns-in-Err-clause-pushed g c =
    let b = c.args.self.now in
    let v : Built = g.V.Building.seen b.values in
    let w : Built = g.V.Building.seen c.try_push.new.self in
    let u : Built = g.V.Building.seen c.truncate.new.self in
    let k = cut_unchanged v w u ((c.in_ok-try_push.ensures.pushed (g.met.V.ValuesLaws.whole b.values)).0 ∷ []) c.len-len.result (g.V.Building.starts b.values) (c.in_ok-try_push.ensures.pushed (g.met.V.ValuesLaws.whole b.values)).2.held c.len-len.ensures c.truncate.ensures in
    (masked_unchanged g.V.ValuesLaws.blank v b.validity b.fits u c.push_bit.new.validity c.in-Err.ensures k, inl c.into.ensures)
