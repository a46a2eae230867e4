use Rattle.std.proofs.Common.{rules, refl, ◌∷◌, [], false, inl}
use Rattle.arrow_flat.specs.Slots.{Slot, null}
use Rattle.arrow_flat.specs.Built.{Built, IsUnchanged}
use Rattle.arrow_push.specs.Masks.{built_under}
use Rattle.arrow_push.proofs.Later.{cut_unchanged, masked_unchanged, kept_fits, kept_bare}
use Rattle.arrow_push.proofs.MaskedTakes.{fits_after, bare_after, takes_after}
use Rattle.arrow_push.proofs.masked.MaskedBuilderNullableBuilder.push_null.Goals as goal

pub invariant_of-self-in_default : goal.invariant_of-self-in_default
invariant_of-self-in_default g c =
    let b = c.args.self.now in
    let v : Built = g.V.Building.seen b.values in
    let w : Built = g.V.Building.seen c.push_blank.new.self in
    let x : Slot = g.V.ValuesLaws.blank v.dtype in
    let laws = g.met.V.ValuesLaws in
    record {
      fits = fits_after g.V.ValuesLaws.blank v w b.validity c.push_bit.new.validity c.len-len.result x false (laws.plain b.values) c.len-len.ensures c.in_default.ensures b.fits c.in_ok-push_blank.ensures;
      bare = bare_after g.V.ValuesLaws.blank v w b.validity c.push_bit.new.validity c.len-len.result x false (laws.plain b.values) c.len-len.ensures c.in_default.ensures b.fits c.in_ok-push_blank.ensures b.bare refl;
    }

pub returns-clause-pushed : goal.returns-clause-pushed
returns-clause-pushed g c whole =
    let b = c.args.self.now in
    let v : Built = g.V.Building.seen b.values in
    let w : Built = g.V.Building.seen c.push_blank.new.self in
    let laws = g.met.V.ValuesLaws in
    (null, refl, takes_after g.V.ValuesLaws.blank v w b.validity c.push_bit.new.validity c.len-len.result (g.V.ValuesLaws.blank v.dtype) false (laws.plain b.values) c.len-len.ensures c.in_default.ensures b.fits c.in_ok-push_blank.ensures refl)

pub invariant_of-self : goal.invariant_of-self
invariant_of-self g c =
    let b = c.args.self.now in
    let v : Built = g.V.Building.seen b.values in
    let w : Built = g.V.Building.seen c.push_blank.new.self in
    let k = c.in_err-push_blank.ensures in
    record {
      fits = kept_fits v w b.validity b.validity refl k b.fits;
      bare = kept_bare g.V.ValuesLaws.blank v w b.validity b.validity refl k b.bare;
    }

pub invariant_of-self-in-Err : goal.invariant_of-self-in-Err
invariant_of-self-in-Err g c =
    let b = c.args.self.now in
    let v : Built = g.V.Building.seen b.values in
    let w : Built = g.V.Building.seen c.push_blank.new.self in
    let u : Built = g.V.Building.seen c.truncate.new.self in
    let k = cut_unchanged v w u (g.V.ValuesLaws.blank v.dtype ∷ []) c.len-len.result (g.V.Building.starts b.values) c.in_ok-push_blank.ensures.held c.len-len.ensures c.truncate.ensures in
    record {
      fits = kept_fits v u b.validity c.push_bit.new.validity c.in-Err.ensures k b.fits;
      bare = kept_bare g.V.ValuesLaws.blank v u b.validity c.push_bit.new.validity c.in-Err.ensures k b.bare;
    }

pub returns-in_err-push_blank-clause-pushed : goal.returns-in_err-push_blank-clause-pushed
returns-in_err-push_blank-clause-pushed g c =
    let b = c.args.self.now in
    let v : Built = g.V.Building.seen b.values in
    let w : Built = g.V.Building.seen c.push_blank.new.self in
    let blank = g.V.ValuesLaws.blank in
    let k : IsUnchanged (built_under blank v b.validity) (built_under blank w b.validity) =
    masked_unchanged blank v b.validity b.fits w b.validity refl c.in_err-push_blank.ensures in
    search (rules, k)

pub returns-in-Err-clause-pushed : goal.returns-in-Err-clause-pushed
returns-in-Err-clause-pushed g c whole =
    let b = c.args.self.now in
    let v : Built = g.V.Building.seen b.values in
    let w : Built = g.V.Building.seen c.push_blank.new.self in
    let u : Built = g.V.Building.seen c.truncate.new.self in
    let k = cut_unchanged v w u (g.V.ValuesLaws.blank v.dtype ∷ []) c.len-len.result (g.V.Building.starts b.values) c.in_ok-push_blank.ensures.held c.len-len.ensures c.truncate.ensures in
    (masked_unchanged g.V.ValuesLaws.blank v b.validity b.fits u c.push_bit.new.validity c.in-Err.ensures k, inl c.into.ensures)
