use Rattle.std.proofs.Common.{◌≡◌, IfOk, sym, subst}
use Rattle.std.specs.Prelude.{IsErrOf, Result, Ok, Err}
use Rattle.arrow_types.specs.Seen.{seen}
use Rattle.arrow_types.specs.declared.error.GrowError.TheVariants as grow
use Rattle.arrow_types.specs.declared.error.GrowError.{GrowError}
use Rattle.arrow_layout.specs.Fits.{Fits}
use Rattle.arrow_layout.specs.Layouts.{Layout}
use Rattle.arrow_layout.specs.OfValues.{IsOfValues}
use Rattle.arrow_canon.specs.Canonical.{canonical_of}
use Rattle.arrow_canon.proofs.Whole.{whole_canon}
use Rattle.arrow_gather.proofs.ValuesKept.{values_kept}
use Rattle.arrow_gather.proofs.normal.normalized.Goals as goal

values_of : (l : Layout) (r : Result Layout GrowError) → IsOfValues l → IfOk r (λ a. (a ≡ l) × Fits l) → IfOk r IsOfValues
values_of l (Ok a) h is = subst IsOfValues (sym is.0) h
values_of l (Err e) h is = tt

pub returns : goal.returns
returns c =
    let l = c.args.array.now in
    let r = c.canonical.result in
    let same = whole_canon (seen c.dtype.result.now) l c.len.result c.dtype.ensures c.len.ensures c.invariant.ensures in
    record {
      of_values = λ h. values_of (canonical_of l) r (values_kept l c.invariant.ensures h) (subst (λ k. IfOk r (λ a. (a ≡ k) × Fits k)) same c.canonical.ensures.ok);
      ok = subst (λ k. IfOk r (λ a. (a ≡ k) × Fits k)) same c.canonical.ensures.ok;
      overflow = subst (λ k. IsErrOf r grow.Overflow → Fits k → ⊥) same c.canonical.ensures.overflow;
    }
