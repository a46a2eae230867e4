-- Layouts of slots that say nothing fit where their counts do.
use Rattle.std.proofs.Common.{ap, arith, false, length, map, pos, refl, replicate, subst, suc, sym, zero, ℕ, ◌+◌, ◌*◌, ◌<◌, ◌^◌, ◌≡◌, ◌≤◌}
use Rattle.std.specs.Prelude.{sum, ⊤}
use Rattle.std.specs.List.{AllByRecursion}
use Rattle.std.proofs.lemmas.List.{length-replicate}
use Rattle.arrow_types.specs.Carried.{IsBelow}
use Rattle.arrow_types.specs.Select.{first_number, select}
use Rattle.arrow_types.specs.TypeData.{FieldList, TypeData, and_field, no_fields}
use Rattle.arrow_types.specs.TypeData as T
use Rattle.arrow_types.specs.declared.datatype.UnionMode.TheVariants.{Dense, Sparse}
use Rattle.arrow_flat.proofs.Lists.{all_replicate}
use Rattle.arrow_flat.specs.Numbers.{zeros}
use Rattle.arrow_flat.specs.Views.{view_length, zero_view}
use Rattle.arrow_layout.specs.Fits.{AllFit, Fits}
use Rattle.arrow_layout.specs.Forms.{Form, binaries_of, booleans_of, fixed_size_binaries_of, form_of, large_by, offset_limit, primitives_of, views_of}
use Rattle.arrow_layout.specs.Layouts.{Layout, booleans, length_of, nulls, primitives, type_of, views}
use Rattle.arrow_layout.specs.NullLayout.{count_from, flat_nulls, null_layout, null_layouts, null_offsets, null_selected, one_if_any}
use Rattle.arrow_layout.specs.NullsFit.{AllNullsFit, NullsFit, SelectedNullsFit}
use Rattle.arrow_layout.proofs.NullForms.{all_none_fit, fits_under, none_fit, some_limit}
use Rattle.arrow_layout.proofs.NullLayouts.{length-null, type-null}
use Rattle.arrow_layout.proofs.Retyped.{fits-retyped}

abbrev FlatFits : Form → ℕ → Type 0
FlatFits (fixed_size_binaries_of k) n = n * k < 2 ^ 64
FlatFits _ n = ⊤

no_bytes : (n : ℕ) → sum (map view_length (replicate n zero_view)) ≡ 0
no_bytes zero = refl
no_bytes (suc n) = omega (arith, no_bytes n)

zero_offsets : (f : Form) (n : ℕ) → AllByRecursion (IsBelow (offset_limit f)) (null_offsets n)
zero_offsets f n = all_replicate (IsBelow (offset_limit f)) (suc n) (pos 0) (some_limit (large_by f))

flat_fit : (t : TypeData) (f : Form) (n : ℕ) → n < 2 ^ 64 → FlatFits f n → Fits (flat_nulls t f n)
flat_fit t booleans_of n s h = omega (arith, length-replicate n false, s)
flat_fit t (primitives_of p) n s h = omega (arith, length-replicate n (zeros p), s)
flat_fit t (binaries_of large text) n s h = (omega (arith, length-replicate n (pos 0), s), zero_offsets (form_of t) n)
flat_fit t (fixed_size_binaries_of k) n s h = (s, omega (arith, length-replicate {A = ℕ} (n * k) 0, h))
flat_fit t (views_of text) n s h = (omega (arith, length-replicate n zero_view, s), omega (arith, no_bytes n))
flat_fit t _ n s h = s

counts_below : (top a n : ℕ) → a + n ≤ top → AllByRecursion (IsBelow top) (count_from a n)
counts_below top a zero h = tt
counts_below top a (suc n) h = (omega (arith, h), counts_below top (suc a) n (omega (arith, h)))

counts_end : (top a n : ℕ) → a ≤ top → AllByRecursion (IsBelow top) (count_from a n) → a + n ≤ top
counts_end top a zero l h = omega (arith, l)
counts_end top a (suc n) l h = let p = h.0 in let rest = counts_end top (suc a) n (omega (arith, p)) h.1 in omega (arith, rest)

one_short : (n : ℕ) → one_if_any n < 2 ^ 64
one_short zero = omega arith
one_short (suc n) = omega arith

-- ---- where the counts fit

mutual
  pub nulls_fit : (t : TypeData) (n : ℕ) → n < 2 ^ 64 → NullsFit t n → Fits (null_layout t n)
  nulls_fit (T.list (T.field a t b m)) n s h = (omega (arith, length-replicate n (pos 0), s), zero_offsets (form_of (T.list (T.field a t b m))) n, none_fit t)
  nulls_fit (T.large_list (T.field a t b m)) n s h = (omega (arith, length-replicate n (pos 0), s), zero_offsets (form_of (T.large_list (T.field a t b m))) n, none_fit t)
  nulls_fit (T.map (T.field a t b m) o) n s h = (omega (arith, length-replicate n (pos 0), s), zero_offsets (form_of (T.map (T.field a t b m) o)) n, none_fit t)
  nulls_fit (T.fixed_size_list (T.field a t b m) k) n s h = (s, nulls_fit t (n * k) h.0 h.1)
  nulls_fit (T.struct fs) n s h = (s, all_nulls_fit fs n s h)
  nulls_fit (T.union fs ids Sparse) n s h = (omega (arith, length-replicate n (pos (first_number ids)), s), all_nulls_fit fs n s h)
  nulls_fit (T.union fs ids Dense) n s h = (
    omega (arith, length-replicate n (pos (first_number ids)), s),
    counts_below (2 ^ 31) 0 n (omega (arith, h.0)),
    selected_nulls_fit fs (select ids (first_number ids)) n s h.1,
  )
  nulls_fit (T.dictionary k t o) n s h = (omega (arith, length-replicate n (pos 0), s), nulls_fit t (one_if_any n) (one_short n) h)
  nulls_fit (T.extension e t m) n s h = fits_under (T.extension e t m) (null_layout t n) (ap form_of (sym (type-null t n))) (nulls_fit t n s h)
  nulls_fit t n s h = flat_fit t (form_of t) n s h

  all_nulls_fit : (fs : FieldList) (n : ℕ) → n < 2 ^ 64 → AllNullsFit fs n → AllFit (null_layouts fs n)
  all_nulls_fit no_fields n s h = tt
  all_nulls_fit (and_field (T.field a t b m) fs) n s h = (nulls_fit t n s h.0, all_nulls_fit fs n s h.1)

  selected_nulls_fit : (fs : FieldList) (i n : ℕ) → n < 2 ^ 64 → SelectedNullsFit fs i n → AllFit (null_selected fs i n)
  selected_nulls_fit no_fields i n s h = tt
  selected_nulls_fit (and_field (T.field a t b m) fs) zero n s h = (nulls_fit t n s h, all_none_fit fs)
  selected_nulls_fit (and_field (T.field a t b m) fs) (suc i) n s h = (none_fit t, selected_nulls_fit fs i n s h)

-- ---- and only there

count_fits : (l : Layout) → Fits l → length_of l < 2 ^ 64
count_fits (nulls t n) h = h
count_fits (booleans t m vs) h = h
count_fits (primitives t m vs) h = h
count_fits (views t m vs buffers) h = h.0
count_fits _ h = h.0

mutual
  pub fit_nulls : (t : TypeData) (n : ℕ) → Fits (null_layout t n) → NullsFit t n
  fit_nulls (T.fixed_size_binary k) n h = omega (arith, length-replicate {A = ℕ} (n * k) 0, h.1)
  fit_nulls (T.fixed_size_list (T.field a t b m) k) n h =
      (subst (λ i. i < 2 ^ 64) (length-null t (n * k)) (count_fits (null_layout t (n * k)) h.1), fit_nulls t (n * k) h.1)
  fit_nulls (T.struct fs) n h = all_fit_nulls fs n h.1
  fit_nulls (T.union fs ids Sparse) n h = all_fit_nulls fs n h.1
  fit_nulls (T.union fs ids Dense) n h =
      let end = counts_end (2 ^ 31) 0 n (omega arith) h.1 in (omega (arith, end), selected_fit_nulls fs (select ids (first_number ids)) n h.2)
  fit_nulls (T.dictionary k t o) n h = fit_nulls t (one_if_any n) h.1
  fit_nulls (T.extension e t m) n h = fit_nulls t n (fits-retyped (T.extension e t m) (null_layout t n) (ap form_of (sym (type-null t n))) h)
  fit_nulls _ n h = tt

  pub all_fit_nulls : (fs : FieldList) (n : ℕ) → AllFit (null_layouts fs n) → AllNullsFit fs n
  all_fit_nulls no_fields n h = tt
  all_fit_nulls (and_field (T.field a t b m) fs) n h = (fit_nulls t n h.0, all_fit_nulls fs n h.1)

  selected_fit_nulls : (fs : FieldList) (i n : ℕ) → AllFit (null_selected fs i n) → SelectedNullsFit fs i n
  selected_fit_nulls no_fields i n h = tt
  selected_fit_nulls (and_field (T.field a t b m) fs) zero n h = fit_nulls t n h.0
  selected_fit_nulls (and_field (T.field a t b m) fs) (suc i) n h = selected_fit_nulls fs i n h.1
