-- Layouts of slots that say nothing are well formed where they fit, and those of no slots fit.
use Rattle.std.proofs.Common.{Bool, List, None, Option, Some, [], ap, arith, cond, false, get_or, length, map, pos, refl, replicate, subst, suc, sym, true, zero, ℕ, ℤ, ◌*◌, ◌+◌, ◌<◌, ◌^◌, ◌∙◌, ◌∷◌, ◌≡◌, ◌≤◌}
use Rattle.std.proofs.lemmas.List.{length-map, length-replicate}
use Rattle.std.specs.List.{AllByRecursion}
use Rattle.arrow_types.specs.Carried.{AreCarried, IsBelow, IsCarried, count_fields}
use Rattle.arrow_types.specs.Select.{first_number, nat_of, number_limit, select}
use Rattle.arrow_types.specs.TypeData.{FieldList, TypeData, and_field, no_fields}
use Rattle.arrow_types.specs.TypeData as T
use Rattle.arrow_types.specs.Types.{logical_of}
use Rattle.arrow_types.specs.declared.datatype.UnionMode.TheVariants.{Dense, Sparse}
use Rattle.arrow_flat.proofs.Lists.{all_replicate}
use Rattle.arrow_flat.specs.Numbers.{InRange, IsNumber, ranges_of, zeros}
use Rattle.arrow_flat.specs.Pieces.{pieces, pieces_from}
use Rattle.arrow_flat.specs.Views.{IsView, view_bytes, zero_view}
use Rattle.arrow_layout.specs.Fits.{AllFit, Fits}
use Rattle.arrow_layout.specs.FitsHere.{AllWellFormed, HaveLengths}
use Rattle.arrow_layout.specs.Forms.{Form, binaries_of, booleans_of, fixed_size_binaries_of, fixed_size_lists_of, form_of, key_range, large_by, lists_of, nulls_of, offset_limit, primitive_by, primitives_of, text_by, views_of}
use Rattle.arrow_layout.specs.Layouts.{Layout, binaries, dictionaries, length_of, lengths_of, lists, retyped, type_of}
use Rattle.arrow_layout.specs.NullLayout.{count_from, flat_nulls, null_layout, null_layouts, null_mask, null_offsets, null_selected, one_if_any}
use Rattle.arrow_layout.specs.SlotsOf.{IsTextIf}
use Rattle.arrow_layout.specs.WellFormed.{AllNamed, AllSet, AreOffsetsWithin, AreWellFormed, AscendTo, IsColumnOf, MaskFits, WellFormed, mask_bits}
use Rattle.arrow_layout.proofs.CanonForms.{some_keys}
use Rattle.arrow_layout.proofs.Fills.{first_legal, select_below}
use Rattle.arrow_layout.proofs.FlatForms.{IsFlatForm, IsHereBy, carried_here, empty_text, zeros_in_range}
use Rattle.arrow_layout.proofs.FromParts.{any_lengths, join_children}
use Rattle.arrow_layout.proofs.NullLayouts.{length-flat_nulls, length-null, map-replicate, type-null, types-null, types-selected}
use Rattle.arrow_layout.proofs.Retyped.{fits-retyped, well_formed_under}

null_mask_fits : (n : ℕ) → MaskFits (null_mask n) n
null_mask_fits zero = tt
null_mask_fits (suc n) = (length-replicate (suc n) false, omega arith)

column_null : (t : TypeData) (f : Form) (n k : ℕ) → form_of t ≡ f → IsCarried t → k ≡ n → k < 2 ^ 64 → IsColumnOf t f (null_mask n) k
column_null t f n k e c l h = record { carried = c; of_form = e; mask = subst (MaskFits (null_mask n)) (sym l) (null_mask_fits n); count = h }

pub some_limit : (large : Bool) → 0 < cond large (2 ^ 63) (2 ^ 31)
some_limit true = omega arith
some_limit false = omega arith

ascend_zeros : (top n : ℕ) → AscendTo top 0 (map nat_of (replicate n (pos 0)))
ascend_zeros top zero = omega arith
ascend_zeros top (suc n) = (omega arith, ascend_zeros top n)

offsets_within : (f : Form) (top n : ℕ) → AreOffsetsWithin (offset_limit f) top (null_offsets n)
offsets_within f top n = record {
  in_range = all_replicate (IsBelow (offset_limit f)) (suc n) (pos 0) (some_limit (large_by f));
  ascend = ascend_zeros top n;
}

pub no_pieces : (P : List ℕ → Type 0) (n : ℕ) → P [] → AllByRecursion P (pieces_from 0 (map nat_of (replicate n (pos 0))) [])
no_pieces P zero h = tt
no_pieces P (suc n) h = (h, no_pieces P n h)

pub no_views : (P : List ℕ → Type 0) (n : ℕ) → P [] → AllByRecursion P (map (view_bytes []) (replicate n zero_view))
no_views P zero h = tt
no_views P (suc n) h = (h, no_views P n h)

pub zero_is_view : IsView [] zero_view
zero_is_view = (omega arith, refl, refl, all_replicate (λ b. b < 256) 12 0 (omega arith))

flat_null : (t : TypeData) (f : Form) (n : ℕ) → form_of t ≡ f → IsFlatForm f → IsHereBy f → IsCarried t → Fits (flat_nulls t f n) → WellFormed (flat_nulls t f n)
flat_null t nulls_of n e i z c h = record { carried = c; of_form = e; mask = tt; count = h }
flat_null t booleans_of n e i z c h = (column_null t booleans_of n _ e c (length-replicate n false) h, omega arith)
flat_null t (primitives_of p) n e i z c h =
    let same : form_of t ≡ primitives_of (primitive_by (form_of t)) = e ∙ ap (λ g. primitives_of (primitive_by g)) (sym e) in (
      column_null t _ n _ same c (length-replicate n (zeros p)) h,
      subst (λ g. AllByRecursion (IsNumber (primitive_by g)) (replicate n (zeros p))) (sym e) (all_replicate (IsNumber p) n (zeros p) (zeros_in_range (ranges_of p) z)),
    )
flat_null t (binaries_of large text) n e i z c h =
    let same : form_of t ≡ binaries_of (large_by (form_of t)) (text_by (form_of t)) = e ∙ ap (λ g. binaries_of (large_by g) (text_by g)) (sym e) in (
      column_null t _ n _ same c (length-replicate n (pos 0)) h.0,
      offsets_within (form_of t) 0 n,
      tt,
      omega arith,
      no_pieces (IsTextIf (text_by (form_of t))) n (empty_text (text_by (form_of t))),
    )
flat_null t (fixed_size_binaries_of k) n e i z c h = (
  column_null t _ n n e c refl h.0,
  length-replicate (n * k) 0,
  all_replicate (λ b. b < 256) (n * k) 0 (omega arith),
  h.1,
)
flat_null t (views_of text) n e i z c h =
    let same : form_of t ≡ views_of (text_by (form_of t)) = e ∙ ap (λ g. views_of (text_by g)) (sym e) in (
      column_null t _ n _ same c (length-replicate n zero_view) h.0,
      all_replicate (IsView []) n zero_view zero_is_view,
      tt,
      no_views (IsTextIf (text_by (form_of t))) n (empty_text (text_by (form_of t))),
    )
flat_null t _ n e i z c h = absurd i

-- ---- the parts of unions and dictionaries

none_set : {A : Type 0} (P : A → Type 0) (n : ℕ) (x : A) → AllSet P (replicate n false) (replicate n x)
none_set P zero x = tt
none_set P (suc n) x = none_set P n x

keys_unset : (P : ℤ → Type 0) (n : ℕ) → AllSet P (mask_bits (null_mask n) (length (replicate n (pos 0)))) (replicate n (pos 0))
keys_unset P zero = tt
keys_unset P (suc n) = none_set P (suc n) (pos 0)

selected_length : (fs : FieldList) (i n : ℕ) → i < count_fields fs → get_or (lengths_of (null_selected fs i n)) i 0 ≡ n
selected_length no_fields i n h = absurd (omega (arith, h))
selected_length (and_field (T.field a t b m) fs) zero n h = length-null t n
selected_length (and_field (T.field a t b m) fs) (suc i) n h = selected_length fs i n (omega (arith, h))

named_counts : (lens : List ℕ) (i top : ℕ) → get_or lens i 0 ≡ top → (n a : ℕ) → a + n ≤ top → AllNamed lens (replicate n i) (map nat_of (count_from a n))
named_counts lens i top e zero a l = tt
named_counts lens i top e (suc n) a l = (omega (arith, l, e), named_counts lens i top e n (suc a) (omega (arith, l)))

lengths_null : (P : ℕ → Type 0) (fs : FieldList) (n : ℕ) → P n → HaveLengths P (null_layouts fs n)
lengths_null P no_fields n p = tt
lengths_null P (and_field (T.field a t b m) fs) n p = (subst P (sym (length-null t n)) p, lengths_null P fs n p)

mutual
  pub null_well_formed : (t : TypeData) (n : ℕ) → IsCarried t → Fits (null_layout t n) → WellFormed (null_layout t n)
  null_well_formed (T.list (T.field a t b m)) n c h =
      let u = T.list (T.field a t b m) in (
        column_null u _ n _ (ap (lists_of false) (sym (type-null t 0))) c (length-replicate n (pos 0)) h.0,
        offsets_within (form_of u) _ n,
        null_well_formed t 0 c h.2,
      )
  null_well_formed (T.large_list (T.field a t b m)) n c h =
      let u = T.large_list (T.field a t b m) in (
        column_null u _ n _ (ap (lists_of true) (sym (type-null t 0))) c (length-replicate n (pos 0)) h.0,
        offsets_within (form_of u) _ n,
        null_well_formed t 0 c h.2,
      )
  null_well_formed (T.map (T.field a t b m) o) n c h =
      let u = T.map (T.field a t b m) o in (
        column_null u _ n _ (ap (lists_of false) (sym (type-null t 0))) c (length-replicate n (pos 0)) h.0,
        offsets_within (form_of u) _ n,
        null_well_formed t 0 c.1 h.2,
      )
  null_well_formed (T.fixed_size_list (T.field a t b m) k) n c h = (
    column_null (T.fixed_size_list (T.field a t b m) k) _ n n (ap (fixed_size_lists_of k) (sym (type-null t (n * k)))) c refl h.0,
    length-null t (n * k),
    null_well_formed t (n * k) c.1 h.1,
  )
  null_well_formed (T.struct fs) n c h =
      (column_null (T.struct fs) _ n n refl c refl h.0, types-null fs n, join_children (λ i. i ≡ n) (null_layouts fs n) (lengths_null (λ i. i ≡ n) fs n refl) (each_null fs n c h.1))
  null_well_formed (T.union fs ids Sparse) n c h =
      let i = first_number ids in
      let long = length-replicate n (pos i) in (
        record { carried = c; of_form = refl; mask = tt; count = h.0 },
        all_replicate (IsBelow (number_limit ids (count_fields fs))) n (pos i) (first_legal ids (count_fields fs) c.0 c.2),
        omega arith,
        types-null fs n,
        join_children (λ k. 0 + length (replicate n (pos i)) ≤ k) (null_layouts fs n)
            (lengths_null (λ k. 0 + length (replicate n (pos i)) ≤ k) fs n (omega (arith, long))) (each_null fs n c.3 h.1),
      )
  null_well_formed (T.union fs ids Dense) n c h =
      let i = first_number ids in
      let legal = first_legal ids (count_fields fs) c.0 c.2 in
      let place = select_below ids (count_fields fs) i c.0 c.2 legal in (
        record { carried = c; of_form = refl; mask = tt; count = h.0 },
        all_replicate (IsBelow (number_limit ids (count_fields fs))) n (pos i) legal,
        refl,
        h.1,
        subst (λ ps. AllNamed (lengths_of (null_selected fs (select ids i) n)) ps (map nat_of (count_from 0 n)))
            (sym (ap (map (select ids)) (map-replicate nat_of n (pos i)) ∙ map-replicate (select ids) n i))
            (named_counts _ (select ids i) n (selected_length fs (select ids i) n place) n 0 (omega arith)),
        types-selected fs (select ids i) n,
        join_children (λ k. 0 ≤ k) (null_selected fs (select ids i) n) (any_lengths (null_selected fs (select ids i) n)) (selected_null fs (select ids i) n c.3 h.2),
      )
  null_well_formed (T.dictionary k t o) n c h = (
    column_null (T.dictionary k t o) _ n _ refl c (length-replicate n (pos 0)) h.0,
    refl,
    all_replicate (InRange (key_range k)) n (pos 0) (some_keys k),
    keys_unset _ n,
    ap logical_of (sym (type-null t (one_if_any n))),
    null_well_formed t (one_if_any n) c h.1,
  )
  null_well_formed (T.extension e t m) n c h =
      let same : form_of t ≡ form_of (type_of (null_layout t n)) = ap form_of (sym (type-null t n)) in
      well_formed_under (T.extension e t m) (null_layout t n) same c (null_well_formed t n c (fits-retyped (T.extension e t m) (null_layout t n) same h))
  null_well_formed T.unknown n c h = absurd c
  null_well_formed (T.interval i) n c h = flat_null (T.interval i) (form_of (T.interval i)) n refl tt (carried_here (T.interval i) c) c h
  null_well_formed t n c h = flat_null t (form_of t) n refl tt (carried_here t c) c h

  pub each_null : (fs : FieldList) (n : ℕ) → AreCarried fs → AllFit (null_layouts fs n) → AllWellFormed (null_layouts fs n)
  each_null no_fields n c h = tt
  each_null (and_field (T.field a t b m) fs) n c h = (null_well_formed t n c.0 h.0, each_null fs n c.1 h.1)

  pub selected_null : (fs : FieldList) (i n : ℕ) → AreCarried fs → AllFit (null_selected fs i n) → AllWellFormed (null_selected fs i n)
  selected_null no_fields i n c h = tt
  selected_null (and_field (T.field a t b m) fs) zero n c h = (null_well_formed t n c.0 h.0, each_null fs 0 c.1 h.1)
  selected_null (and_field (T.field a t b m) fs) (suc i) n c h = (null_well_formed t 0 c.0 h.0, selected_null fs i n c.1 h.1)

-- ---- no slots

pub fits_under : (u : TypeData) (l : Layout) → form_of u ≡ form_of (type_of l) → Fits l → Fits (retyped u l)
fits_under u (binaries t m os bs) e h = (h.0, subst (λ f. AllByRecursion (IsBelow (offset_limit f)) os) (sym e) h.1)
fits_under u (lists t m os l) e h = (h.0, subst (λ f. AllByRecursion (IsBelow (offset_limit f)) os) (sym e) h.1, h.2)
fits_under u _ e h = h

flat_none : (t : TypeData) (f : Form) → Fits (flat_nulls t f 0)
flat_none t booleans_of = omega arith
flat_none t (primitives_of p) = omega arith
flat_none t (binaries_of large text) = (omega arith, (some_limit (large_by (form_of t)), tt))
flat_none t (fixed_size_binaries_of k) = (omega arith, omega (arith, length-replicate {A = ℕ} (0 * k) 0))
flat_none t (views_of text) = (omega arith, omega arith)
flat_none t _ = omega arith

mutual
  pub none_fit : (t : TypeData) → Fits (null_layout t 0)
  none_fit (T.list (T.field a t b m)) = (omega arith, (omega arith, tt), none_fit t)
  none_fit (T.large_list (T.field a t b m)) = (omega arith, (omega arith, tt), none_fit t)
  none_fit (T.map (T.field a t b m) o) = (omega arith, (omega arith, tt), none_fit t)
  none_fit (T.fixed_size_list (T.field a t b m) k) = let none : 0 ≡ 0 * k = omega arith in (omega arith, subst (λ i. Fits (null_layout t i)) none (none_fit t))
  none_fit (T.struct fs) = (omega arith, all_none_fit fs)
  none_fit (T.union fs ids Sparse) = (omega arith, all_none_fit fs)
  none_fit (T.union fs ids Dense) = (omega arith, tt, selected_none_fit fs (select ids (first_number ids)))
  none_fit (T.dictionary k t o) = (omega arith, none_fit t)
  none_fit (T.extension e t m) = fits_under (T.extension e t m) (null_layout t 0) (ap form_of (sym (type-null t 0))) (none_fit t)
  none_fit t = flat_none t (form_of t)

  pub all_none_fit : (fs : FieldList) → AllFit (null_layouts fs 0)
  all_none_fit no_fields = tt
  all_none_fit (and_field (T.field a t b m) fs) = (none_fit t, all_none_fit fs)

  selected_none_fit : (fs : FieldList) (i : ℕ) → AllFit (null_selected fs i 0)
  selected_none_fit no_fields i = tt
  selected_none_fit (and_field (T.field a t b m) fs) zero = (none_fit t, all_none_fit fs)
  selected_none_fit (and_field (T.field a t b m) fs) (suc i) = (none_fit t, selected_none_fit fs i)
