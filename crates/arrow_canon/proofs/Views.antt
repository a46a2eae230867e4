-- The canonical arrays of picked views.
use Rattle.std.proofs.Common.{◌≡◌, ℕ, zero, suc, ◌+◌, ◌^◌, ◌-◌, ◌<◌, ◌≤◌, nat_le, Bool, true, false, cond, List, [], ◌∷◌, ◌++◌, length, map, take, drop, get_or, slice_get, sum, refl, ap, sym, subst, ◌∙◌, arith, length-take, take_all, Option, Some, None}
use Rattle.std.specs.Prelude.{unwrap_or}
use Rattle.std.specs.List.{AllByRecursion}
use Rattle.std.specs.Simd.Lanes.{zip2}
use Rattle.std.proofs.lemmas.Bool.{le-leb, lt-leb, leb-true}
use Rattle.std.proofs.lemmas.List.{length-map}
use Rattle.std.proofs.lemmas.Option.{slice_get-map}
use Rattle.arrow_buffers.specs.Bits.{Bits}
use Rattle.arrow_types.specs.Seen.{seen}
use Rattle.arrow_types.specs.TypeData.{TypeData}
use Rattle.arrow_types.specs.Types.{physical_of}
use Rattle.arrow_types.specs.declared.datatype.PhysicalType.TheVariants as physical
use Rattle.arrow_flat.specs.Natives.{octets}
use Rattle.arrow_flat.specs.Packs.{view_limit, pack, packed_views}
use Rattle.arrow_flat.specs.Primitives.{MaskHasLength, valid_at, masked_values as option_masked}
use Rattle.arrow_flat.specs.Slots.{Slot, bytes}
use Rattle.arrow_flat.specs.Views.{View, inline, long, IsView, longs, view_bytes, view_length}
use Rattle.arrow_flat.proofs.Lists.{all_map, map-map, map-same}
use Rattle.arrow_flat.proofs.Masked.{slot_at, null_at, take_at}
use Rattle.arrow_flat.proofs.PackedViews.{total, sum-total, length-views, lengths-views}
use Rattle.arrow_views.specs.ViewArrays.{ViewArray, IsSound, AreViews, AreTextsIf, physical_view, values_in, values_of, slots}
use Rattle.arrow_views.proofs.Windows.{values_count, values_fit, slots_count}
use Rattle.arrow_layout.specs.Canon.{canon, bytes_or}
use Rattle.arrow_layout.specs.Denote.{denote}
use Rattle.arrow_layout.specs.Fits.{Fits, Small}
use Rattle.arrow_layout.specs.Forms.{form_of, views_of, text_by}
use Rattle.arrow_layout.specs.Layouts.{views}
use Rattle.arrow_layout.specs.SlotsOf.{IsTextIf, IsSlot, HasSlots, fill}
use Rattle.arrow_layout.specs.WellFormed.{WellFormed}
use Rattle.arrow_layout.proofs.ByForm.{canon-form, fill-form}
use Rattle.arrow_layout.proofs.CanonForms.{canon_well_formed}
use Rattle.arrow_layout.proofs.Conforms.{conforms}
use Rattle.arrow_layout.proofs.Fills.{fill_is_slot}
use Rattle.arrow_layout.proofs.Physical.{physical_by, physical-by}
use Rattle.arrow_meaning.specs.Nodes.{view_layout}
use Rattle.arrow_meaning.proofs.FlatLayouts.{view_form, well_formed_view}
use Rattle.arrow_meaning.proofs.Octets.{octets_count}
use Rattle.arrow_canon.specs.Picks.{pick, picks, picked, ArePlaces, IsTypeFor, picked_mask}
use Rattle.arrow_canon.specs.Runs.{places, AreWithin, canon_of_runs}
use Rattle.arrow_canon.specs.Steps.{values_or}
use Rattle.arrow_canon.specs.declared.run.Run.{Run}
use Rattle.arrow_canon.proofs.FixedSizes.{all_picks}
use Rattle.arrow_canon.proofs.MaskedSlots.{slot_of}
use Rattle.arrow_canon.proofs.Picked.{values_picked, picked_slots, mask_picked, mask_fits}
use Rattle.arrow_canon.proofs.Places.{places_within}

-- ---- the values, none for a null

abbrev pub slot_values : ViewArray → List (List ℕ)
slot_values a = values_or [] (slots a)

abbrev or_none : Option (List ℕ) → List ℕ
or_none x = unwrap_or x []

pub value_there : (a : ViewArray) (i : ℕ) (x : List ℕ) → MaskHasLength a.mask (length a.views) → valid_at a.mask i ≡ true → slice_get (values_of a) i ≡ Some x
    → slice_get (slot_values a) i ≡ Some x
value_there a i x fits v e =
    let at : slice_get (slots a) i ≡ Some (Some x) = slot_at a.mask (values_of a) i x (values_fit a fits) e ∙ ap (λ b. Some (cond b (Some x) None)) v in
    slice_get-map or_none (slots a) i ∙ rw at refl

pub nothing_there : (a : ViewArray) (i : ℕ) → MaskHasLength a.mask (length a.views) → valid_at a.mask i ≡ false → i < length a.views → slice_get (slot_values a) i ≡ Some []
nothing_there a i fits v l =
    let at : slice_get (slots a) i ≡ Some None = null_at a.mask (values_of a) i (values_fit a fits) (omega (arith, values_count a)) v in
    slice_get-map or_none (slots a) i ∙ rw at refl

pub slot_values_count : (a : ViewArray) → MaskHasLength a.mask (length a.views) → length (slot_values a) ≡ length a.views
slot_values_count a fits = length-map (slots a) or_none ∙ slots_count a fits

-- ---- how many bytes they have

total_join : (us vs : List (List ℕ)) → total (us ++ vs) ≡ total us + total vs
total_join [] vs = omega arith
total_join (u ∷ us) vs = let q : total (us ++ vs) ≡ total us + total vs = total_join us vs in omega arith

pub total_more : (vs : List (List ℕ)) (i : ℕ) (v : List ℕ) → slice_get vs i ≡ Some v → total (take (i + 1) vs) ≡ total (take i vs) + length v
total_more vs i v e =
    let one : total (take i vs) + (length v + 0) ≡ total (take i vs) + length v = omega arith in
    ap total (take_at vs i v e) ∙ total_join (take i vs) (v ∷ []) ∙ one

pub total_first : (n : ℕ) (vs : List (List ℕ)) → total (take n vs) ≤ total vs
total_first zero vs = omega arith
total_first (suc n) [] = omega arith
total_first (suc n) (v ∷ vs) = let q : total (take n vs) ≤ total vs = total_first n vs in omega arith

-- what a step of the count finds
pub more_counted : (vs : List (List ℕ)) (i : ℕ) (value : List ℕ) (n : ℕ) → slice_get vs i ≡ Some (octets value) → n ≡ total (take i vs) → n + length value ≡ total (take (i + 1) vs)
more_counted vs i value n e h =
    let q : total (take (i + 1) vs) ≡ total (take i vs) + length (octets value) = total_more vs i (octets value) e in
    omega (arith, q, octets_count value, h)

pub too_many : (vs : List (List ℕ)) (i : ℕ) (value : List ℕ) (n : ℕ) → slice_get vs i ≡ Some (octets value) → n ≡ total (take i vs) → n ≤ 2 ^ 62 → 2 ^ 62 - n < length value
    → false ≡ nat_le (sum (map length vs)) (2 ^ 62)
too_many vs i value n e h l m =
    let q : n + length value ≡ total (take (i + 1) vs) = more_counted vs i value n e h in
    let past : 2 ^ 62 < sum (map length vs) = omega (arith, q, total_first (i + 1) vs, sum-total vs) in
    sym (lt-leb (sum (map length vs)) (2 ^ 62) past)

pub not_too_many : (vs : List (List ℕ)) (i end n : ℕ) → end ≡ length vs → end ≤ i → n ≡ total (take i vs) → n ≤ 2 ^ 62
    → true ≡ nat_le (sum (map length vs)) (2 ^ 62)
not_too_many vs i end n e g h l =
    let q : n ≡ total vs = h ∙ ap total (take_all i vs (omega (arith, e, g))) in
    let within : sum (map length vs) ≤ 2 ^ 62 = omega (arith, q, sum-total vs) in
    sym (le-leb (sum (map length vs)) (2 ^ 62) within)

-- ---- each fits into a buffer

view_fits : (buffers : List (List ℕ)) (v : View) → IsView buffers v → length (view_bytes buffers v) ≤ view_limit
view_fits buffers (inline n bs) h = omega (arith, length-take n bs, h.0)
view_fits buffers (long n p b o) h = omega (arith, length-take n (drop o (get_or buffers b [])), h.4)

abbrev IsPacked : List ℕ → Type 0
IsPacked v = length v ≤ view_limit

one_fits : (bit : Bool) (v : List ℕ) → IsPacked v → IsPacked (unwrap_or (cond bit (Some v) None) [])
one_fits true v h = h
one_fits false v h = omega arith

masked_fit : (m : Option Bits) (vs : List (List ℕ)) → AllByRecursion IsPacked vs → AllByRecursion IsPacked (values_or [] (option_masked m vs))
masked_fit None [] h = tt
masked_fit None (v ∷ vs) h = (h.0, masked_fit None vs h.1)
masked_fit (Some b) vs h = by b.bits vs h
  where
    by : (bits : List Bool) (vs : List (List ℕ)) → AllByRecursion IsPacked vs → AllByRecursion IsPacked (values_or [] (zip2 (λ bit x. cond bit (Some x) None) bits vs))
    by [] vs h = tt
    by (bit ∷ bits) [] h = tt
    by (bit ∷ bits) (v ∷ vs) h = (one_fits bit v h.0, by bits vs h.1)

pub slot_values_fit : (a : ViewArray) → AllByRecursion (IsView a.buffers) a.views → AllByRecursion IsPacked (slot_values a)
slot_values_fit a h = masked_fit a.mask (values_of a) (all_map (IsView a.buffers) IsPacked (view_bytes a.buffers) (view_fits a.buffers) a.views h)

-- ---- the layout

one_value : (x : Option (List ℕ)) → bytes_or [] (slot_of bytes x) ≡ unwrap_or x []
one_value None = refl
one_value (Some x) = refl

texts_back : (text : Bool) (xs : List (List ℕ)) → AllByRecursion (IsTextIf text) xs → AreTextsIf text xs
texts_back true [] h = tt
texts_back true (x ∷ xs) h = (h.0, texts_back true xs h.1)
texts_back false xs h = tt

physical_in : (text : Bool) → cond text physical.Utf8View physical.BinaryView ≡ physical_view text
physical_in true = refl
physical_in false = refl

module _ (text : Bool) (a : ViewArray) (sound : IsSound text a.dtype a.mask a.views a.buffers) (rs : List Run) (within : AreWithin (length a.views) rs) where
  abbrev pub vs : List (List ℕ)
  vs = picks [] (slot_values a) (places rs)

  views_count : length vs ≡ length (places rs)
  views_count = length-map (places rs) (pick [] (slot_values a))

  pub values_fit_packed : AllByRecursion IsPacked vs
  values_fit_packed = all_picks IsPacked [] (omega arith) (slot_values a) (places rs) (slot_values_fit a sound.placed)

  canon_for : (t : TypeData) → form_of t ≡ views_of text
      → canon_of_runs t (view_layout a) rs ≡ views t (picked_mask a.mask (places rs)) (packed_views view_limit vs) (pack view_limit (longs vs))
  canon_for t form =
      let m = a.mask in
      let ps = places rs in
      let ys = picks None (slots a) ps in
      let s : List Slot = map (slot_of bytes) ys in
      let same : map (bytes_or []) s ≡ vs =
      map-map (bytes_or []) (slot_of bytes) ys ∙ map-same (λ x. bytes_or [] (slot_of bytes x)) or_none one_value ys ∙ sym (values_picked [] (slots a) ps) in
      let there : ArePlaces (length (values_of a)) ps = subst (λ n. ArePlaces n ps) (sym (values_count a)) (places_within (length a.views) rs within) in
      ap (canon t) (picked_slots bytes t m (values_of a) ps (fill-form t (views_of text) form) (values_fit a sound.array.fits))
      ∙ canon-form t (views_of text) s form
      ∙ ap (λ m. views t m (packed_views view_limit (map (bytes_or []) s)) (pack view_limit (longs (map (bytes_or []) s))))
      (mask_picked bytes (λ x. refl) m (values_of a) ps (values_fit a sound.array.fits) there)
      ∙ ap (λ vs. views t (picked_mask m ps) (packed_views view_limit vs) (pack view_limit (longs vs))) same

  lengths_kept : sum (map view_length (packed_views view_limit vs)) ≡ sum (map length vs)
  lengths_kept = ap sum (lengths-views view_limit vs 0 0)

  packed_count : length (packed_views view_limit vs) ≡ length (places rs)
  packed_count = length-views view_limit vs 0 0 ∙ views_count

  own_form : form_of (seen a.dtype) ≡ views_of text
  own_form = view_form text (seen a.dtype) sound.array.stored

  fits_for : (t : TypeData) → form_of t ≡ views_of text → length (places rs) < 2 ^ 64 → sum (map length vs) ≤ 2 ^ 62 → Fits (canon_of_runs t (view_layout a) rs)
  fits_for t form h few = subst Fits (sym (canon_for t form)) (omega (arith, h, packed_count), omega (arith, few, lengths_kept))

  module _ (t : TypeData) (of_type : IsTypeFor t (view_layout a)) where
    form_for : form_of t ≡ views_of text
    form_for = of_type ∙ own_form

    pub stored_for : physical_of t ≡ Some (physical_view text)
    stored_for = physical-by t ∙ ap (physical_by t) form_for ∙ ap Some (physical_in text)

    pub fits_if : length (places rs) < 2 ^ 64 → sum (map length vs) ≤ 2 ^ 62 → Fits (canon_of_runs t (view_layout a) rs)
    fits_if = fits_for t form_for

    pub few_if : Fits (canon_of_runs t (view_layout a) rs) → sum (map length vs) ≤ 2 ^ 62
    few_if f = let q = subst Fits (canon_for t form_for) f in omega (arith, lengths_kept, q.1)

    -- an array of canonical parts is canonical
    pub layout_of_parts : (b : ViewArray) → seen b.dtype ≡ t → b.views ≡ packed_views view_limit vs → b.buffers ≡ pack view_limit (longs vs) → b.mask ≡ picked_mask a.mask (places rs)
        → view_layout b ≡ canon_of_runs t (view_layout a) rs
    layout_of_parts b dtype us buffers mask =
        let m = picked_mask a.mask (places rs) in
        ap (λ d. views d b.mask b.views b.buffers) dtype ∙ ap (λ m. views t m b.views b.buffers) mask
        ∙ ap (λ us. views t m us b.buffers) us ∙ ap (views t m (packed_views view_limit vs)) buffers ∙ sym (canon_for t form_for)

  -- the parts fit
  pub mask_of_parts : (m : Option Bits) (us : List View) → m ≡ picked_mask a.mask (places rs) → us ≡ packed_views view_limit vs → MaskHasLength m (length us)
  mask_of_parts m us e h = subst (λ m. MaskHasLength m (length us)) (sym e) (mask_fits a.mask (places rs) (length us) (ap length h ∙ packed_count))

  module _ (short : length a.views < 2 ^ 64) (counted : length (places rs) < 2 ^ 64) (raw : List (List ℕ)) (same : map octets raw ≡ a.buffers) (few : sum (map length vs) ≤ 2 ^ 62) where
    well : WellFormed (views (seen a.dtype) (picked_mask a.mask (places rs)) (packed_views view_limit vs) (pack view_limit (longs vs)))
    well =
        let u = seen a.dtype in
        let l = view_layout a in
        let slots_there : HasSlots u (picked u l (places rs)) =
        all_picks (IsSlot u) (fill u) (fill_is_slot u sound.array.carried) (denote l) (places rs) (conforms l (well_formed_view text a raw sound same short)) in
        subst WellFormed (canon_for u own_form)
        (canon_well_formed u (picked u l (places rs)) sound.array.carried slots_there (fits_for u own_form counted few) (subst Small (sym (canon_for u own_form)) tt))

    pub views_of_parts : (us : List View) (buffers : List (List ℕ)) → us ≡ packed_views view_limit vs → buffers ≡ pack view_limit (longs vs) → AreViews buffers us
    views_of_parts us buffers h k = subst (λ bs. AreViews bs us) (sym k) (subst (AreViews (pack view_limit (longs vs))) (sym h) well.1)

    pub texts_of_parts : (us : List View) (buffers : List (List ℕ)) → us ≡ packed_views view_limit vs → buffers ≡ pack view_limit (longs vs) → AreTextsIf text (values_in buffers us)
    texts_of_parts us buffers h k =
        let form : text_by (form_of (seen a.dtype)) ≡ text = ap text_by own_form in
        let there = values_in (pack view_limit (longs vs)) (packed_views view_limit vs) in
        subst (λ bs. AreTextsIf text (values_in bs us)) (sym k)
        (subst (λ us. AreTextsIf text (values_in (pack view_limit (longs vs)) us)) (sym h)
        (texts_back text there (subst (λ x. AllByRecursion (IsTextIf x) there) form well.3)))

-- the answer of the test
pub past_limit : (vs : List (List ℕ)) → nat_le (sum (map length vs)) (2 ^ 62) ≡ false → sum (map length vs) ≤ 2 ^ 62 → ⊥
past_limit vs e h = let no : false ≡ true = sym e ∙ le-leb (sum (map length vs)) (2 ^ 62) h in cc

pub within_limit : (vs : List (List ℕ)) → nat_le (sum (map length vs)) (2 ^ 62) ≡ true → sum (map length vs) ≤ 2 ^ 62
within_limit vs e = leb-true (sum (map length vs)) (2 ^ 62) e

past_end : {A : Type 0} (xs : List A) (i : ℕ) (d : A) → length xs ≤ i → d ≡ get_or xs i d
past_end [] i d h = refl
past_end (x ∷ xs) zero d h = absurd (omega (arith, h))
past_end (x ∷ xs) (suc i) d h = past_end xs i d (omega (arith, h))

-- none past the last slot
pub none_past : (a : ViewArray) (i : ℕ) → MaskHasLength a.mask (length a.views) → length a.views ≤ i → [] ≡ get_or (slot_values a) i []
none_past a i fits h = past_end (slot_values a) i [] (omega (arith, h, slot_values_count a fits))
