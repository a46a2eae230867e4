-- The canonical array of picked bits.
use Rattle.std.proofs.Common.{◌≡◌, ℕ, zero, suc, ◌<◌, ◌^◌, Bool, true, false, cond, List, [], ◌∷◌, length, map, get_or, refl, ap, ap₂, sym, ◌∙◌, subst, arith, Option, Some, None}
use Rattle.std.specs.Prelude.{unwrap_or, ◌&&◌, if◌then◌else◌}
use Rattle.std.specs.List.{list_all}
use Rattle.std.specs.Simd.Lanes.{zip2}
use Rattle.std.proofs.lemmas.Bool.{false≢true}
use Rattle.std.proofs.lemmas.List.{length-map}
use Rattle.std.proofs.lemmas.Simd.{zip2-map}
use Rattle.arrow_buffers.specs.Bits.{Bits, plain, both, same}
use Rattle.arrow_types.specs.Seen.{seen}
use Rattle.arrow_types.specs.TypeData.{TypeData}
use Rattle.arrow_types.specs.Types.{physical_of}
use Rattle.arrow_types.specs.declared.datatype.PhysicalType.TheVariants as physical
use Rattle.arrow_flat.specs.Booleans.{Booleans, IsSound, slots}
use Rattle.arrow_flat.specs.Primitives.{MaskHasLength, valid_at, masked_values as option_masked}
use Rattle.arrow_flat.specs.Slots.{Slot, bool}
use Rattle.arrow_flat.proofs.Lists.{map-map, map-same}
use Rattle.arrow_layout.specs.Canon.{canon, boolean_of}
use Rattle.arrow_layout.specs.Fits.{Fits}
use Rattle.arrow_layout.specs.Forms.{form_of, booleans_of}
use Rattle.arrow_layout.specs.Layouts.{booleans}
use Rattle.arrow_meaning.specs.Nodes.{boolean_layout}
use Rattle.arrow_layout.proofs.ByForm.{canon-form, fill-form}
use Rattle.arrow_layout.proofs.Physical.{physical_by, physical-by}
use Rattle.arrow_canon.specs.Picks.{pick, picks, picked, ArePlaces, IsTypeFor, valid_place, picked_mask}
use Rattle.arrow_canon.specs.Runs.{places, AreWithin, canon_of_runs}
use Rattle.arrow_canon.specs.Steps.{values_or}
use Rattle.arrow_canon.specs.declared.run.Run.{Run}
use Rattle.arrow_canon.proofs.Forms.{form_of_physical}
use Rattle.arrow_canon.proofs.MaskedSlots.{slot_of}
use Rattle.arrow_canon.proofs.Picked.{picked_slots, mask_picked, mask_fits}
use Rattle.arrow_canon.proofs.Places.{places_within}

-- ---- bits and a mask of them

and_true : (x : Bool) → (x && true) ≡ x
and_true true = refl
and_true false = refl

one_both : (x bit : Bool) → (x && bit) ≡ unwrap_or (cond bit (Some x) None) false
one_both true true = refl
one_both true false = refl
one_both false true = refl
one_both false false = refl

unmasked_bit : (xs : List Bool) (i : ℕ) → (get_or xs i false && true) ≡ unwrap_or (get_or (map Some xs) i None) false
unmasked_bit [] i = refl
unmasked_bit (x ∷ xs) zero = and_true x
unmasked_bit (x ∷ xs) (suc i) = unmasked_bit xs i

masked_bit : (bits xs : List Bool) (i : ℕ) → length bits ≡ length xs → (get_or xs i false && get_or bits i false) ≡ unwrap_or (get_or (zip2 (λ bit x. cond bit (Some x) None) bits xs) i None) false
masked_bit [] [] i e = refl
masked_bit [] (x ∷ xs) i e = absurd (omega (arith, e))
masked_bit (bit ∷ bits) [] i e = absurd (omega (arith, e))
masked_bit (bit ∷ bits) (x ∷ xs) zero e = one_both x bit
masked_bit (bit ∷ bits) (x ∷ xs) (suc i) e = masked_bit bits xs i (omega (arith, e))

module _ (a : Booleans) (fits : MaskHasLength a.mask (length a.values.bits)) where
  by_mask : (m : Option Bits) (i : ℕ) → MaskHasLength m (length a.values.bits) → (get_or a.values.bits i false && valid_at m i) ≡ unwrap_or (get_or (option_masked m a.values.bits) i None) false
  by_mask None i h = unmasked_bit a.values.bits i
  by_mask (Some b) i h = masked_bit b.bits a.values.bits i h

  one_place : (p : Option ℕ) → (valid_place (Some a.values) p && valid_place a.mask p) ≡ unwrap_or (pick None (slots a) p) false
  one_place None = refl
  one_place (Some i) = by_mask a.mask i fits

  both_picked : (ps : List (Option ℕ)) → both (map (valid_place (Some a.values)) ps) (map (valid_place a.mask) ps) ≡ values_or false (picks None (slots a) ps)
  both_picked ps =
      zip2-map (λ x y. x && y) (valid_place (Some a.values)) (valid_place a.mask) ps
      ∙ map-same (λ p. valid_place (Some a.values) p && valid_place a.mask p) (λ p. unwrap_or (pick None (slots a) p) false) one_place ps
      ∙ sym (map-map (λ x. unwrap_or x false) (pick None (slots a)) ps)

  -- where the mask of the picked slots is needed
  pub values_both : (ps : List (Option ℕ)) (b : Bits) → Some b ≡ picked_mask a.mask ps → both (map (valid_place (Some a.values)) ps) b.bits ≡ values_or false (picks None (slots a) ps)
  values_both ps b e = ap (both (map (valid_place (Some a.values)) ps)) (needed_bits (list_all same bits) e) ∙ both_picked ps
    where
      bits : List Bool
      bits = map (valid_place a.mask) ps

      needed_bits : (all : Bool) → Some b ≡ (if all then None else Some (plain bits)) → b.bits ≡ bits
      needed_bits true e = cc
      needed_bits false e = let q : b ≡ plain bits = cc in ap (λ b. b.bits) q

  -- and where it isn't
  pub values_all : (ps : List (Option ℕ)) → None ≡ picked_mask a.mask ps → map (valid_place (Some a.values)) ps ≡ values_or false (picks None (slots a) ps)
  values_all ps e = sym (both_all (map (valid_place (Some a.values)) ps) bits (length-map ps (valid_place (Some a.values)) ∙ sym (length-map ps (valid_place a.mask))) (all_needed (list_all same bits) refl e)) ∙ both_picked ps
    where
      bits : List Bool
      bits = map (valid_place a.mask) ps

      both_all : (xs bits : List Bool) → length xs ≡ length bits → list_all same bits ≡ true → both xs bits ≡ xs
      both_all [] bits n h = refl
      both_all (x ∷ xs) [] n h = absurd (omega (arith, n))
      both_all (x ∷ xs) (true ∷ bits) n h = ap₂ (λ y ys. y ∷ ys) (and_true x) (both_all xs bits (omega (arith, n)) h)
      both_all (x ∷ xs) (false ∷ bits) n h = absurd (false≢true h)

      all_needed : (all : Bool) → list_all same bits ≡ all → None ≡ (if all then None else Some (plain bits)) → list_all same bits ≡ true
      all_needed true q e = q
      all_needed false q e = cc

-- ---- the layout

one_value : (x : Option Bool) → boolean_of (slot_of bool x) ≡ unwrap_or x false
one_value None = refl
one_value (Some x) = refl

canonical_by : (a : Booleans) (t : TypeData) (ps : List (Option ℕ)) → form_of t ≡ booleans_of → MaskHasLength a.mask (length a.values.bits) → ArePlaces (length a.values.bits) ps
    → canon t (picked t (boolean_layout a) ps) ≡ booleans t (picked_mask a.mask ps) (plain (values_or false (picks None (slots a) ps)))
canonical_by a t ps form fits within =
    let m = a.mask in
    let xs = a.values.bits in
    let ys = picks None (slots a) ps in
    let s : List Slot = map (slot_of bool) ys in
    ap (canon t) (picked_slots bool t m xs ps (fill-form t booleans_of form) fits)
    ∙ canon-form t booleans_of s form
    ∙ ap (λ b. booleans t b (plain (map boolean_of s))) (mask_picked bool (λ x. refl) m xs ps fits within)
    ∙ ap (λ bits. booleans t (picked_mask m ps) (plain bits)) (map-map boolean_of (slot_of bool) ys ∙ map-same (λ x. boolean_of (slot_of bool x)) (λ x. unwrap_or x false) one_value ys)

module _ (a : Booleans) (sound : IsSound a.dtype a.mask a.values) (t : TypeData) (of_type : IsTypeFor t (boolean_layout a)) where
  form_for : form_of t ≡ booleans_of
  form_for = of_type ∙ form_of_physical (seen a.dtype) physical.Boolean tt sound.array.stored

  pub stored_for : physical_of t ≡ Some physical.Boolean
  stored_for = physical-by t ∙ ap (physical_by t) form_for

  module _ (rs : List Run) (within : AreWithin (length a.values.bits) rs) where
    same_canon : canon_of_runs t (boolean_layout a) rs ≡ booleans t (picked_mask a.mask (places rs)) (plain (values_or false (picks None (slots a) (places rs))))
    same_canon = canonical_by a t (places rs) form_for sound.array.fits (places_within (length a.values.bits) rs within)

    many : length (values_or false (picks None (slots a) (places rs))) ≡ length (places rs)
    many = length-map (picks None (slots a) (places rs)) (λ x. unwrap_or x false) ∙ length-map (places rs) (pick None (slots a))

    pub fits_if : length (places rs) < 2 ^ 64 → Fits (canon_of_runs t (boolean_layout a) rs)
    fits_if h = subst Fits (sym same_canon) (omega (arith, h, many))

    -- an array of canonical parts is canonical
    pub canonical_booleans : (b : Booleans) → seen b.dtype ≡ t → b.values ≡ plain (values_or false (picks None (slots a) (places rs))) → b.mask ≡ picked_mask a.mask (places rs)
        → boolean_layout b ≡ canon_of_runs t (boolean_layout a) rs
    canonical_booleans b dtype values mask =
        ap (λ d. booleans d b.mask b.values) dtype ∙ ap (λ m. booleans t m b.values) mask
        ∙ ap (booleans t (picked_mask a.mask (places rs))) values ∙ sym same_canon

    pub mask_of_parts : (m : Option Bits) (vs : Bits) → m ≡ picked_mask a.mask (places rs) → vs ≡ plain (values_or false (picks None (slots a) (places rs))) → MaskHasLength m (length vs.bits)
    mask_of_parts m vs e h =
        subst (λ m. MaskHasLength m (length vs.bits)) (sym e) (mask_fits a.mask (places rs) (length vs.bits) (ap (λ b. length b.bits) h ∙ many))
