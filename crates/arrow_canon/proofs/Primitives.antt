-- The canonical array of picked values of fixed width.
use Rattle.std.proofs.Common.{◌≡◌, ℕ, ◌<◌, ◌^◌, List, ◌∷◌, [], length, map, get_or, slice_get, refl, ap, sym, ◌∙◌, subst, arith, Option, Some, None}
use Rattle.std.specs.Prelude.{ℤ, unwrap_or}
use Rattle.std.proofs.lemmas.List.{length-map}
use Rattle.std.proofs.lemmas.Option.{get_or_from_slice_get}
use Rattle.std.proofs.Math.ListN.{get_or-map}
use Rattle.arrow_buffers.specs.Bits.{Bits}
use Rattle.arrow_types.specs.Seen.{seen}
use Rattle.arrow_types.specs.TypeData.{TypeData}
use Rattle.arrow_types.specs.Types.{physical_of}
use Rattle.arrow_types.specs.declared.datatype.PhysicalType.TheVariants as physical
use Rattle.arrow_types.specs.declared.datatype.PrimitiveType.{PrimitiveType}
use Rattle.arrow_flat.specs.Numbers.{zeros}
use Rattle.arrow_flat.specs.Primitives.{Primitives, IsSound, MaskHasLength, slots, masked_values as option_masked}
use Rattle.arrow_flat.specs.Slots.{Slot, num}
use Rattle.arrow_layout.specs.Canon.{canon, numbers_or}
use Rattle.arrow_layout.specs.Denote.{masked}
use Rattle.arrow_layout.specs.Fits.{Fits}
use Rattle.arrow_layout.specs.Forms.{form_of, primitives_of}
use Rattle.arrow_layout.specs.Layouts.{primitives}
use Rattle.arrow_layout.specs.SlotsOf.{fill}
use Rattle.arrow_meaning.specs.Nodes.{primitive_layout}
use Rattle.arrow_layout.proofs.ByForm.{canon-form, fill-form}
use Rattle.arrow_layout.proofs.Physical.{physical_by, physical-by}
use Rattle.arrow_flat.proofs.Lists.{map-map, map-same}
use Rattle.arrow_canon.specs.Picks.{picks, picked, ArePlaces, IsTypeFor, picked_mask}
use Rattle.arrow_canon.specs.Runs.{places, AreWithin, canon_of_runs}
use Rattle.arrow_canon.specs.Steps.{values_or}
use Rattle.arrow_canon.specs.declared.run.Run.{Run}
use Rattle.arrow_canon.proofs.Forms.{form_of_physical}
use Rattle.arrow_canon.proofs.MaskedSlots.{slot_of}
use Rattle.arrow_canon.proofs.Picked.{values_picked, picked_slots, mask_picked, mask_fits}
use Rattle.arrow_canon.proofs.Places.{places_within}

-- the value of a slot, where a step of a loop stands
pub value_next : {T : Type 0} (d : T) (ys : List (Option T)) (i : ℕ) (x : Option T) → slice_get ys i ≡ Some x → unwrap_or x d ≡ get_or (values_or d ys) i d
value_next d ys i x e = sym (get_or-map (λ x. unwrap_or x d) ys i None ∙ ap (λ x. unwrap_or x d) (get_or_from_slice_get ys i x None e))

-- without a mask the values are those of the array
unmasked_values : {T : Type 0} (d : T) (xs : List T) → values_or d (option_masked None xs) ≡ xs
unmasked_values d [] = refl
unmasked_values d (x ∷ xs) = ap (λ ys. x ∷ ys) (unmasked_values d xs)

pub all_values : {T : Type 0} (d : T) (m : Option Bits) (xs : List T) → m ≡ None → values_or d (option_masked m xs) ≡ xs
all_values d m xs e = ap (λ m. values_or d (option_masked m xs)) e ∙ unmasked_values d xs

module _ {T : Type 0} (parts : T → List ℤ) (zero : T) (p : PrimitiveType) (zero_parts : parts zero ≡ zeros p) where
  abbrev number : T → Slot
  number x = num (parts x)

  one_value : (x : Option T) → numbers_or (zeros p) (slot_of number x) ≡ parts (unwrap_or x zero)
  one_value None = sym zero_parts
  one_value (Some x) = refl

  values_same : (ys : List (Option T)) → map (numbers_or (zeros p)) (map (slot_of number) ys) ≡ map parts (values_or zero ys)
  values_same ys =
      map-map (numbers_or (zeros p)) (slot_of number) ys ∙ map-same (λ x. numbers_or (zeros p) (slot_of number x)) (λ x. parts (unwrap_or x zero)) one_value ys
      ∙ sym (map-map parts (λ x. unwrap_or x zero) ys)

  canonical_by : (a : Primitives T) (t : TypeData) (ps : List (Option ℕ)) → form_of t ≡ primitives_of p → MaskHasLength a.mask (length a.values) → ArePlaces (length a.values) ps
      → canon t (picked t (primitive_layout parts a) ps) ≡ primitives t (picked_mask a.mask ps) (map parts (picks zero (values_or zero (slots a)) ps))
  canonical_by a t ps form fits within =
      let m = a.mask in
      let ys = picks None (slots a) ps in
      let s : List Slot = map (slot_of number) ys in
      ap (λ zs. canon t (picks (fill t) (masked m zs) ps)) (map-map num parts a.values)
      ∙ ap (canon t) (picked_slots number t m a.values ps (fill-form t (primitives_of p) form) fits)
      ∙ canon-form t (primitives_of p) s form
      ∙ ap (λ b. primitives t b (map (numbers_or (zeros p)) s)) (mask_picked number (λ x. refl) m a.values ps fits within)
      ∙ ap (primitives t (picked_mask m ps)) (values_same ys ∙ ap (map parts) (sym (values_picked zero (slots a) ps)))

  module _ (a : Primitives T) (sound : IsSound p a.dtype a.mask (length a.values)) (t : TypeData) (of_type : IsTypeFor t (primitive_layout parts a)) where
    form_for : form_of t ≡ primitives_of p
    form_for = of_type ∙ form_of_physical (seen a.dtype) (physical.Primitive p) tt sound.stored

    pub stored_for : physical_of t ≡ Some (physical.Primitive p)
    stored_for = physical-by t ∙ ap (physical_by t) form_for

    module _ (rs : List Run) (within : AreWithin (length a.values) rs) where
      same_canon : canon_of_runs t (primitive_layout parts a) rs ≡ primitives t (picked_mask a.mask (places rs)) (map parts (picks zero (values_or zero (slots a)) (places rs)))
      same_canon = canonical_by a t (places rs) form_for sound.fits (places_within (length a.values) rs within)

      many : (vs : List T) → length (picks zero vs (places rs)) ≡ length (places rs)
      many vs = length-map (places rs) _

      pub fits_if : length (places rs) < 2 ^ 64 → Fits (canon_of_runs t (primitive_layout parts a) rs)
      fits_if h =
          let vs = picks zero (values_or zero (slots a)) (places rs) in
          subst Fits (sym same_canon) (omega (arith, h, length-map vs parts, many (values_or zero (slots a))))

      pub few_if : Fits (canon_of_runs t (primitive_layout parts a) rs) → length (places rs) < 2 ^ 64
      few_if f =
          let vs = picks zero (values_or zero (slots a)) (places rs) in
          let q : length (map parts vs) < 2 ^ 64 = subst Fits same_canon f in
          omega (arith, q, length-map vs parts, many (values_or zero (slots a)))

      -- an array of canonical parts is canonical
      pub canonical_numbers : (b : Primitives T) → seen b.dtype ≡ t → b.values ≡ picks zero (values_or zero (slots a)) (places rs) → b.mask ≡ picked_mask a.mask (places rs)
          → primitive_layout parts b ≡ canon_of_runs t (primitive_layout parts a) rs
      canonical_numbers b dtype values mask =
          ap (λ d. primitives d b.mask (map parts b.values)) dtype
          ∙ ap (λ m. primitives t m (map parts b.values)) mask
          ∙ ap (λ vs. primitives t (picked_mask a.mask (places rs)) (map parts vs)) values
          ∙ sym same_canon

      pub mask_of_parts : (m : Option Bits) (vs : List T) → m ≡ picked_mask a.mask (places rs) → vs ≡ picks zero (values_or zero (slots a)) (places rs) → MaskHasLength m (length vs)
      mask_of_parts m vs e h =
          subst (λ m. MaskHasLength m (length vs)) (sym e) (mask_fits a.mask (places rs) (length vs) (ap length h ∙ many (values_or zero (slots a))))
