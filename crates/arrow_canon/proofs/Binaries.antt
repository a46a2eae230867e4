-- The canonical arrays of picked binary values and strings.
use Rattle.std.proofs.Common.{◌≡◌, ℕ, ◌+◌, ◌-◌, ◌<◌, ◌^◌, ◌≤◌, ◌%◌, ℤ, Bool, true, false, cond, List, [], ◌∷◌, length, map, sum, flat_map, refl, ap, ap₂, sym, subst, ◌∙◌, arith, Option, Some, None}
use Rattle.std.specs.Prelude.{unwrap_or, pred, IsUtf8}
use Rattle.std.specs.List.{AllByRecursion}
use Rattle.std.specs.Simd.Lanes.{zip2}
use Rattle.std.proofs.lemmas.List.{length-map}
use Rattle.std.proofs.lemmas.List.Folds.{flat_map-map}
use Rattle.std.proofs.lemmas.Str.{IsUtf8-nil}
use Rattle.arrow_buffers.specs.Bits.{Bits}
use Rattle.arrow_buffers.specs.Offsets.{to_nat, end_of}
use Rattle.arrow_bytes.specs.Binaries.{Binaries, IsSound, AreTextsIf, layout_in, slot_count, slots, values_of}
use Rattle.arrow_types.specs.Carried.{IsBelow}
use Rattle.arrow_types.specs.Seen.{seen}
use Rattle.arrow_types.specs.TypeData.{TypeData}
use Rattle.arrow_types.specs.Types.{physical_of}
use Rattle.arrow_flat.specs.Natives.{octets}
use Rattle.arrow_flat.specs.Pieces.{pieces_from, pieces, AreTexts}
use Rattle.arrow_flat.specs.Primitives.{MaskHasLength, masked_values as option_masked}
use Rattle.arrow_flat.specs.Slots.{Slot, bytes}
use Rattle.arrow_flat.proofs.Lists.{map-map, map-same}
use Rattle.arrow_bytes.proofs.Windows.{fits_values, values_count}
use Rattle.arrow_layout.specs.Canon.{canon, bytes_or, offsets}
use Rattle.arrow_layout.specs.Denote.{masked}
use Rattle.arrow_layout.specs.Fits.{Fits}
use Rattle.arrow_layout.specs.Forms.{binaries_of, form_of, offset_limit}
use Rattle.arrow_layout.specs.Layouts.{binaries}
use Rattle.arrow_layout.specs.SlotsOf.{fill}
use Rattle.arrow_meaning.specs.Nodes.{binary_layout}
use Rattle.arrow_layout.proofs.ByForm.{canon-form, fill-form}
use Rattle.arrow_layout.proofs.Physical.{binary_kind, physical_by, physical-by}
use Rattle.arrow_layout.proofs.Pieces.{pieces_joined}
use Rattle.arrow_canon.specs.Picks.{pick, picks, IsTypeFor, picked_mask}
use Rattle.arrow_canon.specs.Runs.{places, AreWithin, canon_of_runs}
use Rattle.arrow_canon.specs.Steps.{concatenated, lengths}
use Rattle.arrow_canon.specs.declared.run.Run.{Run}
use Rattle.arrow_canon.proofs.FixedSizes.{all_picks}
use Rattle.arrow_canon.proofs.Forms.{strings_form}
use Rattle.arrow_canon.proofs.MaskedSlots.{slot_of, flat_map-same}
use Rattle.arrow_canon.proofs.Octets.{octets_joined, octets_part, string}
use Rattle.arrow_canon.proofs.Picked.{picked_slots, mask_picked, mask_fits}
use Rattle.arrow_canon.proofs.Places.{places_within}
use Rattle.arrow_canon.proofs.Strings.{end_joined, offsets_count, sums_below, below_sums}

-- ---- bytes in their range

octets_from : (a : ℕ) (os : List ℕ) (bs : List ℕ) → pieces_from a os (octets bs) ≡ map octets (pieces_from a os bs)
octets_from a [] bs = refl
octets_from a (o ∷ os) bs = ap₂ (λ y ys. y ∷ ys) (octets_part (o - a) a bs) (octets_from o os bs)

octets_pieces : (os : List ℕ) (bs : List ℕ) → pieces os (octets bs) ≡ map octets (pieces os bs)
octets_pieces [] bs = refl
octets_pieces (o ∷ os) bs = octets_from o os bs

-- ---- the slots of byte strings

string_length : (x : Option (List ℕ)) → length (bytes_or [] (slot_of string x)) ≡ length (unwrap_or x [])
string_length None = refl
string_length (Some x) = length-map x (λ b. b % 256)

string_bytes : (x : Option (List ℕ)) → bytes_or [] (slot_of string x) ≡ octets (unwrap_or x [])
string_bytes None = refl
string_bytes (Some x) = refl

lengths_same : (ys : List (Option (List ℕ))) → map (λ x. length (bytes_or [] x)) (map (slot_of string) ys) ≡ lengths ys
lengths_same ys =
    map-map (λ x. length (bytes_or [] x)) (slot_of string) ys ∙ map-same (λ x. length (bytes_or [] (slot_of string x))) (λ x. length (unwrap_or x [])) string_length ys

bytes_same : (ys : List (Option (List ℕ))) → flat_map (bytes_or []) (map (slot_of string) ys) ≡ octets (concatenated 0 ys)
bytes_same ys =
    flat_map-map (bytes_or []) (slot_of string) ys ∙ flat_map-same (λ x. bytes_or [] (slot_of string x)) (λ x. octets (unwrap_or x [])) string_bytes ys
    ∙ octets_joined (λ x. unwrap_or x []) ys

kind_in : (text large : Bool) → binary_kind large text ≡ layout_in text large
kind_in true true = refl
kind_in true false = refl
kind_in false true = refl
kind_in false false = refl

-- ---- strings stay strings

abbrev IsText : Option (List ℕ) → Type 0
IsText x = IsUtf8 (unwrap_or x [])

one_text : (bit : Bool) (x : List ℕ) → IsUtf8 x → IsText (cond bit (Some x) None)
one_text true x h = h
one_text false x h = IsUtf8-nil

some_texts : (bits : List Bool) (xs : List (List ℕ)) → AreTexts xs → AllByRecursion IsText (zip2 (λ bit x. cond bit (Some x) None) bits xs)
some_texts [] xs h = tt
some_texts (bit ∷ bits) [] h = tt
some_texts (bit ∷ bits) (x ∷ xs) h = (one_text bit x h.0, some_texts bits xs h.1)

masked_texts : (m : Option Bits) (xs : List (List ℕ)) → AreTexts xs → AllByRecursion IsText (option_masked m xs)
masked_texts None [] h = tt
masked_texts None (x ∷ xs) h = (h.0, masked_texts None xs h.1)
masked_texts (Some b) xs h = some_texts b.bits xs h

texts_or : (ys : List (Option (List ℕ))) → AllByRecursion IsText ys → AreTexts (map (λ x. unwrap_or x []) ys)
texts_or [] h = tt
texts_or (y ∷ ys) h = (h.0, texts_or ys h.1)

-- ---- the layout

module _ (text large : Bool) {O : Type 0} (number : O → ℤ) (a : Binaries O) (sound : IsSound text large number a) (t : TypeData) (of_type : IsTypeFor t (binary_layout number a)) where
  form_for : form_of t ≡ binaries_of large text
  form_for = of_type ∙ strings_form (seen a.dtype) text large sound.array.stored

  pub stored_for : physical_of t ≡ Some (layout_in text large)
  stored_for = physical-by t ∙ ap (physical_by t) form_for ∙ ap Some (kind_in text large)

  module _ (rs : List Run) (within : AreWithin (slot_count a) rs) where
    abbrev pub ys : List (Option (List ℕ))
    ys = picks None (slots number a) (places rs)

    pub values_within : AreWithin (length (values_of number a)) rs
    values_within = subst (λ n. AreWithin n rs) (sym (values_count number a)) within

    same_canon : canon_of_runs t (binary_layout number a) rs ≡ binaries t (picked_mask a.mask (places rs)) (offsets (lengths ys)) (octets (concatenated 0 ys))
    same_canon =
        let m = a.mask in
        let ps = places rs in
        let ns = map to_nat (map number a.offsets) in
        let s : List Slot = map (slot_of string) ys in
        ap (λ zs. canon t (picks (fill t) (masked m (map bytes zs)) ps)) (octets_pieces ns a.values)
        ∙ ap (λ zs. canon t (picks (fill t) (masked m zs) ps)) (map-map bytes octets (values_of number a))
        ∙ ap (canon t) (picked_slots string t m (values_of number a) ps (fill-form t (binaries_of large text) form_for) (fits_values number a sound.array.fits))
        ∙ canon-form t (binaries_of large text) s form_for
        ∙ ap (λ b. binaries t b (offsets (map (λ x. length (bytes_or [] x)) s)) (flat_map (bytes_or []) s))
        (mask_picked string (λ x. refl) m (values_of number a) ps (fits_values number a sound.array.fits) (places_within (length (values_of number a)) rs values_within))
        ∙ ap (λ ls. binaries t (picked_mask m ps) (offsets ls) (flat_map (bytes_or []) s)) (lengths_same ys)
        ∙ ap (binaries t (picked_mask m ps) (offsets (lengths ys))) (bytes_same ys)

    many : pred (length (offsets (lengths ys))) ≡ length (places rs)
    many = offsets_count ys ∙ length-map (places rs) (pick None (slots number a))

    module _ (limit : ℕ) (by_size : limit ≡ cond large (2 ^ 63) (2 ^ 31)) where
      limit_for : limit ≡ offset_limit (form_of t)
      limit_for = by_size ∙ sym (ap offset_limit form_for)

      pub fits_if : length (places rs) < 2 ^ 64 → sum (lengths ys) < limit → Fits (canon_of_runs t (binary_layout number a) rs)
      fits_if h k =
          let few : AllByRecursion (IsBelow limit) (offsets (lengths ys)) = sums_below limit 0 (lengths ys) (omega (arith, k)) in
          subst Fits (sym same_canon) (omega (arith, h, many), subst (λ n. AllByRecursion (IsBelow n) (offsets (lengths ys))) limit_for few)

      pub few_if : Fits (canon_of_runs t (binary_layout number a) rs) → sum (lengths ys) < limit
      few_if f =
          let q = subst Fits same_canon f in
          let few : 0 + sum (lengths ys) < limit = below_sums limit 0 (lengths ys) (subst (λ n. AllByRecursion (IsBelow n) (offsets (lengths ys))) (sym limit_for) q.1) in
          omega (arith, few)

    -- an array of canonical parts is canonical
    pub canonical_binaries : (b : Binaries O) → seen b.dtype ≡ t → map number b.offsets ≡ offsets (lengths ys) → b.values ≡ concatenated 0 ys → b.mask ≡ picked_mask a.mask (places rs)
        → binary_layout number b ≡ canon_of_runs t (binary_layout number a) rs
    canonical_binaries b dtype os values mask =
        let m = picked_mask a.mask (places rs) in
        ap (λ d. binaries d b.mask (map number b.offsets) (octets b.values)) dtype
        ∙ ap (λ m. binaries t m (map number b.offsets) (octets b.values)) mask
        ∙ ap (λ xs. binaries t m xs (octets b.values)) os
        ∙ ap (λ bs. binaries t m (offsets (lengths ys)) (octets bs)) values
        ∙ sym same_canon

    -- the parts fit together
    module _ (os : List ℤ) (same : os ≡ offsets (lengths ys)) where
      pub end_of_parts : (bs : List ℕ) → bs ≡ concatenated 0 ys → end_of os ≤ length bs
      end_of_parts bs d =
          let last : end_of os ≡ length bs = ap end_of same ∙ end_joined ys ∙ ap length (sym d) in
          omega (arith, last)

      pub mask_of_parts : (m : Option Bits) → m ≡ picked_mask a.mask (places rs) → MaskHasLength m (pred (length os))
      mask_of_parts m e =
          let n : pred (length os) ≡ length (places rs) = ap (λ xs. pred (length xs)) same ∙ many in
          subst (λ k. MaskHasLength k (pred (length os))) (sym e) (mask_fits a.mask (places rs) (pred (length os)) n)

      pub texts_of_parts : (bs : List ℕ) → bs ≡ concatenated 0 ys → AreTextsIf text (pieces (map to_nat os) bs)
      texts_of_parts bs d = by text sound.texts
        where
          by : (x : Bool) → AreTextsIf x (values_of number a) → AreTextsIf x (pieces (map to_nat os) bs)
          by true h =
              let between : pieces (map to_nat os) bs ≡ map (λ x. unwrap_or x []) ys =
              ap (λ xs. pieces (map to_nat xs) bs) same ∙ ap (pieces (map to_nat (offsets (lengths ys)))) d ∙ pieces_joined (λ x. unwrap_or x []) ys in
              subst AreTexts (sym between) (texts_or ys (all_picks IsText None IsUtf8-nil (slots number a) (places rs) (masked_texts a.mask (values_of number a) h)))
          by false h = tt
