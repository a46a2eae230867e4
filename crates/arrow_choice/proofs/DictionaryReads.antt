-- What keys name, read one after the other.
use Rattle.std.proofs.Common.{◌≡◌, ◌<◌, ◌≤◌, ◌^◌, ℕ, zero, suc, Bool, true, false, cond, List, [], ◌∷◌, length, map, get_or, replicate, Option, Some, None, ap, ap₂, arith, refl, subst, sym, ◌∙◌}
use Rattle.std.specs.Prelude.{ℤ, pos, negsuc, nat_lt, IsSomeAnd, slice_get}
use Rattle.std.specs.Option.{option_map}
use Rattle.std.specs.Simd.Lanes.{zip2}
use Rattle.std.proofs.lemmas.List.{get_or-map, length-map}
use Rattle.std.proofs.lemmas.Option.{slice_get-map}
use Rattle.arrow_buffers.specs.Bits.{Bits, count_unset}
use Rattle.arrow_types.specs.Carried.{IsBelow}
use Rattle.arrow_types.specs.Select.{nat_of}
use Rattle.arrow_types.specs.TypeData.{TypeData}
use Rattle.arrow_flat.specs.Primitives.{MaskHasLength, Primitives, masked_values, unset_in}
use Rattle.arrow_flat.specs.Slots.{Slot, bytes, null, slot_or_null}
use Rattle.arrow_flat.proofs.Lists.{map-map}
use Rattle.arrow_layout.specs.Denote.{denote, masked, masked_by, under}
use Rattle.arrow_layout.specs.Layouts.{Layout, nulls, booleans, primitives, binaries, fixed_size_binaries, views, lists, fixed_size_lists, structs, sparse_unions, dense_unions, dictionaries, length_of}
use Rattle.arrow_layout.specs.Masks.{KeysInRange, null_count_of}
use Rattle.arrow_layout.specs.WellFormed.{AllSet, MaskFits, WellFormed, mask_bits}
use Rattle.arrow_layout.proofs.CutForms.{count_below}
use Rattle.arrow_layout.proofs.Lengths.{length-denote}
use Rattle.arrow_layout.proofs.Unmask.{set_weaker}
use Rattle.arrow_meaning.proofs.FlatSlots.{denotes}
use Rattle.arrow_meaning.specs.Nodes.{key_number, key_numbers, primitive_layout}
use Rattle.arrow_choice.specs.Dictionaries.{dictionary_of, position_of, positions_of, texts_at}
use Rattle.arrow_choice.proofs.DictionaryParts.{unset_cons}

-- ---- one key

below_bound : (a b : ℕ) → a < b → cond (nat_lt a b) a 0 ≡ a
below_bound a b h = grind arith

pub position_below : (z : ℤ) (n : ℕ) → n ≤ 2 ^ 64 → IsBelow n z → position_of z ≡ nat_of z
position_below (pos k) n l h = below_bound k (2 ^ 64) (omega (arith, l, h))
position_below (negsuc k) n l h = absurd h

pub position_is : (z : ℤ) (n : ℕ) → n < 2 ^ 64 → z ≡ pos n → position_of z ≡ n
position_is z n l e = ap position_of e ∙ below_bound n (2 ^ 64) l

above_bound : (a b : ℕ) → (a < b → ⊥) → cond (nat_lt a b) a 0 ≡ 0
above_bound a b h = grind arith

pub position_none : (z : ℤ) → (IsBelow (2 ^ 64) z → ⊥) → position_of z ≡ 0
position_none (pos k) h = above_bound k (2 ^ 64) h
position_none (negsuc k) h = refl

-- ---- two readings that agree where keys are valid

module _ {A B : Type 0} (f g : A → B) where
  abbrev pub Agrees : A → Type 0
  Agrees x = f x ≡ g x

  all_same : (xs : List A) → AllSet Agrees (replicate (length xs) true) xs → map f xs ≡ map g xs
  all_same [] h = refl
  all_same (x ∷ xs) h = ap₂ (λ y ys. y ∷ ys) h.0 (all_same xs h.1)

  zipped_same : (bits : List Bool) (xs : List A) → AllSet Agrees bits xs
      → zip2 (λ bit y. cond bit (Some y) None) bits (map f xs) ≡ zip2 (λ bit y. cond bit (Some y) None) bits (map g xs)
  zipped_same [] [] h = refl
  zipped_same [] (x ∷ xs) h = refl
  zipped_same (b ∷ bits) [] h = refl
  zipped_same (true ∷ bits) (x ∷ xs) h = ap₂ (λ y ys. Some y ∷ ys) h.0 (zipped_same bits xs h.1)
  zipped_same (false ∷ bits) (x ∷ xs) h = ap (λ ys. None ∷ ys) (zipped_same bits xs h)

  pub values_same : (m : Option Bits) (xs : List A) → AllSet Agrees (mask_bits m (length xs)) xs → masked_values m (map f xs) ≡ masked_values m (map g xs)
  values_same None xs h = ap (map Some) (all_same xs h)
  values_same (Some b) xs h = zipped_same b.bits xs h

module _ {A : Type 0} (f g : A → Slot) where
  masked_both : (bits : List Bool) (xs : List A) → length bits ≡ length xs → AllSet (Agrees f g) bits xs → masked_by bits (map f xs) ≡ masked_by bits (map g xs)
  masked_both [] [] l h = refl
  masked_both [] (x ∷ xs) l h = absurd (omega (arith, l))
  masked_both (b ∷ bits) [] l h = refl
  masked_both (true ∷ bits) (x ∷ xs) l h = ap₂ (λ y ys. y ∷ ys) h.0 (masked_both bits xs (omega (arith, l)) h.1)
  masked_both (false ∷ bits) (x ∷ xs) l h = ap (λ ys. null ∷ ys) (masked_both bits xs (omega (arith, l)) h)

  pub slots_same : (m : Option Bits) (xs : List A) → MaskFits m (length xs) → AllSet (Agrees f g) (mask_bits m (length xs)) xs → masked m (map f xs) ≡ masked m (map g xs)
  slots_same None xs l h = all_same f g xs h
  slots_same (Some b) xs l h = masked_both b.bits xs l.0 h

-- ---- without nulls

unmasked_by : (bits : List Bool) (xs : List Slot) → count_unset bits ≡ 0 → masked_by bits xs ≡ xs
unmasked_by [] xs e = refl
unmasked_by (b ∷ bits) [] e = refl
unmasked_by (true ∷ bits) (x ∷ xs) e = ap (λ ys. x ∷ ys) (unmasked_by bits xs (omega (arith, e, unset_cons true bits)))
unmasked_by (false ∷ bits) (x ∷ xs) e = absurd (omega (arith, e, unset_cons false bits))

pub unmasked : (m : Option Bits) (xs : List Slot) → unset_in m ≡ 0 → masked m xs ≡ xs
unmasked None xs e = refl
unmasked (Some b) xs e = unmasked_by b.bits xs e

-- a layout without nulls denotes what stands under its mask
pub denote_under : (l : Layout) → null_count_of l ≡ 0 → denote l ≡ under l
denote_under (nulls t n) e = refl
denote_under (booleans t m vs) e = unmasked m _ e
denote_under (primitives t m vs) e = unmasked m _ e
denote_under (binaries t m os bs) e = unmasked m _ e
denote_under (fixed_size_binaries t m k n bs) e = unmasked m _ e
denote_under (views t m vs buffers) e = unmasked m _ e
denote_under (lists t m os l) e = unmasked m _ e
denote_under (fixed_size_lists t m k n l) e = unmasked m _ e
denote_under (structs t m n ls) e = unmasked m _ e
denote_under (sparse_unions t o ts ls) e = refl
denote_under (dense_unions t o ts os ls) e = refl
denote_under (dictionaries t u m ks l) e = unmasked m _ e

fits_length : (m : Option Bits) (n : ℕ) → MaskFits m n → MaskHasLength m n
fits_length None n h = tt
fits_length (Some b) n h = h.0

-- ---- a text past the end

past : (texts : List (List ℕ)) (n : ℕ) → length texts ≤ n → get_or texts n [] ≡ []
past [] n h = refl
past (t ∷ texts) zero h = absurd (omega (arith, h))
past (t ∷ texts) (suc n) h = past texts n (omega (arith, h))

pub text_past : (texts : List (List ℕ)) (ns : List ℕ) (i n : ℕ) → slice_get ns i ≡ Some n → length texts ≤ n → slice_get (map (λ k. get_or texts k []) ns) i ≡ Some []
text_past texts ns i n e h = slice_get-map (λ k. get_or texts k []) ns i ∙ (ap (option_map (λ k. get_or texts k [])) e ∙ ap Some (past texts n h))

-- ---- a whole dictionary

module _ {K : Type 0} (parts : K → List ℤ) where
  abbrev numbers : Primitives K → List ℤ
  numbers keys = key_numbers (primitive_layout parts keys)

  pub numbers_count : (keys : Primitives K) → length (numbers keys) ≡ length keys.values
  numbers_count keys = length-map (map parts keys.values) key_number ∙ length-map keys.values parts

  pub positions_count : (keys : Primitives K) → length (positions_of parts keys) ≡ length keys.values
  positions_count keys = length-map keys.values (λ k. position_of (key_number (parts k)))

  pub texts_count : (texts : List (List ℕ)) (keys : Primitives K) → length (texts_at parts texts keys) ≡ length keys.values
  texts_count texts keys = length-map (positions_of parts keys) (λ n. get_or texts n []) ∙ positions_count keys

  -- what is read of keys is read of their numbers
  pub by_numbers : {B : Type 0} (f : ℤ → B) (keys : Primitives K) → map (λ k. f (key_number (parts k))) keys.values ≡ map f (numbers keys)
  by_numbers f keys = sym (map-map f key_number (map parts keys.values) ∙ map-map (λ zs. f (key_number zs)) parts keys.values)

  module _ (t : TypeData) (keys : Primitives K) (l : Layout) (w : WellFormed (dictionary_of parts t keys l)) where
    agree : (z : ℤ) → IsBelow (length_of l) z → position_of z ≡ nat_of z
    agree z h = let short : length_of l < 2 ^ 64 = count_below l w.5 in position_below z (length_of l) (omega (arith, short)) h

    by_one : (o : Option ℤ) (n : ℕ) → IsSomeAnd o (IsBelow (length_of l)) → option_map position_of o ≡ Some n → option_map nat_of o ≡ Some n
    by_one None n h e = absurd h
    by_one (Some z) n h e = ap Some (sym (agree z h)) ∙ e

    -- the position of one key
    pub position_read : (i n : ℕ) → IsSomeAnd (slice_get (numbers keys) i) (IsBelow (length_of l)) → slice_get (positions_of parts keys) i ≡ Some n
        → slice_get (map nat_of (numbers keys)) i ≡ Some n
    position_read i n h e =
        let seen_at = sym (slice_get-map position_of (numbers keys) i) ∙ (ap (λ ns. slice_get ns i) (sym (by_numbers position_of keys)) ∙ e) in
        slice_get-map nat_of (numbers keys) i ∙ by_one (slice_get (numbers keys) i) n h seen_at

    -- the positions of valid keys
    pub positions_masked : masked_values keys.mask (positions_of parts keys) ≡ masked_values keys.mask (map nat_of (numbers keys))
    positions_masked =
        ap (masked_values keys.mask) (by_numbers position_of keys)
        ∙ values_same position_of nat_of keys.mask (numbers keys)
        (set_weaker (IsBelow (length_of l)) (Agrees position_of nat_of) agree (mask_bits keys.mask (length (numbers keys))) (numbers keys) w.3)

    -- those of all keys, where all name a value
    pub positions_all : KeysInRange None (dictionary_of parts t keys l) → positions_of parts keys ≡ map nat_of (numbers keys)
    positions_all h =
        by_numbers position_of keys
        ∙ all_same position_of nat_of (numbers keys)
        (set_weaker (IsBelow (length_of l)) (Agrees position_of nat_of) agree (mask_bits None (length (numbers keys))) (numbers keys) h)

    module _ (texts : List (List ℕ)) (bare : null_count_of l ≡ 0) (reads : under l ≡ map bytes texts) where
      values_read : denote l ≡ map bytes texts
      values_read = denote_under l bare ∙ reads

      texts_length : length texts ≡ length_of l
      texts_length = sym (length-map texts bytes) ∙ (ap length (sym values_read) ∙ length-denote l w.5)

      abbrev named : ℤ → Slot
      named z = get_or (denote l) (nat_of z) null

      abbrev text : ℤ → Slot
      text z = bytes (get_or texts (position_of z) [])

      below_texts : (z : ℤ) → IsBelow (length_of l) z → nat_of z < length texts
      below_texts (pos n) h = omega (arith, h, texts_length)
      below_texts (negsuc n) h = absurd h

      one_text : (z : ℤ) → IsBelow (length_of l) z → named z ≡ text z
      one_text z h =
          ap (λ s. get_or s (nat_of z) null) values_read
          ∙ (get_or-map bytes texts (nat_of z) [] null (below_texts z h) ∙ ap (λ n. bytes (get_or texts n [])) (sym (agree z h)))

      texts_numbers : map bytes (texts_at parts texts keys) ≡ map text (numbers keys)
      texts_numbers =
          ap (map bytes) (map-map (λ n. get_or texts n []) (λ k. position_of (key_number (parts k))) keys.values)
          ∙ (map-map bytes (λ k. get_or texts (position_of (key_number (parts k))) []) keys.values ∙ by_numbers text keys)

      -- the texts, masked, are the slots
      texts_masked : denote (dictionary_of parts t keys l) ≡ masked keys.mask (map bytes (texts_at parts texts keys))
      texts_masked =
          slots_same named text keys.mask (numbers keys) w.0.mask
          (set_weaker (IsBelow (length_of l)) (Agrees named text) one_text (mask_bits keys.mask (length (numbers keys))) (numbers keys) w.3)
          ∙ ap (masked keys.mask) (sym texts_numbers)

      mask_length : MaskHasLength keys.mask (length (texts_at parts texts keys))
      mask_length = subst (MaskHasLength keys.mask) (numbers_count keys ∙ sym (texts_count texts keys)) (fits_length keys.mask (length (numbers keys)) w.0.mask)

      pub texts_denoted : denote (dictionary_of parts t keys l) ≡ map (slot_or_null bytes) (masked_values keys.mask (texts_at parts texts keys))
      texts_denoted = texts_masked ∙ denotes bytes keys.mask (texts_at parts texts keys) mask_length

      pub texts_alone : unset_in keys.mask ≡ 0 → denote (dictionary_of parts t keys l) ≡ map bytes (texts_at parts texts keys)
      texts_alone e = texts_masked ∙ unmasked keys.mask (map bytes (texts_at parts texts keys)) e
