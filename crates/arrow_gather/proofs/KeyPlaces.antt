-- The values that keys name, by their places.
use Rattle.std.proofs.Common.{◌≡◌, ℕ, zero, suc, ◌+◌, ◌^◌, ◌<◌, Bool, true, false, cond, List, [], ◌∷◌, ◌++◌, length, map, take, get_or, slice_get, replicate, Option, Some, None, refl, ap, ap₂, sym, ◌∙◌, subst, arith}
use Rattle.std.specs.Prelude.{ℤ, pos, negsuc, MatchOption}
use Rattle.std.specs.List.{AllByRecursion}
use Rattle.std.proofs.lemmas.List.{length-map, map-append, take_more}
use Rattle.std.proofs.lemmas.Option.{get_or_from_slice_get}
use Rattle.arrow_types.specs.Carried.{IsBelow}
use Rattle.arrow_types.specs.Select.{nat_of}
use Rattle.arrow_types.specs.Types.{integer_type, physical_of}
use Rattle.arrow_types.specs.declared.datatype.IntegerType.{IntegerType}
use Rattle.arrow_types.specs.declared.datatype.IntegerType.TheVariants as integer
use Rattle.arrow_types.specs.declared.datatype.PhysicalType.TheVariants as physical
use Rattle.arrow_buffers.specs.Bits.{Bits}
use Rattle.arrow_flat.specs.Primitives.{MaskHasLength, Primitives, valid_at}
use Rattle.arrow_flat.specs.Slots.{Slot, null}
use Rattle.arrow_flat.proofs.Lists.{map-map}
use Rattle.arrow_layout.specs.Denote.{denote, dictionary_slots, masked, masked_by, validity_of}
use Rattle.arrow_layout.specs.Layouts.{Layout, length_of}
use Rattle.arrow_layout.specs.WellFormed.{MaskFits, WellFormed, mask_bits}
use Rattle.arrow_layout.proofs.Unmask.{set_weaker}
use Rattle.arrow_meaning.specs.Nodes.{AreKeysBelow, key_layout, key_number, key_numbers, key_primitive, primitive_layout}
use Rattle.arrow_meaning.specs.declared.keys.KeyNode.{KeyNode}
use Rattle.arrow_meaning.specs.declared.keys.KeyNode.TheVariants as keys
use Rattle.arrow_meaning.proofs.KeysNamed.{named_at}
use Rattle.arrow_canon.specs.Picks.{pick, picks, IsPlace, ArePlaces}
use Rattle.arrow_canon.proofs.Picked.{map_on}
use Rattle.arrow_canon.proofs.Places.{map_replicate}
use Rattle.arrow_gather.specs.Distincts.{picked_values, value_place, value_places}

-- ---- how many keys there are, and their mask

module _ {T : Type 0} (parts : T → List ℤ) where
  many : (a : Primitives T) → length (key_numbers (primitive_layout parts a)) ≡ length_of (primitive_layout parts a)
  many a = length-map (map parts a.values) key_number

  fits : (a : Primitives T) → WellFormed (primitive_layout parts a) → MaskHasLength (validity_of (primitive_layout parts a)) (length (key_numbers (primitive_layout parts a)))
  fits a w = subst (MaskHasLength a.mask) (sym (many a)) (has_length a.mask (length (map parts a.values)) w.0.mask)
    where
      has_length : (m : Option Bits) (n : ℕ) → MaskFits m n → MaskHasLength m n
      has_length None n h = tt
      has_length (Some b) n h = h.0

pub key_count : (n : KeyNode) → length (key_numbers (key_layout n)) ≡ length_of (key_layout n)
key_count (keys.Int8 a) = many _ a
key_count (keys.Int16 a) = many _ a
key_count (keys.Int32 a) = many _ a
key_count (keys.Int64 a) = many _ a
key_count (keys.Int128 a) = many _ a
key_count (keys.UInt8 a) = many _ a
key_count (keys.UInt16 a) = many _ a
key_count (keys.UInt32 a) = many _ a
key_count (keys.UInt64 a) = many _ a

pub key_mask : (n : KeyNode) → WellFormed (key_layout n) → MaskHasLength (validity_of (key_layout n)) (length (key_numbers (key_layout n)))
key_mask (keys.Int8 a) w = fits _ a w
key_mask (keys.Int16 a) w = fits _ a w
key_mask (keys.Int32 a) w = fits _ a w
key_mask (keys.Int64 a) w = fits _ a w
key_mask (keys.Int128 a) w = fits _ a w
key_mask (keys.UInt8 a) w = fits _ a w
key_mask (keys.UInt16 a) w = fits _ a w
key_mask (keys.UInt32 a) w = fits _ a w
key_mask (keys.UInt64 a) w = fits _ a w

-- ---- the slots of a dictionary are the values at the places that its keys name

null_either : (b : Bool) → null ≡ cond b null null
null_either true = refl
null_either false = refl

masked_by_at : (bits : List Bool) (xs : List Slot) (i : ℕ) → i < length bits → get_or (masked_by bits xs) i null ≡ cond (get_or bits i false) (get_or xs i null) null
masked_by_at [] xs i h = absurd (omega (arith, h))
masked_by_at (b ∷ bits) [] i h = null_either (get_or (b ∷ bits) i false)
masked_by_at (b ∷ bits) (x ∷ xs) zero h = refl
masked_by_at (b ∷ bits) (x ∷ xs) (suc i) h = masked_by_at bits xs i (omega (arith, h))

masked_at : (m : Option Bits) (n : ℕ) (xs : List Slot) (i : ℕ) → MaskHasLength m n → i < n → get_or (masked m xs) i null ≡ cond (valid_at m i) (get_or xs i null) null
masked_at None n xs i f h = refl
masked_at (Some b) n xs i f h = masked_by_at b.bits xs i (omega (arith, h, f))

named_there : (ks : List ℤ) (inner : List Slot) (i : ℕ) → i < length ks → get_or (dictionary_slots ks inner) i null ≡ get_or inner (nat_of (get_or ks i (pos 0))) null
named_there [] inner i h = absurd (omega (arith, h))
named_there (k ∷ ks) inner zero h = refl
named_there (k ∷ ks) inner (suc i) h = named_there ks inner i (omega (arith, h))

pick_either : (inner : List Slot) (n : ℕ) (b : Bool) → cond b (get_or inner n null) null ≡ pick null inner (cond b (Some n) None)
pick_either inner n true = refl
pick_either inner n false = refl

module _ (ks l : Layout) (f : MaskHasLength (validity_of ks) (length (key_numbers ks))) where
  one_place : (p : Option ℕ) → IsPlace (length (key_numbers ks)) p
      → pick null (masked (validity_of ks) (dictionary_slots (key_numbers ks) (denote l))) p ≡ pick null (denote l) (value_place ks p)
  one_place None h = refl
  one_place (Some i) h =
      masked_at (validity_of ks) (length (key_numbers ks)) (dictionary_slots (key_numbers ks) (denote l)) i f h
      ∙ ap (λ x. cond (valid_at (validity_of ks) i) x null) (named_there (key_numbers ks) (denote l) i h)
      ∙ pick_either (denote l) (nat_of (get_or (key_numbers ks) i (pos 0))) (valid_at (validity_of ks) i)

  pub values_picked : (ps : List (Option ℕ)) → ArePlaces (length (key_numbers ks)) ps → picked_values ks l ps ≡ picks null (denote l) (value_places ks ps)
  values_picked ps h =
      map_on (IsPlace (length (key_numbers ks))) (pick null (masked (validity_of ks) (dictionary_slots (key_numbers ks) (denote l)))) (λ p. pick null (denote l) (value_place ks p)) one_place ps h
      ∙ sym (map-map (pick null (denote l)) (value_place ks) ps)

-- ---- the places are those of values

slice_at : (ks : List ℤ) (i : ℕ) → i < length ks → slice_get ks i ≡ Some (get_or ks i (pos 0))
slice_at [] i h = absurd (omega (arith, h))
slice_at (k ∷ ks) zero h = refl
slice_at (k ∷ ks) (suc i) h = slice_at ks i (omega (arith, h))

nat_below : (n : ℕ) (z : ℤ) → IsBelow n z → nat_of z < n
nat_below n (pos k) h = h
nat_below n (negsuc k) h = absurd h

module _ (ks : Layout) (n : ℕ) (f : MaskHasLength (validity_of ks) (length (key_numbers ks))) (named : AreKeysBelow n (validity_of ks) ks) where
  place_by : (i : ℕ) (b : Bool) → valid_at (validity_of ks) i ≡ b → i < length (key_numbers ks) → IsPlace n (cond b (Some (nat_of (get_or (key_numbers ks) i (pos 0)))) None)
  place_by i true v h =
      nat_below n (get_or (key_numbers ks) i (pos 0))
      (named_at (IsBelow n) (validity_of ks) (key_numbers ks) i (get_or (key_numbers ks) i (pos 0)) f h (slice_at (key_numbers ks) i h) v named)
  place_by i false v h = tt

  place_there : (p : Option ℕ) → IsPlace (length (key_numbers ks)) p → IsPlace n (value_place ks p)
  place_there None h = tt
  place_there (Some i) h = place_by i (valid_at (validity_of ks) i) refl h

  pub places_there : (ps : List (Option ℕ)) → ArePlaces (length (key_numbers ks)) ps → ArePlaces n (value_places ks ps)
  places_there [] h = tt
  places_there (p ∷ ps) h = (place_there p h.0, places_there ps h.1)

-- keys that name few values name some that a usize counts
below_weaker : (n : ℕ) → n < 2 ^ 64 → (z : ℤ) → IsBelow n z → IsBelow (2 ^ 64) z
below_weaker n h (pos k) b = omega (arith, h, b)
below_weaker n h (negsuc k) b = absurd b

pub named_weaker : (ks : Layout) (m : Option Bits) (n : ℕ) → n < 2 ^ 64 → AreKeysBelow n m ks → AreKeysBelow (2 ^ 64) m ks
named_weaker ks m n h a = set_weaker (IsBelow n) (IsBelow (2 ^ 64)) (below_weaker n h) (mask_bits m (length (key_numbers ks))) (key_numbers ks) a

-- ---- the position of one key

nat_is : (z : ℤ) (n : ℕ) → z ≡ pos n → Some n ≡ Some (nat_of z)
nat_is z n e = ap (λ x. Some (nat_of x)) (sym e)

position_by : (z : ℤ) (r : Option ℕ) → IsBelow (2 ^ 64) z → MatchOption r (IsBelow (2 ^ 64) z → ⊥) (λ n. z ≡ pos n) → r ≡ Some (nat_of z)
position_by z None b h = absurd (h b)
position_by z (Some n) b h = nat_is z n h

pub position_is : (ks : Layout) (i : ℕ) (z : ℤ) (r : Option ℕ) → MaskHasLength (validity_of ks) (length (key_numbers ks)) → AreKeysBelow (2 ^ 64) (validity_of ks) ks
    → slice_get (key_numbers ks) i ≡ Some z → i < length (key_numbers ks) → valid_at (validity_of ks) i ≡ true → MatchOption r (IsBelow (2 ^ 64) z → ⊥) (λ n. z ≡ pos n)
    → r ≡ value_place ks (Some i)
position_is ks i z r f named s h v e =
    let below : IsBelow (2 ^ 64) z = named_at (IsBelow (2 ^ 64)) (validity_of ks) (key_numbers ks) i z f h s v named in
    position_by z r below e
    ∙ ap (λ x. Some (nat_of x)) (sym (get_or_from_slice_get (key_numbers ks) i z (pos 0) s))
    ∙ ap (λ b. cond b (Some (nat_of (get_or (key_numbers ks) i (pos 0)))) None) (sym v)

pub position_none : (ks : Layout) (i : ℕ) → valid_at (validity_of ks) i ≡ false → None ≡ value_place ks (Some i)
position_none ks i v = ap (λ b. cond b (Some (nat_of (get_or (key_numbers ks) i (pos 0)))) None) (sym v)

pub fill_positions : (ks : Layout) (n : ℕ) → replicate n None ≡ value_places ks (replicate n None)
fill_positions ks n = sym (map_replicate (value_place ks) None n)

module _ {T : Type 0} (parts : T → List ℤ) (a : Primitives T) (f : MaskHasLength a.mask (length a.values)) where
  number_there : (xs : List T) (i : ℕ) (x : T) → slice_get xs i ≡ Some x → slice_get (map key_number (map parts xs)) i ≡ Some (key_number (parts x))
  number_there [] i x e = cc
  number_there (y ∷ xs) zero x e = let same : y ≡ x = cc in ap (λ z. Some (key_number (parts z))) same
  number_there (y ∷ xs) (suc i) x e = number_there xs i x e

  numbers_length : length (key_numbers (primitive_layout parts a)) ≡ length a.values
  numbers_length = length-map (map parts a.values) key_number ∙ length-map a.values parts

  -- the position of the value that the key of a slot names
  pub array_position : (i : ℕ) (x : T) (r : Option ℕ) → AreKeysBelow (2 ^ 64) (validity_of (primitive_layout parts a)) (primitive_layout parts a) → i < length a.values → slice_get a.values i ≡ Some x
      → valid_at a.mask i ≡ true → MatchOption r (IsBelow (2 ^ 64) (key_number (parts x)) → ⊥) (λ n. key_number (parts x) ≡ pos n) → r ≡ value_place (primitive_layout parts a) (Some i)
  array_position i x r named h s v e =
      position_is (primitive_layout parts a) i (key_number (parts x)) r (subst (MaskHasLength a.mask) (sym numbers_length) f) named (number_there a.values i x s) (omega (arith, h, numbers_length)) v e

-- ---- keys of positions

pub key_physical : (k : IntegerType) → physical_of (integer_type k) ≡ Some (physical.Primitive (key_primitive k))
key_physical integer.Int8 = refl
key_physical integer.Int16 = refl
key_physical integer.Int32 = refl
key_physical integer.Int64 = refl
key_physical integer.Int128 = refl
key_physical integer.UInt8 = refl
key_physical integer.UInt16 = refl
key_physical integer.UInt32 = refl
key_physical integer.UInt64 = refl

module _ {K : Type 0} (parts : K → List ℤ) where
  abbrev pub numbers_in : List K → List ℤ
  numbers_in xs = map key_number (map parts xs)

  pub numbers_more : (xs : List K) (x : K) (is : List ℕ) (i : ℕ) (d : ℕ) → i < length is → numbers_in xs ≡ map pos (take i is) → key_number (parts x) ≡ pos (get_or is i d)
      → numbers_in (xs ++ x ∷ []) ≡ map pos (take (i + 1) is)
  numbers_more xs x is i d h e n =
      ap (map key_number) (map-append parts xs (x ∷ [])) ∙ map-append key_number (map parts xs) (parts x ∷ [])
      ∙ ap₂ (λ ys y. ys ++ y ∷ []) e n
      ∙ sym (map-append pos (take i is) (get_or is i d ∷ [])) ∙ ap (map pos) (sym (take_more is i d h))

  pub numbers_count : (xs : List K) (is : List ℕ) → numbers_in xs ≡ map pos is → length xs ≡ length is
  numbers_count xs is e =
      sym (length-map xs parts) ∙ sym (length-map (map parts xs) key_number) ∙ ap length e ∙ length-map is pos

pub all_at : (P : ℕ → Type 0) (is : List ℕ) (i d : ℕ) → i < length is → AllByRecursion P is → P (get_or is i d)
all_at P [] i d h p = absurd (omega (arith, h))
all_at P (x ∷ is) zero d h p = p.0
all_at P (x ∷ is) (suc i) d h p = all_at P is i d (omega (arith, h)) p.1
