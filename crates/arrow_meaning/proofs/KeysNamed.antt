-- Which keys are valid under a mask and name a value, one key after the other.
use Rattle.std.proofs.Common.{◌≡◌, ℕ, zero, suc, ◌<◌, ◌≤◌, Bool, true, false, List, [], ◌∷◌, length, take, map, get_or, replicate, Option, Some, None, refl, sym, ◌∙◌, subst, arith}
use Rattle.std.specs.Prelude.{ℤ, slice_get}
use Rattle.std.proofs.lemmas.List.{length-map, length-replicate}
use Rattle.arrow_types.specs.Carried.{IsBelow}
use Rattle.arrow_buffers.specs.Bits.{Bits}
use Rattle.arrow_flat.specs.Primitives.{MaskHasLength, Primitives, valid_at}
use Rattle.arrow_layout.specs.WellFormed.{AllSet, mask_bits}
use Rattle.arrow_meaning.specs.Nodes.{AreKeysBelow, key_number, primitive_layout}

bits_length : (m : Option Bits) (n : ℕ) → MaskHasLength m n → length (mask_bits m n) ≡ n
bits_length None n h = length-replicate n true
bits_length (Some b) n h = h

true_at : (n i : ℕ) → i < n → get_or (replicate n true) i false ≡ true
true_at zero i h = absurd (omega (arith, h))
true_at (suc n) zero h = refl
true_at (suc n) (suc i) h = true_at n i (omega (arith, h))

bit_at : (m : Option Bits) (n i : ℕ) → i < n → get_or (mask_bits m n) i false ≡ valid_at m i
bit_at None n i h = true_at n i h
bit_at (Some b) n i h = refl

module _ {A : Type 0} (P : A → Type 0) where
  step : (bits : List Bool) (xs : List A) (i : ℕ) (x : A) → length bits ≡ length xs → slice_get xs i ≡ Some x → (get_or bits i false ≡ true → P x)
      → AllSet P (take i bits) (take i xs) → AllSet P (take (suc i) bits) (take (suc i) xs)
  step [] [] i x l s h a = cc
  step [] (y ∷ xs) i x l s h a = absurd (omega (arith, l))
  step (b ∷ bits) [] i x l s h a = cc
  step (true ∷ bits) (y ∷ xs) zero x l s h a = let e : y ≡ x = cc in (subst P (sym e) (h refl), tt)
  step (false ∷ bits) (y ∷ xs) zero x l s h a = tt
  step (true ∷ bits) (y ∷ xs) (suc i) x l s h a = (a.0, step bits xs i x (omega (arith, l)) s h a.1)
  step (false ∷ bits) (y ∷ xs) (suc i) x l s h a = step bits xs i x (omega (arith, l)) s h a

  skip : (bits : List Bool) (xs : List A) (i : ℕ) → get_or bits i false ≡ false → AllSet P (take i bits) (take i xs) → AllSet P (take (suc i) bits) (take (suc i) xs)
  skip [] xs i e a = tt
  skip (b ∷ bits) [] i e a = tt
  skip (true ∷ bits) (y ∷ xs) zero e a = cc
  skip (false ∷ bits) (y ∷ xs) zero e a = tt
  skip (true ∷ bits) (y ∷ xs) (suc i) e a = (a.0, skip bits xs i e a.1)
  skip (false ∷ bits) (y ∷ xs) (suc i) e a = skip bits xs i e a

  whole : (bits : List Bool) (xs : List A) (i : ℕ) → length bits ≡ length xs → length xs ≤ i → AllSet P (take i bits) (take i xs) → AllSet P bits xs
  whole [] xs i l h a = tt
  whole (b ∷ bits) [] i l h a = tt
  whole (b ∷ bits) (y ∷ xs) zero l h a = absurd (omega (arith, h))
  whole (true ∷ bits) (y ∷ xs) (suc i) l h a = (a.0, whole bits xs i (omega (arith, l)) (omega (arith, h)) a.1)
  whole (false ∷ bits) (y ∷ xs) (suc i) l h a = whole bits xs i (omega (arith, l)) (omega (arith, h)) a

  at : (bits : List Bool) (xs : List A) (i : ℕ) (x : A) → length bits ≡ length xs → slice_get xs i ≡ Some x → get_or bits i false ≡ true → AllSet P bits xs → P x
  at [] [] i x l s e a = cc
  at [] (y ∷ xs) i x l s e a = absurd (omega (arith, l))
  at (b ∷ bits) [] i x l s e a = cc
  at (true ∷ bits) (y ∷ xs) zero x l s e a = let same : y ≡ x = cc in subst P same a.0
  at (false ∷ bits) (y ∷ xs) zero x l s e a = cc
  at (true ∷ bits) (y ∷ xs) (suc i) x l s e a = at bits xs i x (omega (arith, l)) s e a.1
  at (false ∷ bits) (y ∷ xs) (suc i) x l s e a = at bits xs i x (omega (arith, l)) s e a

  module _ (m : Option Bits) (xs : List A) where
    abbrev pub NamedTo : ℕ → Type 0
    NamedTo i = AllSet P (take i (mask_bits m (length xs))) (take i xs)

    pub named_step : (i : ℕ) (x : A) → MaskHasLength m (length xs) → i < length xs → slice_get xs i ≡ Some x → (valid_at m i ≡ true → P x) → NamedTo i → NamedTo (suc i)
    named_step i x f h s p a =
        step (mask_bits m (length xs)) xs i x (bits_length m (length xs) f) s (λ e. p (sym (bit_at m (length xs) i h) ∙ e)) a

    pub named_skip : (i : ℕ) → i < length xs → valid_at m i ≡ false → NamedTo i → NamedTo (suc i)
    named_skip i h e a = skip (mask_bits m (length xs)) xs i (bit_at m (length xs) i h ∙ e) a

    pub named_all : (i : ℕ) → MaskHasLength m (length xs) → length xs ≤ i → NamedTo i → AllSet P (mask_bits m (length xs)) xs
    named_all i f h a = whole (mask_bits m (length xs)) xs i (bits_length m (length xs) f) h a

    pub named_at : (i : ℕ) (x : A) → MaskHasLength m (length xs) → i < length xs → slice_get xs i ≡ Some x → valid_at m i ≡ true → AllSet P (mask_bits m (length xs)) xs → P x
    named_at i x f h s e a = at (mask_bits m (length xs)) xs i x (bits_length m (length xs) f) s (bit_at m (length xs) i h ∙ e) a

-- the same of the numbers of keys
module _ {T : Type 0} (parts : T → List ℤ) (n : ℕ) where
  abbrev pub Names : T → Type 0
  Names x = IsBelow n (key_number (parts x))

  map_set : (bits : List Bool) (xs : List T) → AllSet Names bits xs → AllSet (IsBelow n) bits (map key_number (map parts xs))
  map_set [] xs a = tt
  map_set (b ∷ bits) [] a = tt
  map_set (true ∷ bits) (x ∷ xs) a = (a.0, map_set bits xs a.1)
  map_set (false ∷ bits) (x ∷ xs) a = map_set bits xs a

  set_map : (bits : List Bool) (xs : List T) → AllSet (IsBelow n) bits (map key_number (map parts xs)) → AllSet Names bits xs
  set_map [] xs a = tt
  set_map (b ∷ bits) [] a = tt
  set_map (true ∷ bits) (x ∷ xs) a = (a.0, set_map bits xs a.1)
  set_map (false ∷ bits) (x ∷ xs) a = set_map bits xs a

  count : (a : Primitives T) → length (map key_number (map parts a.values)) ≡ length a.values
  count a = length-map (map parts a.values) key_number ∙ length-map a.values parts

  pub keys_below : (m : Option Bits) (a : Primitives T) → AllSet Names (mask_bits m (length a.values)) a.values → AreKeysBelow n m (primitive_layout parts a)
  keys_below m a h =
      subst (λ k. AllSet (IsBelow n) (mask_bits m k) (map key_number (map parts a.values))) (sym (count a)) (map_set (mask_bits m (length a.values)) a.values h)

  pub below_keys : (m : Option Bits) (a : Primitives T) → AreKeysBelow n m (primitive_layout parts a) → AllSet Names (mask_bits m (length a.values)) a.values
  below_keys m a h =
      set_map (mask_bits m (length a.values)) a.values (subst (λ k. AllSet (IsBelow n) (mask_bits m k) (map key_number (map parts a.values))) (count a) h)
