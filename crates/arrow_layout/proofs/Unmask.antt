-- Values and mask read back from the slots of a canonical column.
use Rattle.std.proofs.Common.{Bool, List, None, Option, Some, [], ap, ap₂, arith, cond, drop, drop-drop, drop_of_length-le, false, flat_map, length, length-drop, length-take-le, map, negsuc, pos, pred, refl, replicate, subst, suc, sym, take, take-append-drop, true, zero, ℕ, ℤ, ◌*◌, ◌++◌, ◌+◌, ◌-◌, ◌∙◌, ◌∷◌, ◌≡◌, ◌≤◌}
use Rattle.std.proofs.lemmas.Bool.{and_from, false≢true}
use Rattle.std.proofs.lemmas.List.{length-map, length-replicate}
use Rattle.std.specs.List.{AllByRecursion, list_all}
use Rattle.arrow_types.specs.Carried.{IsBelow}
use Rattle.arrow_types.specs.Select.{nat_of}
use Rattle.arrow_buffers.specs.Bits.{Bits, plain}
use Rattle.arrow_flat.specs.Slots.{Slot, is_valid, null}
use Rattle.arrow_layout.specs.Canon.{sums_from, mask_of, offsets}
use Rattle.arrow_layout.specs.Canonical.{AllUnset, FlatFrom, IsFlat, MaskIsNeeded}
use Rattle.arrow_layout.specs.Denote.{masked, masked_by}
use Rattle.arrow_flat.specs.Pieces.{chunks, pieces, pieces_from}
use Rattle.arrow_layout.specs.WellFormed.{AllSet, AreOffsetsWithin, AreOffsetsTo, AscendTo, MaskFits, mask_bits}
use Rattle.arrow_layout.proofs.CutForms.{ascend_top}
use Rattle.arrow_layout.proofs.Lengths.{length-pieces}
use Rattle.arrow_flat.proofs.Lists.{map-map}

pub all_set : {A : Type 0} (P : A → Type 0) → ((x : A) → P x) → (bits : List Bool) (xs : List A) → AllSet P bits xs
all_set P f [] xs = tt
all_set P f (b ∷ bits) [] = tt
all_set P f (true ∷ bits) (x ∷ xs) = (f x, all_set P f bits xs)
all_set P f (false ∷ bits) (x ∷ xs) = all_set P f bits xs

pub set_weaker : {A : Type 0} (P Q : A → Type 0) → ((x : A) → P x → Q x) → (bits : List Bool) (xs : List A) → AllSet P bits xs → AllSet Q bits xs
set_weaker P Q f [] xs h = tt
set_weaker P Q f (b ∷ bits) [] h = tt
set_weaker P Q f (true ∷ bits) (x ∷ xs) h = (f x h.0, set_weaker P Q f bits xs h.1)
set_weaker P Q f (false ∷ bits) (x ∷ xs) h = set_weaker P Q f bits xs h

-- a mask that fits has as many bits as slots
pub length-bits : (m : Option Bits) (n : ℕ) → MaskFits m n → length (mask_bits m n) ≡ n
length-bits None n h = length-replicate n true
length-bits (Some b) n h = h.0

pub masked_bits : (m : Option Bits) (xs : List Slot) → masked m xs ≡ masked_by (mask_bits m (length xs)) xs
masked_bits None [] = refl
masked_bits None (x ∷ xs) = ap (λ ys. x ∷ ys) (masked_bits None xs)
masked_bits (Some b) xs = refl

some_mask_by : (s : List Slot) (m : Bits) (b : Bool) → b ≡ false → map is_valid s ≡ m.bits → m.lead ≡ 0 → cond b None (Some (plain (map is_valid s))) ≡ Some m
some_mask_by s m true e h z = absurd (false≢true (sym e))
some_mask_by s m false e h z = ap₂ (λ n bs. Some (record { bits = bs; lead = n })) (sym z) h

pub all_bits : (s : List Slot) → list_all is_valid s ≡ list_all (λ b. b) (map is_valid s)
all_bits [] = refl
all_bits (x ∷ s) = rw (all_bits s) refl

some_mask : (s : List Slot) (m : Bits) → map is_valid s ≡ m.bits → MaskIsNeeded (Some m) → mask_of s ≡ Some m
some_mask s m h need = some_mask_by s m (list_all is_valid s) (all_bits s ∙ (ap (list_all (λ b. b)) h ∙ need.1)) h need.0

module _ {A : Type 0} (f : A → Slot) where
  -- the values of the slots, where a null stands for d
  pub unmasked_by : (g : Slot → A) (d : A) → g null ≡ d → (bits : List Bool) (xs : List A) → length bits ≡ length xs
      → AllSet (λ x. g (f x) ≡ x) bits xs → AllUnset (λ x. x ≡ d) bits xs → map g (masked_by bits (map f xs)) ≡ xs
  unmasked_by g d n [] [] l h k = refl
  unmasked_by g d n [] (x ∷ xs) l h k = absurd (omega arith)
  unmasked_by g d n (b ∷ bits) [] l h k = refl
  unmasked_by g d n (true ∷ bits) (x ∷ xs) l h k = ap₂ (λ y ys. y ∷ ys) h.0 (unmasked_by g d n bits xs (omega arith) h.1 k)
  unmasked_by g d n (false ∷ bits) (x ∷ xs) l h k = ap₂ (λ y ys. y ∷ ys) (n ∙ sym k.0) (unmasked_by g d n bits xs (omega arith) h k.1)

  pub unmasked : (g : Slot → A) (d : A) → g null ≡ d → (m : Option Bits) (n : ℕ) (xs : List A) → length xs ≡ n → MaskFits m n
      → AllSet (λ x. g (f x) ≡ x) (mask_bits m n) xs → AllUnset (λ x. x ≡ d) (mask_bits m n) xs → map g (masked m (map f xs)) ≡ xs
  unmasked g d z m n xs e l h k =
      let long : length (map f xs) ≡ n = length-map xs f ∙ e in
      rw (masked_bits m (map f xs), long) (unmasked_by g d z (mask_bits m n) xs (length-bits m n l ∙ sym e) h k)

  bits_back : (bits : List Bool) (xs : List A) → length bits ≡ length xs → AllSet (λ x. is_valid (f x) ≡ true) bits xs → map is_valid (masked_by bits (map f xs)) ≡ bits
  bits_back [] [] l h = refl
  bits_back [] (x ∷ xs) l h = absurd (omega arith)
  bits_back (b ∷ bits) [] l h = absurd (omega arith)
  bits_back (true ∷ bits) (x ∷ xs) l h = ap₂ (λ y ys. y ∷ ys) h.0 (bits_back bits xs (omega arith) h.1)
  bits_back (false ∷ bits) (x ∷ xs) l h = ap (λ ys. false ∷ ys) (bits_back bits xs (omega arith) h)

  all_valid : (xs : List A) → AllSet (λ x. is_valid (f x) ≡ true) (replicate (length xs) true) xs → list_all is_valid (map f xs) ≡ true
  all_valid [] h = refl
  all_valid (x ∷ xs) h = and_from _ _ h.0 (all_valid xs h.1)

  -- the mask of the slots is the mask, where it has an unset bit
  pub mask_back : (m : Option Bits) (n : ℕ) (xs : List A) → length xs ≡ n → MaskFits m n → MaskIsNeeded m
      → AllSet (λ x. is_valid (f x) ≡ true) (mask_bits m n) xs → mask_of (masked m (map f xs)) ≡ m
  mask_back None n xs e l need h = rw (all_valid xs (subst (λ k. AllSet (λ x. is_valid (f x) ≡ true) (replicate k true) xs) (sym e) h)) refl
  mask_back (Some b) n xs e l need h =
      let back : map is_valid (masked_by b.bits (map f xs)) ≡ b.bits = bits_back b.bits xs (l.0 ∙ sym e) h in
      some_mask (masked_by b.bits (map f xs)) b back need

-- the piece from a to b has b - a items
pub length-piece : {A : Type 0} (a b : ℕ) (xs : List A) → a ≤ b → b ≤ length xs → a + length (take (b - a) (drop a xs)) ≡ b
length-piece a b xs h k = omega (arith, length-take-le (b - a) (drop a xs) (omega (arith, length-drop a xs)))

ends_back : {A : Type 0} (a : ℕ) (os : List ℕ) (xs : List A) → AscendTo (length xs) a os → sums_from a (map length (pieces_from a os xs)) ≡ os
ends_back a [] xs h = refl
ends_back a (b ∷ os) xs h =
    let here : a + length (take (b - a) (drop a xs)) ≡ b = length-piece a b xs h.0 (ascend_top _ b os h.1) in
    rw here (ap (λ bs. b ∷ bs) (ends_back b os xs h.1))

flat_pieces : {A : Type 0} (a : ℕ) (os : List ℕ) (bits : List Bool) (xs : List A) → FlatFrom (length xs) a os bits → AllUnset (λ ys. ys ≡ []) bits (pieces_from a os xs)
flat_pieces a [] [] xs h = tt
flat_pieces a [] (b ∷ bits) xs h = tt
flat_pieces a (b ∷ os) [] xs h = tt
flat_pieces a (b ∷ os) (true ∷ bits) xs h = flat_pieces b os bits xs h
flat_pieces a (b ∷ os) (false ∷ bits) xs h = let n : b - a ≡ 0 = omega (arith, h.0) in (rw n refl, flat_pieces b os bits xs h.1)

join_step : {A : Type 0} (a b : ℕ) (xs : List A) → a ≤ b → take (b - a) (drop a xs) ++ drop b xs ≡ drop a xs
join_step a b xs h =
    let e : drop b xs ≡ drop (b - a) (drop a xs) = sym (drop-drop (b - a) a xs ∙ ap (λ n. drop n xs) (omega arith)) in
    rw e (take-append-drop (b - a) (drop a xs))

pieces_join : {A : Type 0} (a : ℕ) (os : List ℕ) (bits : List Bool) (xs : List A) → AscendTo (length xs) a os → FlatFrom (length xs) a os bits → flat_map (λ ys. ys) (pieces_from a os xs) ≡ drop a xs
pieces_join a [] bits xs h f = sym (drop_of_length-le xs (omega arith))
pieces_join a (b ∷ os) [] xs h f = rw (pieces_join b os [] xs h.1 f) (join_step a b xs h.0)
pieces_join a (b ∷ os) (true ∷ bits) xs h f = rw (pieces_join b os bits xs h.1 f) (join_step a b xs h.0)
pieces_join a (b ∷ os) (false ∷ bits) xs h f = rw (pieces_join b os bits xs h.1 f.1) (join_step a b xs h.0)

pub pos-to_nat : (limit : ℕ) (os : List ℤ) → AllByRecursion (IsBelow limit) os → map pos (map nat_of os) ≡ os
pos-to_nat limit [] h = refl
pos-to_nat limit (pos n ∷ os) h = ap (λ ns. pos n ∷ ns) (pos-to_nat limit os h.1)
pos-to_nat limit (negsuc n ∷ os) h = absurd h.0

pub flat_map-of_map : {A B : Type 0} (g : A → List B) (s : List A) → flat_map g s ≡ flat_map (λ ys. ys) (map g s)
flat_map-of_map g [] = refl
flat_map-of_map g (x ∷ s) = ap (λ ys. g x ++ ys) (flat_map-of_map g s)

offsets_back_nat : {A : Type 0} (os : List ℕ) (bits : List Bool) (xs : List A) → AreOffsetsTo (length xs) os → IsFlat (length xs) os bits → 0 ∷ sums_from 0 (map length (pieces os xs)) ≡ os
offsets_back_nat [] bits xs h f = absurd h
offsets_back_nat (a ∷ os) bits xs h f =
    rw f.0 (ap (λ bs. 0 ∷ bs) (ends_back 0 os xs (subst (λ n. AscendTo (length xs) n os) f.0 h)))

joined_back_nat : {A : Type 0} (os : List ℕ) (bits : List Bool) (xs : List A) → AreOffsetsTo (length xs) os → IsFlat (length xs) os bits → flat_map (λ ys. ys) (pieces os xs) ≡ xs
joined_back_nat [] bits xs h f = absurd h
joined_back_nat (a ∷ os) bits xs h f = pieces_join a os bits xs h f.1 ∙ ap (λ n. drop n xs) f.0

flat_unset : {A : Type 0} (os : List ℕ) (bits : List Bool) (xs : List A) → IsFlat (length xs) os bits → AllUnset (λ ys. ys ≡ []) bits (pieces os xs)
flat_unset [] bits xs f = absurd f
flat_unset (a ∷ os) bits xs f = flat_pieces a os bits xs f.1

-- offsets and items of a canonical column, read back from its slots
module _ {A : Type 0} (f : List A → Slot) (g : Slot → List A) (same : (xs : List A) → g (f xs) ≡ xs) (empty : g null ≡ []) (m : Option Bits) (os : List ℤ) (limit top : ℕ) (inner : List A) (long : length inner ≡ top)
    (are : AreOffsetsWithin limit top os) (fits : MaskFits m (pred (length os))) (flat : IsFlat top (map nat_of os) (mask_bits m (pred (length os)))) where
  pub slots_back : map g (masked m (map f (pieces (map nat_of os) inner))) ≡ pieces (map nat_of os) inner
  slots_back =
      unmasked f g [] empty m (pred (length os)) (pieces (map nat_of os) inner) (length-pieces os inner) fits
      (all_set (λ x. g (f x) ≡ x) same (mask_bits m (pred (length os))) (pieces (map nat_of os) inner)) (flat_unset (map nat_of os) (mask_bits m (pred (length os))) inner (subst (λ n. IsFlat n (map nat_of os) (mask_bits m (pred (length os)))) (sym long) flat))

  pub offsets_back : offsets (map (λ x. length (g x)) (masked m (map f (pieces (map nat_of os) inner)))) ≡ os
  offsets_back =
      rw (← map-map length g (masked m (map f (pieces (map nat_of os) inner))), slots_back)
      (ap (map pos) (offsets_back_nat (map nat_of os) (mask_bits m (pred (length os))) inner (subst (λ n. AreOffsetsTo n (map nat_of os)) (sym long) are.ascend) (subst (λ n. IsFlat n (map nat_of os) (mask_bits m (pred (length os)))) (sym long) flat))
      ∙ pos-to_nat limit os are.in_range)

  pub joined_back : flat_map g (masked m (map f (pieces (map nat_of os) inner))) ≡ inner
  joined_back =
      flat_map-of_map g _ ∙ (ap (flat_map (λ ys. ys)) slots_back
      ∙ joined_back_nat (map nat_of os) (mask_bits m (pred (length os))) inner (subst (λ n. AreOffsetsTo n (map nat_of os)) (sym long) are.ascend) (subst (λ n. IsFlat n (map nat_of os) (mask_bits m (pred (length os)))) (sym long) flat))

pub chunks_join : {A : Type 0} (k n : ℕ) (xs : List A) → length xs ≡ n * k → flat_map (λ ys. ys) (chunks k n xs) ≡ xs
chunks_join k zero [] h = refl
chunks_join k zero (x ∷ xs) h = absurd (omega (arith, h))
chunks_join k (suc n) xs h = rw (chunks_join k n (drop k xs) (grind (arith, length-drop k xs, h))) (take-append-drop k xs)
