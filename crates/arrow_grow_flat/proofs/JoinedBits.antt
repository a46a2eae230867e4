-- The masks of arrays one after another.
use Rattle.std.proofs.Common.{◌≡◌, ℕ, zero, suc, ◌+◌, ◌<◌, ◌≤◌, Bool, true, false, cond, List, [], ◌∷◌, map, length, take, get_or, replicate, Option, Some, None, refl, ap, sym, ◌∙◌, arith}
use Rattle.std.specs.Prelude.{not}
use Rattle.std.proofs.lemmas.List.Sums.{sum_by-cons}
use Rattle.arrow_buffers.specs.Bits.{Bits, count_unset}
use Rattle.arrow_flat.specs.Primitives.{unset_in}
use Rattle.arrow_layout.specs.Denote.{validity_of}
use Rattle.arrow_layout.specs.Layouts.{Layout, nulls, booleans, primitives, binaries, fixed_size_binaries, views, lists, fixed_size_lists, structs, sparse_unions, dense_unions, dictionaries, length_of}
use Rattle.arrow_layout.specs.Masks.{null_count_of}
use Rattle.arrow_layout.specs.WellFormed.{WellFormed, MaskFits, mask_bits}
use Rattle.arrow_grow_flat.specs.Validities.{total_length, validity_bits}

-- ---- the bits of one array

mask_fits : (l : Layout) → WellFormed l → MaskFits (validity_of l) (length_of l)
mask_fits (nulls t n) w = tt
mask_fits (booleans t m vs) w = w.0.mask
mask_fits (primitives t m vs) w = w.0.mask
mask_fits (binaries t m os bs) w = w.0.mask
mask_fits (fixed_size_binaries t m k n bs) w = w.0.mask
mask_fits (views t m vs buffers) w = w.0.mask
mask_fits (lists t m os l) w = w.0.mask
mask_fits (fixed_size_lists t m k n l) w = w.0.mask
mask_fits (structs t m n ls) w = w.0.mask
mask_fits (sparse_unions t o ts ls) w = tt
mask_fits (dense_unions t o ts os ls) w = tt
mask_fits (dictionaries t u m ks l) w = w.0.mask

unset_up_to : (bits : List Bool) → count_unset bits ≤ length bits
unset_up_to [] = omega arith
unset_up_to (true ∷ bits) = omega (arith, unset_up_to bits, sum_by-cons (λ (b : Bool). cond (not b) 1 0) true bits)
unset_up_to (false ∷ bits) = omega (arith, unset_up_to bits, sum_by-cons (λ (b : Bool). cond (not b) 1 0) false bits)

all_unset : (bits : List Bool) → count_unset bits ≡ length bits → bits ≡ replicate (length bits) false
all_unset [] e = refl
all_unset (true ∷ bits) e = absurd (omega (arith, e, unset_up_to bits, sum_by-cons (λ (b : Bool). cond (not b) 1 0) true bits))
all_unset (false ∷ bits) e = ap (λ bs. false ∷ bs) (all_unset bits (omega (arith, e, sum_by-cons (λ (b : Bool). cond (not b) 1 0) false bits)))

by_mask : (m : Option Bits) (n : ℕ) → MaskFits m n → unset_in m ≡ n → mask_bits m n ≡ replicate n false
by_mask None n f e = ap (λ k. replicate k true) (sym e) ∙ ap (λ k. replicate k false) e
by_mask (Some b) n f e = all_unset b.bits (e ∙ sym f.0) ∙ ap (λ k. replicate k false) f.0

-- all slots are null
pub bits_unset : (l : Layout) → WellFormed l → null_count_of l ≡ length_of l → validity_bits l ≡ replicate (length_of l) false
bits_unset (nulls t n) w e = refl
bits_unset (booleans t m vs) w e = by_mask m (length_of (booleans t m vs)) w.0.mask e
bits_unset (primitives t m vs) w e = by_mask m (length_of (primitives t m vs)) w.0.mask e
bits_unset (binaries t m os bs) w e = by_mask m (length_of (binaries t m os bs)) w.0.mask e
bits_unset (fixed_size_binaries t m k n bs) w e = by_mask m n w.0.mask e
bits_unset (views t m vs buffers) w e = by_mask m (length_of (views t m vs buffers)) w.0.mask e
bits_unset (lists t m os l) w e = by_mask m (length_of (lists t m os l)) w.0.mask e
bits_unset (fixed_size_lists t m k n l) w e = by_mask m n w.0.mask e
bits_unset (structs t m n ls) w e = by_mask m n w.0.mask e
bits_unset (sparse_unions t o ts ls) w e = by_mask None (length ts) tt e
bits_unset (dense_unions t o ts os ls) w e = by_mask None (length ts) tt e
bits_unset (dictionaries t u m ks l) w e = by_mask m (length ks) w.0.mask e

-- a null array has no other bits
by_validity : (l : Layout) → (null_count_of l ≡ length_of l → ⊥) → validity_bits l ≡ mask_bits (validity_of l) (length_of l)
by_validity (nulls t n) h = absurd (h refl)
by_validity (booleans t m vs) h = refl
by_validity (primitives t m vs) h = refl
by_validity (binaries t m os bs) h = refl
by_validity (fixed_size_binaries t m k n bs) h = refl
by_validity (views t m vs buffers) h = refl
by_validity (lists t m os l) h = refl
by_validity (fixed_size_lists t m k n l) h = refl
by_validity (structs t m n ls) h = refl
by_validity (sparse_unions t o ts ls) h = refl
by_validity (dense_unions t o ts os ls) h = refl
by_validity (dictionaries t u m ks l) h = refl

pub bits_masked : (l : Layout) (b : Bits) → (null_count_of l ≡ length_of l → ⊥) → validity_of l ≡ Some b → validity_bits l ≡ b.bits
bits_masked l b h e = by_validity l h ∙ ap (λ m. mask_bits m (length_of l)) e

pub bits_set : (l : Layout) → (null_count_of l ≡ length_of l → ⊥) → validity_of l ≡ None → validity_bits l ≡ replicate (length_of l) true
bits_set l h e = by_validity l h ∙ ap (λ m. mask_bits m (length_of l)) e

-- ---- how many slots there are

total_cons : (l : Layout) (ls : List Layout) → total_length (l ∷ ls) ≡ length_of l + total_length ls
total_cons l ls = sum_by-cons (λ x. x) (length_of l) (map length_of ls)

pub total_more : (ls : List Layout) (i : ℕ) (d : Layout) → i < length ls → total_length (take (i + 1) ls) ≡ total_length (take i ls) + length_of (get_or ls i d)
total_more [] i d h = absurd (omega (arith, h))
total_more (l ∷ ls) zero d h = let n = total_cons l [] in omega (arith, n)
total_more (l ∷ ls) (suc i) d h =
    let e : suc i + 1 ≡ suc (i + 1) = omega arith in
    let n = total_cons l (take (i + 1) ls) in
    let k = total_cons l (take i ls) in
    ap (λ j. total_length (take j (l ∷ ls))) e ∙ omega (arith, n, k, total_more ls i d (omega (arith, h)))

total_up_to : (ls : List Layout) (i : ℕ) → total_length (take i ls) ≤ total_length ls
total_up_to [] zero = omega arith
total_up_to [] (suc i) = omega arith
total_up_to (l ∷ ls) zero = omega arith
total_up_to (l ∷ ls) (suc i) = omega (arith, total_up_to ls i, total_cons l ls, total_cons l (take i ls))

pub total_at : (ls : List Layout) (i : ℕ) (d : Layout) → i < length ls → total_length (take i ls) + length_of (get_or ls i d) ≤ total_length ls
total_at ls i d h = omega (arith, total_up_to ls (i + 1), total_more ls i d h)
