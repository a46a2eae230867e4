-- A well-formed layout denotes as many slots as it has.
use Rattle.std.proofs.Common.{Bool, List, None, Option, Some, [], ap, arith, drop, get_or, length, map, pred, refl, suc, sym, zero, ℕ, ℤ, ◌∙◌, ◌∷◌, ◌≡◌}
use Rattle.std.proofs.lemmas.List.{length-map, length-replicate}
use Rattle.arrow_types.specs.Select.{select, nat_of}
use Rattle.arrow_types.specs.TypeData.{TypeData}
use Rattle.arrow_buffers.specs.Bits.{Bits}
use Rattle.arrow_flat.specs.Slots.{Slot, Slots, bool, bytes, items, no_slots, null, num, slots_of, parts}
use Rattle.arrow_flat.specs.Views.{view_bytes}
use Rattle.arrow_layout.specs.Denote.{denote, masked, masked_by, rows, sparse_slots, with_column}
use Rattle.arrow_flat.specs.Pieces.{chunks, pieces, pieces_from}
use Rattle.arrow_layout.specs.Forms.{form_of, ids_by}
use Rattle.arrow_layout.specs.Layouts.{Layout, Layouts, binaries, booleans, child, dense_unions, dictionaries, fixed_size_binaries, fixed_size_lists, length_of, lengths_of, lists, no_layouts, nulls, primitives, sparse_unions, structs, views}
use Rattle.arrow_layout.specs.WellFormed.{AllNamed, AreWellFormed, WellFormed, positions}
use Rattle.arrow_layout.proofs.Dense.{length-dense, length-named}

pub length-masked_by : (bits : List Bool) (xs : List Slot) → length (masked_by bits xs) ≡ length xs
length-masked_by [] xs = refl
length-masked_by (b ∷ bits) [] = refl
length-masked_by (b ∷ bits) (x ∷ xs) = ap suc (length-masked_by bits xs)

pub length-masked : (m : Option Bits) (xs : List Slot) → length (masked m xs) ≡ length xs
length-masked None xs = refl
length-masked (Some b) xs = length-masked_by b.bits xs

length-pieces_from : {A : Type 0} (a : ℕ) (os : List ℕ) (xs : List A) → length (pieces_from a os xs) ≡ length os
length-pieces_from a [] xs = refl
length-pieces_from a (b ∷ os) xs = ap suc (length-pieces_from b os xs)

length-pieces_nat : {A : Type 0} (os : List ℕ) (xs : List A) → length (pieces os xs) ≡ pred (length os)
length-pieces_nat [] xs = refl
length-pieces_nat (a ∷ os) xs = length-pieces_from a os xs

pub length-pieces : {A : Type 0} (os : List ℤ) (xs : List A) → length (pieces (map nat_of os) xs) ≡ pred (length os)
length-pieces os xs = length-pieces_nat (map nat_of os) xs ∙ ap pred (length-map os nat_of)

pub length-chunks : {A : Type 0} (k n : ℕ) (xs : List A) → length (chunks k n xs) ≡ n
length-chunks k zero xs = refl
length-chunks k (suc n) xs = ap suc (length-chunks k n (drop k xs))

pub length-sparse : (select_field : ℕ → ℕ) (ts : List ℕ) (cs : List (List Slot)) → length (sparse_slots select_field ts cs) ≡ length ts
length-sparse select_field [] cs = refl
length-sparse select_field (t ∷ ts) cs = ap suc (length-sparse select_field ts _)

pub length-with_column : (xs : List Slot) (rs : List Slots) → length xs ≡ length rs → length (with_column xs rs) ≡ length rs
length-with_column [] [] e = refl
length-with_column [] (r ∷ rs) e = absurd (omega arith)
length-with_column (x ∷ xs) [] e = refl
length-with_column (x ∷ xs) (r ∷ rs) e = ap suc (length-with_column xs rs (omega arith))

-- the offsets of a dense union are as many as its type numbers
pub length-positions : (t : TypeData) (ts : List ℤ) → length (positions t ts) ≡ length ts
length-positions t ts = length-map (map nat_of ts) (select (ids_by (form_of t))) ∙ length-map ts nat_of

pub offsets_many : (t : TypeData) (ts os : List ℤ) (lens : List ℕ) → AllNamed lens (positions t ts) (map nat_of os) → length (map nat_of os) ≡ length (map nat_of ts)
offsets_many t ts os lens h = length-named lens (positions t ts) (map nat_of os) h ∙ length-map (map nat_of ts) (select (ids_by (form_of t)))

mutual
  pub length-denote : (l : Layout) → WellFormed l → length (denote l) ≡ length_of l
  length-denote (nulls t n) w = length-replicate n null
  length-denote (booleans t m vs) w = length-masked m (map bool vs.bits) ∙ length-map vs.bits bool
  length-denote (primitives t m vs) w = length-masked m (map num vs) ∙ length-map vs num
  length-denote (binaries t m os bs) w = length-masked m _ ∙ (length-map (pieces (map nat_of os) bs) bytes ∙ length-pieces os bs)
  length-denote (fixed_size_binaries t m k n bs) w = length-masked m _ ∙ (length-map (chunks k n bs) bytes ∙ length-chunks k n bs)
  length-denote (views t m vs buffers) w = length-masked m _ ∙ (length-map (map (view_bytes buffers) vs) bytes ∙ length-map vs (view_bytes buffers))
  length-denote (lists t m os l) w =
      length-masked m _ ∙ (length-map (pieces (map nat_of os) (denote l)) (λ xs. items (slots_of xs)) ∙ length-pieces os (denote l))
  length-denote (fixed_size_lists t m k n l) w =
      length-masked m _ ∙ (length-map (chunks k n (denote l)) (λ xs. items (slots_of xs)) ∙ length-chunks k n (denote l))
  length-denote (structs t m n ls) w = length-masked m _ ∙ (length-map (rows n ls) parts ∙ length-rows n ls w.2)
  length-denote (sparse_unions t o ts ls) w = length-sparse _ (map nat_of ts) _ ∙ length-map ts nat_of
  length-denote (dense_unions t o ts os ls) w =
      length-dense _ (map nat_of ts) (map nat_of os) _ (offsets_many t ts os (lengths_of ls) w.4) ∙ length-map ts nat_of
  length-denote (dictionaries t u m ks l) w = length-masked m _ ∙ length-map ks (λ k. get_or (denote l) (nat_of k) null)

  pub length-rows : (n : ℕ) (ls : Layouts) → AreWellFormed (λ i. i ≡ n) ls → length (rows n ls) ≡ n
  length-rows n no_layouts w = length-replicate n no_slots
  length-rows n (child l ls) w =
      let below : length (rows n ls) ≡ n = length-rows n ls w.2 in
      length-with_column (denote l) (rows n ls) (length-denote l w.1 ∙ (w.0 ∙ sym below)) ∙ below
