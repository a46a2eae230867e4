-- Slots of two arrays, one after the other.
use Rattle.std.proofs.Common.{◌≡◌, ℕ, zero, suc, ◌+◌, ◌<◌, ◌≤◌, List, [], ◌∷◌, ◌++◌, length, take, drop, get_or, replicate, refl, ap, ap₂, sym, ◌∙◌, subst, arith, Bool, IsTrue, ◌↔◌}
use Rattle.std.specs.Prelude.{nat_eq}
use Rattle.std.proofs.lemmas.Bool.{eqb-true}
use Rattle.std.proofs.lemmas.List.{get_or-drop, length-drop, length-take-le, take_all, length-map}
use Rattle.arrow_flat.specs.Slots.{Slot, null, items, parts, chosen, slots_of, list_of_slots}
use Rattle.arrow_layout.specs.Denote.{denote}
use Rattle.arrow_layout.specs.Layouts.{Layout, nulls, booleans, primitives, binaries, fixed_size_binaries, views, lists, fixed_size_lists, structs, sparse_unions, dense_unions, dictionaries, length_of}
use Rattle.arrow_layout.specs.WellFormed.{WellFormed}
use Rattle.arrow_layout.proofs.Lengths.{length-denote}
use Rattle.arrow_equal.specs.SlotAt.{slot_at}
use Rattle.arrow_equal.specs.SlotParts.{IsNullArray, row_at, slots_from}

-- ---- lists of slots as slots hold them

pub list_of_slots_of : (xs : List Slot) → list_of_slots (slots_of xs) ≡ xs
list_of_slots_of [] = refl
list_of_slots_of (x ∷ xs) = ap (λ ys. x ∷ ys) (list_of_slots_of xs)

slots_of_one : (xs ys : List Slot) → slots_of xs ≡ slots_of ys → xs ≡ ys
slots_of_one xs ys e = sym (list_of_slots_of xs) ∙ ap list_of_slots e ∙ list_of_slots_of ys

pub items_one : (xs ys : List Slot) → items (slots_of xs) ≡ items (slots_of ys) → xs ≡ ys
items_one xs ys e = let h : slots_of xs ≡ slots_of ys = cc in slots_of_one xs ys h

pub parts_one : (xs ys : List Slot) → parts (slots_of xs) ≡ parts (slots_of ys) → xs ≡ ys
parts_one xs ys e = let h : slots_of xs ≡ slots_of ys = cc in slots_of_one xs ys h

-- ---- ranges

take_next : (xs : List Slot) (n : ℕ) → n < length xs → take (suc n) xs ≡ take n xs ++ get_or xs n null ∷ []
take_next [] n h = absurd (omega (arith, h))
take_next (x ∷ xs) zero h = refl
take_next (x ∷ xs) (suc n) h = ap (λ ys. x ∷ ys) (take_next xs n (omega (arith, h)))

take_at : (xs : List Slot) (n i : ℕ) → i < n → get_or (take n xs) i null ≡ get_or xs i null
take_at xs zero i h = absurd (omega (arith, h))
take_at [] (suc n) i h = refl
take_at (x ∷ xs) (suc n) zero h = refl
take_at (x ∷ xs) (suc n) (suc i) h = take_at xs n i (omega (arith, h))

pub range_next : (l : Layout) (a n : ℕ) → WellFormed l → a + n < length_of l → slots_from l a (n + 1) ≡ slots_from l a n ++ slot_at l (a + n) ∷ []
unfolding slot_at
range_next l a n w h =
    let q : n + 1 ≡ suc n = omega arith in
    let long : n < length (drop a (denote l)) = omega (arith, h, length-denote l w, length-drop a (denote l)) in
    ap (λ k. take k (drop a (denote l))) q ∙ take_next (drop a (denote l)) n long ∙ ap (λ x. slots_from l a n ++ x ∷ []) (get_or-drop a (denote l) n null)

pub range_at : (l : Layout) (a n i : ℕ) → i < n → get_or (slots_from l a n) i null ≡ slot_at l (a + i)
unfolding slot_at
range_at l a n i h = take_at (drop a (denote l)) n i h ∙ get_or-drop a (denote l) i null

pub ranges_next : (l r : Layout) (a b n : ℕ) → WellFormed l → WellFormed r → a + n < length_of l → b + n < length_of r → slots_from l a n ≡ slots_from r b n → slot_at l (a + n) ≡ slot_at r (b + n)
    → slots_from l a (n + 1) ≡ slots_from r b (n + 1)
ranges_next l r a b n w v h k e s = range_next l a n w h ∙ ap₂ (λ xs x. xs ++ x ∷ []) e s ∙ sym (range_next r b n v k)

pub ranges_at : (l r : Layout) (a b n i : ℕ) → i < n → slots_from l a n ≡ slots_from r b n → slot_at l (a + i) ≡ slot_at r (b + i)
ranges_at l r a b n i h e = sym (range_at l a n i h) ∙ ap (λ xs. get_or xs i null) e ∙ range_at r b n i h

pub range_count : (l : Layout) (a n : ℕ) → WellFormed l → a + n ≤ length_of l → length (slots_from l a n) ≡ n
range_count l a n w h = length-take-le n (drop a (denote l)) (omega (arith, h, length-denote l w, length-drop a (denote l)))

pub ranges_count : (l r : Layout) (a b n m : ℕ) → WellFormed l → WellFormed r → a + n ≤ length_of l → b + m ≤ length_of r → slots_from l a n ≡ slots_from r b m → n ≡ m
ranges_count l r a b n m w v h k e = sym (range_count l a n w h) ∙ ap length e ∙ range_count r b m v k

pub whole_range : (l : Layout) → WellFormed l → slots_from l 0 (length_of l) ≡ denote l
whole_range l w = take_all (length_of l) (denote l) (omega (arith, length-denote l w))

pub items_same : (l r : Layout) (a b n m : ℕ) (x : Bool) → n ≡ m → IsTrue x ↔ (slots_from l a n ≡ slots_from r b n) → IsTrue x ↔ (items (slots_of (slots_from l a n)) ≡ items (slots_of (slots_from r b m)))
items_same l r a b n m x q h = (
  λ t. ap (λ xs. items (slots_of xs)) (h.0 t ∙ ap (slots_from r b) q),
  λ e. h.1 (items_one (slots_from l a n) (slots_from r b m) e ∙ ap (slots_from r b) (sym q)),
)

pub items_differ : (l r : Layout) (a b n m : ℕ) → WellFormed l → WellFormed r → a + n ≤ length_of l → b + m ≤ length_of r → (n ≡ m → ⊥) → IsTrue (nat_eq n m) ↔ (items (slots_of (slots_from l a n)) ≡ items (slots_of (slots_from r b m)))
items_differ l r a b n m w v h k d = (
  λ t. absurd (d (eqb-true n m t)),
  λ e. absurd (d (ranges_count l r a b n m w v h k (items_one (slots_from l a n) (slots_from r b m) e))),
)

pub parts_same : (xs ys : List Slot) (x : Bool) → IsTrue x ↔ (xs ≡ ys) → IsTrue x ↔ (parts (slots_of xs) ≡ parts (slots_of ys))
parts_same xs ys x h = (λ t. ap (λ zs. parts (slots_of zs)) (h.0 t), λ e. h.1 (parts_one xs ys e))

pub chosen_same : (m n : ℕ) (x y : Slot) (b : Bool) → m ≡ n → IsTrue b ↔ (x ≡ y) → IsTrue b ↔ (chosen m x ≡ chosen n y)
chosen_same m n x y b q h = (λ t. ap₂ chosen q (h.0 t), λ e. let s : x ≡ y = cc in h.1 s)

pub chosen_differ : (m n : ℕ) (x y : Slot) → (m ≡ n → ⊥) → IsTrue (nat_eq m n) ↔ (chosen m x ≡ chosen n y)
chosen_differ m n x y d = (λ t. absurd (d (eqb-true m n t)), λ e. let q : m ≡ n = cc in absurd (d q))

-- ---- nulls

nulls_dropped : (n a : ℕ) → drop a (replicate n null) ≡ replicate (length (drop a (replicate n null))) null
nulls_dropped n zero = all n
  where
    all : (n : ℕ) → replicate n null ≡ replicate (length (replicate n null)) null
    all zero = refl
    all (suc n) = ap (λ xs. null ∷ xs) (all n)
nulls_dropped zero (suc a) = refl
nulls_dropped (suc n) (suc a) = nulls_dropped n a

nulls_taken : (m n : ℕ) → n ≤ m → take n (replicate m null) ≡ replicate n null
nulls_taken m zero h = refl
nulls_taken zero (suc n) h = absurd (omega (arith, h))
nulls_taken (suc m) (suc n) h = ap (λ xs. null ∷ xs) (nulls_taken m n (omega (arith, h)))

null_range : (l : Layout) (a n : ℕ) → IsNullArray l → WellFormed l → a + n ≤ length_of l → slots_from l a n ≡ replicate n null
null_range (nulls t m) a n is w h =
    let many : n ≤ length (drop a (denote (nulls t m))) = omega (arith, h, length-denote (nulls t m) w, length-drop a (denote (nulls t m))) in
    ap (take n) (nulls_dropped m a) ∙ nulls_taken (length (drop a (replicate m null))) n many
null_range (booleans t m vs) a n is w h = absurd is
null_range (primitives t m vs) a n is w h = absurd is
null_range (binaries t m os bs) a n is w h = absurd is
null_range (fixed_size_binaries t m k c bs) a n is w h = absurd is
null_range (views t m vs buffers) a n is w h = absurd is
null_range (lists t m os l) a n is w h = absurd is
null_range (fixed_size_lists t m k c l) a n is w h = absurd is
null_range (structs t m c ls) a n is w h = absurd is
null_range (sparse_unions t o ts ls) a n is w h = absurd is
null_range (dense_unions t o ts os ls) a n is w h = absurd is
null_range (dictionaries t u m ks l) a n is w h = absurd is

pub null_ranges : (l r : Layout) (a b n : ℕ) → IsNullArray l → IsNullArray r → WellFormed l → WellFormed r → a + n ≤ length_of l → b + n ≤ length_of r → slots_from l a n ≡ slots_from r b n
null_ranges l r a b n p q w v h k = null_range l a n p w h ∙ sym (null_range r b n q v k)

-- ---- rows

row_next : (ls : List Layout) (i k : ℕ) (l : Layout) → k < length ls → l ≡ get_or ls k l → row_at i (take (k + 1) ls) ≡ row_at i (take k ls) ++ slot_at l i ∷ []
row_next ls i k l h e = let q : k + 1 ≡ suc k = omega arith in ap (λ n. row_at i (take n ls)) q ∙ by ls k h e
  where
    by : (ls : List Layout) (k : ℕ) → k < length ls → l ≡ get_or ls k l → row_at i (take (suc k) ls) ≡ row_at i (take k ls) ++ slot_at l i ∷ []
    by [] k h e = absurd (omega (arith, h))
    by (c ∷ ls) zero h e = ap (λ x. slot_at x i ∷ []) (sym e)
    by (c ∷ ls) (suc k) h e = ap (λ xs. slot_at c i ∷ xs) (by ls k (omega (arith, h)) e)

row_slot : (ls : List Layout) (i k : ℕ) (l : Layout) → k < length ls → l ≡ get_or ls k l → get_or (row_at i ls) k null ≡ slot_at l i
row_slot [] i k l h e = absurd (omega (arith, h))
row_slot (c ∷ ls) i zero l h e = ap (λ x. slot_at x i) (sym e)
row_slot (c ∷ ls) i (suc k) l h e = row_slot ls i k l (omega (arith, h)) e

module _ (ls rs : List Layout) (i j : ℕ) where
  pub rows_next : (k : ℕ) (l r : Layout) → k < length ls → k < length rs → l ≡ get_or ls k l → r ≡ get_or rs k r → row_at i (take k ls) ≡ row_at j (take k rs) → slot_at l i ≡ slot_at r j
      → row_at i (take (k + 1) ls) ≡ row_at j (take (k + 1) rs)
  rows_next k l r h g p q e s = row_next ls i k l h p ∙ ap₂ (λ xs x. xs ++ x ∷ []) e s ∙ sym (row_next rs j k r g q)

  pub rows_at : (k : ℕ) (l r : Layout) → k < length ls → k < length rs → l ≡ get_or ls k l → r ≡ get_or rs k r → row_at i ls ≡ row_at j rs → slot_at l i ≡ slot_at r j
  rows_at k l r h g p q e = sym (row_slot ls i k l h p) ∙ ap (λ xs. get_or xs k null) e ∙ row_slot rs j k r g q

  pub rows_count : row_at i ls ≡ row_at j rs → length ls ≡ length rs
  rows_count e = sym (length-map ls (λ l. slot_at l i)) ∙ ap length e ∙ length-map rs (λ l. slot_at l j)

  pub rows_whole : (k : ℕ) → length ls ≤ k → length rs ≤ k → row_at i (take k ls) ≡ row_at j (take k rs) → row_at i ls ≡ row_at j rs
  rows_whole k h g e = ap (row_at i) (sym (take_all k ls h)) ∙ e ∙ ap (row_at j) (take_all k rs g)

-- ---- all slots

pub lengths_same : (l r : Layout) → WellFormed l → WellFormed r → denote l ≡ denote r → length_of l ≡ length_of r
lengths_same l r w v e = sym (length-denote l w) ∙ ap length e ∙ length-denote r v

pub whole_same : (l r : Layout) (n m : ℕ) (x : Bool) → WellFormed l → WellFormed r → n ≡ length_of l → m ≡ length_of r → n ≡ m → IsTrue x ↔ (slots_from l 0 n ≡ slots_from r 0 n) → IsTrue x ↔ (denote l ≡ denote r)
whole_same l r n m x w v p q s h =
    let left : slots_from l 0 n ≡ denote l = ap (slots_from l 0) p ∙ whole_range l w in
    let right : slots_from r 0 n ≡ denote r = ap (slots_from r 0) (s ∙ q) ∙ whole_range r v in
    (λ t. sym left ∙ h.0 t ∙ right, λ e. h.1 (left ∙ e ∙ sym right))

pub whole_differ : (l r : Layout) (n m : ℕ) → WellFormed l → WellFormed r → n ≡ length_of l → m ≡ length_of r → (n ≡ m → ⊥) → IsTrue (nat_eq n m) ↔ (denote l ≡ denote r)
whole_differ l r n m w v p q d = (λ t. absurd (d (eqb-true n m t)), λ e. absurd (d (p ∙ lengths_same l r w v e ∙ sym q)))

pub by_slots : (l r : Layout) → WellFormed l → WellFormed r → length_of l ≡ length_of r → ((i : ℕ) → i < length_of l → slot_at l i ≡ slot_at r i) → denote l ≡ denote r
by_slots l r w v n h = sym (whole_range l w) ∙ up_to (length_of l) (omega arith) ∙ ap (slots_from r 0) n ∙ whole_range r v
  where
    up_to : (k : ℕ) → k ≤ length_of l → slots_from l 0 k ≡ slots_from r 0 k
    up_to zero g = refl
    up_to (suc k) g =
        let q : k + 1 ≡ suc k = omega arith in
        subst (λ m. slots_from l 0 m ≡ slots_from r 0 m) q
        (ranges_next l r 0 0 k w v (omega (arith, g)) (omega (arith, g, n)) (up_to k (omega (arith, g))) (h (0 + k) (omega (arith, g))))

-- from the first slot on
pub first_next : (l r : Layout) (k : ℕ) → WellFormed l → WellFormed r → k < length_of l → k < length_of r → slots_from l 0 k ≡ slots_from r 0 k → slot_at l k ≡ slot_at r k → slots_from l 0 (k + 1) ≡ slots_from r 0 (k + 1)
first_next l r k w v h g e s =
    let q : k ≡ 0 + k = omega arith in
    ranges_next l r 0 0 k w v (omega (arith, h)) (omega (arith, g)) e (sym (ap (slot_at l) q) ∙ s ∙ ap (slot_at r) q)

pub slot_same : (l r : Layout) (k : ℕ) → denote l ≡ denote r → slot_at l k ≡ slot_at r k
unfolding slot_at
slot_same l r k e = ap (λ xs. get_or xs k null) e
