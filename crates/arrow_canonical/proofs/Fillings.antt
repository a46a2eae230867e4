-- Fillings in the children of arrays.
use Rattle.std.proofs.Common.{◌≡◌, ◌↔◌, ℕ, zero, suc, ◌+◌, ◌*◌, ◌<◌, ◌≤◌, false, List, [], ◌∷◌, length, get_or, take, drop, replicate, Option, refl, ap, ap₂, sym, ◌∙◌, subst, arith}
use Rattle.std.specs.Prelude.{nat_eq, ⊤}
use Rattle.std.proofs.lemmas.List.{get_or-replicate, length-drop, get_or-drop, drop-drop}
use Rattle.std.proofs.Math.Nat.{mul-le-mul_right}
use Rattle.arrow_types.specs.TypeData.{TypeData, FieldList, no_fields, and_field}
use Rattle.arrow_types.specs.TypeData as T
use Rattle.arrow_buffers.specs.Bits.{Bits}
use Rattle.arrow_flat.specs.Pieces.{chunks}
use Rattle.arrow_flat.specs.Primitives.{MaskHasLength, valid_at}
use Rattle.arrow_flat.specs.Slots.{Slot, null, Slots, no_slots, slot}
use Rattle.arrow_layout.specs.Canonical.{AllUnset, FillElsewhere}
use Rattle.arrow_layout.specs.Denote.{denote, rows, with_column}
use Rattle.arrow_layout.specs.Forms.{form_of, nulls_of}
use Rattle.arrow_layout.specs.Layouts.{Layout, nulls, booleans, primitives, binaries, fixed_size_binaries, views, lists, fixed_size_lists, structs, sparse_unions, dense_unions, dictionaries, layouts, length_of, type_of}
use Rattle.arrow_layout.specs.NullLayout.{null_layout}
use Rattle.arrow_layout.specs.SlotsOf.{fill, fills}
use Rattle.arrow_layout.specs.WellFormed.{AreWellFormed, HaveTypes, WellFormed, mask_bits}
use Rattle.arrow_layout.proofs.Lengths.{length-denote, length-rows}
use Rattle.arrow_layout.proofs.NullLayouts.{denote-null, length-null}
use Rattle.arrow_equal.specs.SlotAt.{slot_at}
use Rattle.arrow_equal.specs.SlotParts.{IsNullArray}
use Rattle.arrow_canonical.specs.Filled.{AllFilled, IsFilledAt, NullsAreFilled, OthersAreFilled}
use Rattle.arrow_canonical.proofs.Nulls.{length-chunks, masked_each}

-- ---- places

pub chunk_within : (i k n top : ℕ) → i < n → n * k ≤ top → i * k + k ≤ top
chunk_within i k n top h w =
    let e : i * k + k ≡ suc i * k = omega arith in omega (arith, e, w, mul-le-mul_right k (let q : suc i ≤ n = omega (arith, h) in q))

pub chunk_place : (i j k n top : ℕ) → i < n → j < k → n * k ≤ top → i * k + j < top
chunk_place i j k n top h u w = omega (arith, chunk_within i k n top h w, u)

-- ---- null arrays, and the slots of an array that says nothing

null_fill : (t : TypeData) → form_of t ≡ nulls_of → fill t ≡ null
null_fill (T.union fs ids mode) e = cc
null_fill (T.extension n t m) e = null_fill t e
null_fill _ e = refl

pub null_filled : (l : Layout) (i : ℕ) → IsNullArray l → WellFormed l → i < length_of l → IsFilledAt l i
unfolding slot_at
null_filled (nulls t n) i is w h = get_or-replicate n i null null h ∙ sym (null_fill t w.of_form)
null_filled (booleans t m vs) i is w h = absurd is
null_filled (primitives t m vs) i is w h = absurd is
null_filled (binaries t m os bs) i is w h = absurd is
null_filled (fixed_size_binaries t m k n bs) i is w h = absurd is
null_filled (views t m vs buffers) i is w h = absurd is
null_filled (lists t m os l) i is w h = absurd is
null_filled (fixed_size_lists t m k n l) i is w h = absurd is
null_filled (structs t m n ls) i is w h = absurd is
null_filled (sparse_unions t o ts ls) i is w h = absurd is
null_filled (dense_unions t o ts os ls) i is w h = absurd is
null_filled (dictionaries t u m ks l) i is w h = absurd is

pub filling_at : (l : Layout) (t : TypeData) → l ≡ null_layout t 1 → slot_at l 0 ≡ fill t
unfolding slot_at
filling_at l t e = ap (λ k. get_or (denote k) 0 null) e ∙ ap (λ xs. get_or xs 0 null) (denote-null t 1)

pub filling_some : (l : Layout) (t : TypeData) → l ≡ null_layout t 1 → 0 < length_of l
filling_some l t e = omega (arith, ap length_of e, length-null t 1)

-- ---- slots of sparse unions

pub elsewhere_long : (d : Slot) (j : ℕ) (is : List ℕ) (xs : List Slot) → FillElsewhere d j is xs → length xs ≡ length is
elsewhere_long d j [] [] h = refl
elsewhere_long d j [] (x ∷ xs) h = absurd h
elsewhere_long d j (i ∷ is) [] h = absurd h
elsewhere_long d j (i ∷ is) (x ∷ xs) h = omega (arith, elsewhere_long d j is xs h.1)

filled_elsewhere : (d : Slot) (j : ℕ) (is : List ℕ) (xs : List Slot) → length xs ≡ length is
    → ((i : ℕ) → i < length is → nat_eq (get_or is i 0) j ≡ false → get_or xs i null ≡ d) → FillElsewhere d j is xs
filled_elsewhere d j [] [] e h = tt
filled_elsewhere d j [] (x ∷ xs) e h = absurd (omega (arith, e))
filled_elsewhere d j (i ∷ is) [] e h = absurd (omega (arith, e))
filled_elsewhere d j (i ∷ is) (x ∷ xs) e h = (h zero (omega arith), filled_elsewhere d j is xs (omega (arith, e)) (λ k w f. h (suc k) (omega (arith, w)) f))

elsewhere_at : (d : Slot) (j : ℕ) (is : List ℕ) (xs : List Slot) → FillElsewhere d j is xs → (i : ℕ) → i < length is → nat_eq (get_or is i 0) j ≡ false → get_or xs i null ≡ d
elsewhere_at d j [] xs h k w f = absurd (omega (arith, w))
elsewhere_at d j (i ∷ is) [] h k w f = absurd h
elsewhere_at d j (i ∷ is) (x ∷ xs) h zero w f = h.0 f
elsewhere_at d j (i ∷ is) (x ∷ xs) h (suc k) w f = elsewhere_at d j is xs h.1 k (omega (arith, w)) f

pub elsewhere : (l : Layout) (j : ℕ) (is : List ℕ) → length (denote l) ≡ length is → OthersAreFilled is j l ↔ FillElsewhere (fill (type_of l)) j is (denote l)
unfolding slot_at
elsewhere l j is e = (filled_elsewhere (fill (type_of l)) j is (denote l) e, elsewhere_at (fill (type_of l)) j is (denote l))

-- ---- fixed-size lists

filled_take : (d : Slot) (k : ℕ) (ys : List Slot) → k ≤ length ys → ((j : ℕ) → j < k → get_or ys j null ≡ d) → take k ys ≡ replicate k d
filled_take d zero ys w h = refl
filled_take d (suc k) [] w h = absurd (omega (arith, w))
filled_take d (suc k) (y ∷ ys) w h = ap₂ (λ x xs. x ∷ xs) (h zero (omega arith)) (filled_take d k ys (omega (arith, w)) (λ j u. h (suc j) (omega (arith, u))))

take_filled : (d : Slot) (k : ℕ) (ys : List Slot) → k ≤ length ys → take k ys ≡ replicate k d → (j : ℕ) → j < k → get_or ys j null ≡ d
take_filled d zero ys w e j u = absurd (omega (arith, u))
take_filled d (suc k) [] w e j u = absurd (omega (arith, w))
take_filled d (suc k) (y ∷ ys) w e zero u = cc
take_filled d (suc k) (y ∷ ys) w e (suc j) u = let f : take k ys ≡ replicate k d = cc in take_filled d k ys (omega (arith, w)) f j (omega (arith, u))

chunk_get : {A : Type 0} (k n : ℕ) (xs : List A) (i : ℕ) → i < n → get_or (chunks k n xs) i [] ≡ take k (drop (i * k) xs)
chunk_get k zero xs i h = absurd (omega (arith, h))
chunk_get k (suc n) xs zero h = let e : 0 * k ≡ 0 = omega arith in rw e refl
chunk_get k (suc n) xs (suc i) h =
    let e : k + i * k ≡ suc i * k = omega arith in
    chunk_get k n (drop k xs) i (omega (arith, h)) ∙ ap (take k) (drop-drop (i * k) k xs ∙ ap (λ j. drop j xs) e)

pub lists_filled : (m : Option Bits) (k n : ℕ) (l : Layout) → MaskHasLength m n → WellFormed l → n * k ≤ length_of l
    → NullsAreFilled m k n l ↔ AllUnset (λ xs. xs ≡ replicate k (fill (type_of l))) (mask_bits m n) (chunks k n (denote l))
unfolding slot_at
lists_filled m k n l w f b =
    let xs = denote l in
    let d = fill (type_of l) in
    let long : length xs ≡ length_of l = length-denote l f in
    let each = masked_each (λ ys. ys ≡ replicate k d) [] m n (chunks k n xs) w (length-chunks k n xs) in
    let room : (i : ℕ) → i < n → k ≤ length (drop (i * k) xs) = λ i c. omega (arith, chunk_within i k n (length_of l) c b, long, length-drop (i * k) xs) in (
      λ h. each.0 (λ i c v. chunk_get k n xs i c ∙ filled_take d k (drop (i * k) xs) (room i c) (λ j u. get_or-drop (i * k) xs j null ∙ h i c v j u)),
      λ h i c v j u. sym (get_or-drop (i * k) xs j null) ∙ take_filled d k (drop (i * k) xs) (room i c) (sym (chunk_get k n xs i c) ∙ each.1 h i c v) j u,
    )

-- ---- structs

column_get : (xs : List Slot) (rs : List Slots) (i : ℕ) → i < length xs → i < length rs → get_or (with_column xs rs) i no_slots ≡ slot (get_or xs i null) (get_or rs i no_slots)
column_get [] rs i h k = absurd (omega (arith, h))
column_get (x ∷ xs) [] i h k = absurd (omega (arith, k))
column_get (x ∷ xs) (r ∷ rs) zero h k = refl
column_get (x ∷ xs) (r ∷ rs) (suc i) h k = column_get xs rs i (omega (arith, h)) (omega (arith, k))

abbrev AllAt : ℕ → List Layout → Type 0
AllAt i [] = ⊤
AllAt i (l ∷ ls) = IsFilledAt l i × AllAt i ls

row_filled : (fs : FieldList) (n : ℕ) (ls : List Layout) (i : ℕ) → HaveTypes fs (layouts ls) → AreWellFormed (λ k. k ≡ n) (layouts ls) → i < n
    → AllAt i ls ↔ (get_or (rows n (layouts ls)) i no_slots ≡ fills fs)
unfolding slot_at
row_filled no_fields n [] i t w h = (λ a. get_or-replicate n i no_slots no_slots h, λ e. tt)
row_filled no_fields n (l ∷ ls) i t w h = absurd t
row_filled (and_field f fs) n [] i t w h = absurd t
row_filled (and_field (T.field a u b m) fs) n (l ∷ ls) i t w h =
    let more = row_filled fs n ls i t.1 w.2 h in
    let many : length (rows n (layouts ls)) ≡ n = length-rows n (layouts ls) w.2 in
    let long : length (denote l) ≡ n = length-denote l w.1 ∙ w.0 in
    let at = column_get (denote l) (rows n (layouts ls)) i (omega (arith, long, h)) (omega (arith, many, h)) in (
      λ p. at ∙ ap₂ slot (p.0 ∙ ap fill (sym t.0)) (more.0 p.1),
      λ e. let both : slot (get_or (denote l) i null) (get_or (rows n (layouts ls)) i no_slots) ≡ slot (fill u) (fills fs) = sym at ∙ e in
          let first : get_or (denote l) i null ≡ fill u = cc in
          let rest : get_or (rows n (layouts ls)) i no_slots ≡ fills fs = cc in (first ∙ ap fill t.0, more.1 rest),
    )

all_at : (m : Option Bits) (n i : ℕ) (ls : List Layout) → AllFilled m n ls → i < n → valid_at m i ≡ false → AllAt i ls
all_at m n i [] h w v = tt
all_at m n i (l ∷ ls) h w v =
    let e : i * 1 + 0 ≡ i = omega arith in
    (subst (IsFilledAt l) e (h zero l (omega arith) refl i w v zero (omega arith)), all_at m n i ls (λ k c u p. h (suc k) c (omega (arith, u)) p) w v)

all_from : (m : Option Bits) (n : ℕ) (ls : List Layout) → ((i : ℕ) → i < n → valid_at m i ≡ false → AllAt i ls) → AllFilled m n ls
all_from m n [] h k l u e i w v j x = absurd (omega (arith, u))
all_from m n (c ∷ ls) h zero l u e i w v j x =
    let q : i ≡ i * 1 + j = omega (arith, x) in subst (λ a. IsFilledAt l a) q (subst (λ d. IsFilledAt d i) (sym e) (h i w v).0)
all_from m n (c ∷ ls) h (suc k) l u e i w v j x = all_from m n ls (λ a b d. (h a b d).1) k l (omega (arith, u)) e i w v j x

pub structs_filled : (m : Option Bits) (n : ℕ) (fs : FieldList) (ls : List Layout) → MaskHasLength m n → HaveTypes fs (layouts ls) → AreWellFormed (λ k. k ≡ n) (layouts ls)
    → AllFilled m n ls ↔ AllUnset (λ r. r ≡ fills fs) (mask_bits m n) (rows n (layouts ls))
structs_filled m n fs ls w t a =
    let each = masked_each (λ r. r ≡ fills fs) no_slots m n (rows n (layouts ls)) w (length-rows n (layouts ls) a) in (
      λ h. each.0 (λ i c v. (row_filled fs n ls i t a c).0 (all_at m n i ls h c v)),
      λ h. all_from m n ls (λ i c v. (row_filled fs n ls i t a c).1 (each.1 h i c v)),
    )
