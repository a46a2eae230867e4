-- The arrays that a growable takes from.
use Rattle.std.proofs.Common.{◌≡◌, ℕ, zero, suc, ◌+◌, ◌-◌, ◌<◌, ◌≤◌, Bool, true, false, cond, List, [], ◌∷◌, map, length, take, drop, get_or, replicate, Option, Some, None, refl, ap, ap₂, sym, ◌∙◌, subst, arith}
use Rattle.std.specs.Prelude.{not, ◌||◌, nat_le}
use Rattle.std.specs.List.{AllByRecursion, list_any}
use Rattle.std.proofs.lemmas.List.{drop-map, take-map, take-replicate, drop-replicate}
use Rattle.std.proofs.lemmas.Bool.{le-leb}
use Rattle.std.proofs.lemmas.List.Sums.{sum_by-cons}
use Rattle.arrow_buffers.specs.Bits.{Bits, count_unset}
use Rattle.arrow_types.specs.TypeData.{TypeData}
use Rattle.arrow_types.specs.TypeData as T
use Rattle.arrow_types.specs.Select.{nat_of}
use Rattle.arrow_flat.specs.Primitives.{HasRange, unset_in}
use Rattle.arrow_flat.proofs.Lists.{all_drop, all_take}
use Rattle.arrow_flat.specs.Slots.{Slot, null, bool, num, bytes, is_valid}
use Rattle.arrow_flat.specs.Pieces.{pieces, chunks}
use Rattle.arrow_flat.specs.Views.{view_bytes}
use Rattle.arrow_layout.specs.Cut.{part}
use Rattle.arrow_layout.specs.Denote.{denote, masked, masked_by, under, validity_of}
use Rattle.arrow_layout.specs.Forms.{Form, nulls_of, form_of}
use Rattle.arrow_layout.specs.Layouts.{Layout, nulls, booleans, primitives, binaries, fixed_size_binaries, views, lists, fixed_size_lists, structs, sparse_unions, dense_unions, dictionaries, type_of, length_of}
use Rattle.arrow_layout.specs.OfValues.{IsOfValues}
use Rattle.arrow_layout.specs.WellFormed.{WellFormed, MaskFits, mask_bits}
use Rattle.arrow_layout.proofs.Lengths.{length-denote, length-masked}
use Rattle.arrow_layout.proofs.Remasked.{denote-under}
use Rattle.arrow_grow_flat.specs.Grown.{Grown, IsWithin, has_nulls, any_nulls, layout_at, sources_of, source_of, source_count, source}
use Rattle.arrow_grow_flat.specs.Masks.{bits_in}
use Rattle.arrow_grow_flat.specs.Values.{IsValuesForm, AreSound, Values, is_there}
use Rattle.arrow_grow_flat.proofs.Stands.{IsValid, AreBitsOf}

pub all_at : {A : Type 0} (P : A → Type 0) (xs : List A) (i : ℕ) (d : A) → i < length xs → AllByRecursion P xs → P (get_or xs i d)
all_at P [] i d h k = absurd (omega (arith, h))
all_at P (x ∷ xs) zero d h k = k.0
all_at P (x ∷ xs) (suc i) d h k = all_at P xs i d (omega (arith, h)) k.1

-- ---- the slots of an array of values, by its mask

maps_valid : {A : Type 0} (f : A → Slot) → ((x : A) → is_valid (f x) ≡ true) → (xs : List A) → AllByRecursion IsValid (map f xs)
maps_valid f h [] = tt
maps_valid f h (x ∷ xs) = (h x, maps_valid f h xs)

pub under_valid : (l : Layout) → IsOfValues l → AllByRecursion IsValid (under l)
under_valid (booleans t m vs) v = maps_valid bool (λ x. refl) vs.bits
under_valid (primitives t m vs) v = maps_valid num (λ x. refl) vs
under_valid (binaries t m os bs) v = maps_valid bytes (λ x. refl) (pieces (map nat_of os) bs)
under_valid (fixed_size_binaries t m k n bs) v = maps_valid bytes (λ x. refl) (chunks k n bs)
under_valid (views t m vs buffers) v = maps_valid bytes (λ x. refl) (map (view_bytes buffers) vs)
under_valid (nulls t n) v = absurd v
under_valid (lists t m os l) v = absurd v
under_valid (fixed_size_lists t m k n l) v = absurd v
under_valid (structs t m n ls) v = absurd v
under_valid (sparse_unions t o ts ls) v = absurd v
under_valid (dense_unions t o ts os ls) v = absurd v
under_valid (dictionaries t u m ks l) v = absurd v

all_valid_bits : (ys : List Slot) → AllByRecursion IsValid ys → map is_valid ys ≡ replicate (length ys) true
all_valid_bits [] h = refl
all_valid_bits (y ∷ ys) h = ap₂ (λ b bs. b ∷ bs) h.0 (all_valid_bits ys h.1)

one_bit : (b : Bool) (y : Slot) → is_valid y ≡ true → is_valid (cond b y null) ≡ b
one_bit true y e = e
one_bit false y e = refl

masked_bits : (bits : List Bool) (ys : List Slot) → length bits ≡ length ys → AllByRecursion IsValid ys → map is_valid (masked_by bits ys) ≡ bits
masked_bits [] [] e h = refl
masked_bits [] (y ∷ ys) e h = absurd (omega (arith, e))
masked_bits (b ∷ bits) [] e h = absurd (omega (arith, e))
masked_bits (b ∷ bits) (y ∷ ys) e h = ap₂ (λ c cs. c ∷ cs) (one_bit b y h.0) (masked_bits bits ys (omega (arith, e)) h.1)

bits_by : (m : Option Bits) (ys : List Slot) (n : ℕ) → MaskFits m n → length ys ≡ n → AllByRecursion IsValid ys → map is_valid (masked m ys) ≡ mask_bits m n
bits_by None ys n f e h = all_valid_bits ys h ∙ ap (λ k. replicate k true) e
bits_by (Some b) ys n f e h = masked_bits b.bits ys (f.0 ∙ sym e) h

-- a mask of an array of values has a bit for each slot
pub mask_fits : (l : Layout) → WellFormed l → IsOfValues l → MaskFits (validity_of l) (length_of l)
mask_fits (booleans t m vs) w v = w.0.mask
mask_fits (primitives t m vs) w v = w.0.mask
mask_fits (binaries t m os bs) w v = w.0.mask
mask_fits (fixed_size_binaries t m k n bs) w v = w.0.mask
mask_fits (views t m vs buffers) w v = w.0.mask
mask_fits (nulls t n) w v = absurd v
mask_fits (lists t m os l) w v = absurd v
mask_fits (fixed_size_lists t m k n l) w v = absurd v
mask_fits (structs t m n ls) w v = absurd v
mask_fits (sparse_unions t o ts ls) w v = absurd v
mask_fits (dense_unions t o ts os ls) w v = absurd v
mask_fits (dictionaries t u m ks l) w v = absurd v

pub length-under : (l : Layout) → WellFormed l → length (under l) ≡ length_of l
length-under l w = sym (length-masked (validity_of l) (under l)) ∙ ap length (sym (denote-under l)) ∙ length-denote l w

pub slot_bits : (l : Layout) → WellFormed l → IsOfValues l → map is_valid (denote l) ≡ mask_bits (validity_of l) (length_of l)
slot_bits l w v = ap (map is_valid) (denote-under l) ∙ bits_by (validity_of l) (under l) (length_of l) (mask_fits l w v) (length-under l w) (under_valid l v)

pub part-map : {A B : Type 0} (f : A → B) (o n : ℕ) (xs : List A) → part o n (map f xs) ≡ map f (part o n xs)
part-map f o n xs = ap (take n) (drop-map f o xs) ∙ take-map f n (drop o xs)

pub part-replicate : {A : Type 0} (o n len : ℕ) (x : A) → o + n ≤ len → part o n (replicate len x) ≡ replicate n x
part-replicate o n len x h = rw (drop-replicate o len x) (take-replicate n (len - o) x (omega (arith, h)))

bits_part : (m : Option Bits) (o n len : ℕ) → o + n ≤ len → part o n (mask_bits m len) ≡ bits_in m o n
bits_part None o n len h = part-replicate o n len true h
bits_part (Some b) o n len h = refl

pub run_bits : (l : Layout) (o n : ℕ) → WellFormed l → IsOfValues l → o + n ≤ length_of l → bits_in (validity_of l) o n ≡ map is_valid (part o n (denote l))
run_bits l o n w v h = sym (sym (part-map is_valid o n (denote l)) ∙ ap (part o n) (slot_bits l w v) ∙ bits_part (validity_of l) o n (length_of l) h)

-- ---- a mask that has no unset bit

some_unset : (n m : ℕ) → m ≡ 1 + n → nat_le 1 m ≡ false → ⊥
some_unset n m h e = let q : false ≡ true = sym e ∙ le-leb 1 m (omega (arith, h)) in true_false q
  where
    true_false : false ≡ true → ⊥
    true_false q = cc

none_unset : (bits : List Bool) → nat_le 1 (count_unset bits) ≡ false → bits ≡ replicate (length bits) true
none_unset [] e = refl
none_unset (true ∷ bits) e = ap (λ bs. true ∷ bs) (none_unset bits (sym (ap (nat_le 1) (sum_by-cons (λ (b : Bool). cond (not b) 1 0) true bits ∙ zero_more (count_unset bits))) ∙ e))
  where
    zero_more : (n : ℕ) → 0 + n ≡ n
    zero_more n = omega arith
none_unset (false ∷ bits) e = absurd (some_unset (count_unset bits) (count_unset (false ∷ bits)) (sum_by-cons (λ (b : Bool). cond (not b) 1 0) false bits) e)

all_set : (xs : List Slot) (n : ℕ) → map is_valid xs ≡ replicate n true → AllByRecursion IsValid xs
all_set [] n e = tt
all_set (x ∷ xs) zero e = absurd (cc)
all_set (x ∷ xs) (suc n) e = (ap (λ bs. get_or bs 0 true) e, all_set xs n (ap (drop 1) e))

none_null : (m : Option Bits) (ys : List Slot) (n : ℕ) → nat_le 1 (unset_in m) ≡ false → MaskFits m n → length ys ≡ n → AllByRecursion IsValid ys → AllByRecursion IsValid (masked m ys)
none_null None ys n z f e h = h
none_null (Some b) ys n z f e h = all_set (masked_by b.bits ys) (length b.bits) (masked_bits b.bits ys (f.0 ∙ sym e) h ∙ none_unset b.bits z)

pub all_valid : (l : Layout) → WellFormed l → IsOfValues l → has_nulls l ≡ false → AllByRecursion IsValid (denote l)
all_valid l w v z =
    subst (AllByRecursion IsValid) (sym (denote-under l))
    (none_null (validity_of l) (under l) (length_of l) z (mask_fits l w v) (length-under l w) (under_valid l v))

pub all_part : {A : Type 0} (P : A → Type 0) (o n : ℕ) (xs : List A) → AllByRecursion P xs → AllByRecursion P (part o n xs)
all_part P o n xs h = all_take P n (drop o xs) (all_drop P o xs h)

-- ---- sources

other_form : (l : Layout) (f : Form) → IsValuesForm (form_of (type_of l)) → form_of (type_of l) ≡ f → (IsValuesForm f → ⊥) → ⊥
other_form l f h e k = k (subst IsValuesForm e h)

pub of_values : (l : Layout) → WellFormed l → IsValuesForm (form_of (type_of l)) → IsOfValues l
of_values (booleans t m vs) w h = tt
of_values (primitives t m vs) w h = tt
of_values (binaries t m os bs) w h = tt
of_values (fixed_size_binaries t m k n bs) w h = tt
of_values (views t m vs buffers) w h = tt
of_values (nulls t n) w h = absurd (subst IsValuesForm w.of_form h)
of_values (lists t m os l) w h = absurd (subst IsValuesForm w.0.of_form h)
of_values (fixed_size_lists t m k n l) w h = absurd (subst IsValuesForm w.0.of_form h)
of_values (structs t m n ls) w h = absurd (subst IsValuesForm w.0.of_form h)
of_values (sparse_unions t o ts ls) w h = absurd (subst IsValuesForm w.0.of_form h)
of_values (dense_unions t o ts os ls) w h = absurd (subst IsValuesForm w.0.of_form h)
of_values (dictionaries t u m ks l) w h = absurd (subst IsValuesForm w.0.of_form h)

plain : (f : Form) (ls : List Layout) (i : ℕ) → IsValuesForm f → (sources_of f ls ≡ length ls) × (source_of f ls i ≡ denote (layout_at ls i))
plain nulls_of ls i h = absurd h
plain _ ls i h = (refl, refl)

pub record IsSource (t : TypeData) (l : Layout) : Type 0 where
  pub well_formed : WellFormed l
  pub of_type : type_of l ≡ t
  pub of_values : IsOfValues l

pub source_at : (v : Values) (i : ℕ) → AreSound v → i < length v.arrays → IsSource v.dtype (layout_at v.arrays i)
source_at v i s h =
    let w = all_at (λ l. WellFormed l × (type_of l ≡ v.dtype)) v.arrays i (nulls T.null 0) h s.typed in
    record { well_formed = w.0; of_type = w.1; of_values = of_values (layout_at v.arrays i) w.0 (subst (λ t. IsValuesForm (form_of t)) (sym w.1) s.form) }

pub plain_source : (v : Values) (g : Grown) (i : ℕ) → AreSound v → g.dtype ≡ v.dtype → g.arrays ≡ v.arrays → (source_count g ≡ length v.arrays) × (source g i ≡ denote (layout_at v.arrays i))
plain_source v g i s e k =
    let f : form_of g.dtype ≡ form_of v.dtype = ap form_of e in
    let p = plain (form_of v.dtype) v.arrays i s.form in (
      ap (λ t. sources_of t g.arrays) f ∙ ap (sources_of (form_of v.dtype)) k ∙ p.0,
      ap (λ t. source_of t g.arrays i) f ∙ ap (λ ls. source_of (form_of v.dtype) ls i) k ∙ p.1,
    )

-- what a call takes of a source
pub record Takes (v : Values) (g : Grown) (i o n : ℕ) : Type 0 where
  pub named : i < length v.arrays
  pub reached : o + n ≤ length_of (layout_at v.arrays i)
  pub slots : source g i ≡ denote (layout_at v.arrays i)

pub takes : (v : Values) (g : Grown) (i o n : ℕ) → AreSound v → g.dtype ≡ v.dtype → g.arrays ≡ v.arrays → IsWithin g i o n → Takes v g i o n
takes v g i o n s e k w =
    let p = plain_source v g i s e k in
    let count = p.0 in
    let own = p.1 in
    let named = subst (λ j. i < j) count w.named in
    record {
      named = named;
      reached = subst (λ j. o + n ≤ j) (ap length own ∙ length-denote (layout_at v.arrays i) (source_at v i s named).well_formed) w.reached;
      slots = own;
    }

pub has_range : (l : Layout) (o n : ℕ) → WellFormed l → IsOfValues l → o + n ≤ length_of l → HasRange (validity_of l) o n
has_range l o n w v h = by (validity_of l) (mask_fits l w v)
  where
    by : (m : Option Bits) → MaskFits m (length_of l) → HasRange m o n
    by None f = tt
    by (Some b) f = subst (λ k. o + n ≤ k) (sym f.0) h

any_at : (p : Layout → Bool) (ls : List Layout) (i : ℕ) (d : Layout) → i < length ls → list_any p ls ≡ false → p (get_or ls i d) ≡ false
any_at p [] i d h e = absurd (omega (arith, h))
any_at p (l ∷ ls) zero d h e = first (p l) (list_any p ls) e
  where
    first : (a b : Bool) → a || b ≡ false → a ≡ false
    first true b e = e
    first false b e = refl
any_at p (l ∷ ls) (suc i) d h e = any_at p ls i d (omega (arith, h)) (rest (p l) (list_any p ls) e)
  where
    rest : (a b : Bool) → a || b ≡ false → b ≡ false
    rest true b e = absurd (cc)
    rest false b e = e

not_true : (b : Bool) → (b ≡ true → ⊥) → b ≡ false
not_true true h = absurd (h refl)
not_true false h = refl

-- the bits that a growable's mask takes of a source
pub source_bits : (m : Option (List Bool)) (v : Values) (i o n : ℕ) → AreSound v → (any_nulls v.arrays ≡ true → is_there m ≡ true) → i < length v.arrays
    → o + n ≤ length_of (layout_at v.arrays i) → AreBitsOf m (bits_in (validity_of (layout_at v.arrays i)) o n) (part o n (denote (layout_at v.arrays i)))
source_bits None v i o n s needed h k =
    let l = layout_at v.arrays i in
    let a = source_at v i s h in
    let z = any_at has_nulls v.arrays i (nulls T.null 0) h (not_true (any_nulls v.arrays) (λ e. let q = needed e in cc)) in
    all_part IsValid o n (denote l) (all_valid l a.well_formed a.of_values z)
source_bits (Some bits) v i o n s needed h k =
    let a = source_at v i s h in run_bits (layout_at v.arrays i) o n a.well_formed a.of_values k
