-- A part of a well-formed layout is well formed.
use Rattle.std.proofs.Common.{Bool, List, None, Option, Some, [], ap, ap₂, arith, cond, drop, false, if◌then◌else◌, length, length-drop, length-take-le, map, pred, refl, replicate, subst, suc, sym, take, true, zero, ℕ, ℤ, ◌*◌, ◌+◌, ◌<◌, ◌^◌, ◌∙◌, ◌∷◌, ◌≡◌, ◌≤◌}
use Rattle.std.proofs.lemmas.Bool.{and_parts}
use Rattle.std.proofs.lemmas.List.{length-map}
use Rattle.std.specs.List.{AllByRecursion, list_all}
use Rattle.arrow_types.specs.Carried.{IsBelow, count_fields}
use Rattle.arrow_types.specs.Select.{select, nat_of}
use Rattle.arrow_types.specs.TypeData.{FieldList, TypeData, and_field, no_fields}
use Rattle.arrow_buffers.specs.Bits.{Bits, cut_bits, lead_of}
use Rattle.arrow_flat.specs.Numbers.{AreInRange, InRange, ranges_of}
use Rattle.arrow_flat.specs.Views.{IsView, view_bytes}
use Rattle.arrow_layout.specs.Cut.{cut, cut_each, part}
use Rattle.arrow_flat.specs.Primitives.{cut_mask}
use Rattle.arrow_flat.specs.Pieces.{pieces}
use Rattle.arrow_layout.specs.Forms.{Form, fields_by, fixed_size_lists_of, form_of, ids_by, key_by, key_range, nulls_of, offset_limit, primitive_by, text_by}
use Rattle.arrow_layout.specs.Layouts.{Layout, Layouts, binaries, booleans, child, dense_unions, dictionaries, fixed_size_binaries, fixed_size_lists, length_of, lengths_of, lists, no_layouts, nulls, primitives, sparse_unions, structs, type_of, views}
use Rattle.arrow_layout.specs.SlotsOf.{IsTextIf}
use Rattle.arrow_layout.specs.WellFormed.{AllNamed, AllSet, AreOffsetsWithin, AreOffsetsTo, AreWellFormed, AscendTo, HaveTypes, IsColumnOf, MaskFits, WellFormed, mask_bits, positions, type_limit}
use Rattle.arrow_layout.proofs.ByForm.{carried_form}
use Rattle.arrow_layout.proofs.Cuts.{part-map, part-pieces, part-replicate, scaled}
use Rattle.arrow_flat.proofs.Lists.{all_drop, all_take}

pub length-part : {A : Type 0} (o n : ℕ) (xs : List A) → o + n ≤ length xs → length (part o n xs) ≡ n
length-part o n xs h = length-take-le n (drop o xs) (omega (arith, length-drop o xs))

pub all_part : {A : Type 0} (P : A → Type 0) (o n : ℕ) (xs : List A) → AllByRecursion P xs → AllByRecursion P (part o n xs)
all_part P o n xs h = all_take P n (drop o xs) (all_drop P o xs h)

pub all_set_bits : (bits : List Bool) → list_all (λ b. b) bits ≡ true → replicate (length bits) true ≡ bits
all_set_bits [] e = refl
all_set_bits (b ∷ bits) e = let both = and_parts b (list_all (λ c. c) bits) e in ap₂ (λ x xs. x ∷ xs) (sym both.0) (all_set_bits bits both.1)

needed_bits : (b : Bits) (n : ℕ) (c : Bool) → list_all (λ d. d) b.bits ≡ c → length b.bits ≡ n → mask_bits (if c then None else Some b) n ≡ b.bits
needed_bits b n true e l = ap (λ i. replicate i true) (sym l) ∙ all_set_bits b.bits e
needed_bits b n false e l = refl

-- the bits of the mask of a part
pub cut_mask_bits : (m : Option Bits) (o n len : ℕ) → o + n ≤ len → MaskFits m len → mask_bits (cut_mask o n m) n ≡ part o n (mask_bits m len)
cut_mask_bits None o n len h w = part-replicate o n len true h
cut_mask_bits (Some b) o n len h w =
    needed_bits (cut_bits b o n) n (list_all (λ c. c) (part o n b.bits)) refl (length-part o n b.bits (omega (arith, w.0)))

pub low_lead : (start n : ℕ) → lead_of start n < 8
low_lead start zero = omega arith
low_lead start (suc n) = omega arith

needed_fits : (b : Bits) (n : ℕ) (c : Bool) → length b.bits ≡ n → b.lead < 8 → MaskFits (if c then None else Some b) n
needed_fits b n true l h = tt
needed_fits b n false l h = (l, h)

cut_mask_fits : (m : Option Bits) (o n len : ℕ) → o + n ≤ len → MaskFits m len → MaskFits (cut_mask o n m) n
cut_mask_fits None o n len h w = tt
cut_mask_fits (Some b) o n len h w =
    needed_fits (cut_bits b o n) n (list_all (λ c. c) (part o n b.bits)) (length-part o n b.bits (omega (arith, w.0))) (low_lead (b.lead + o) n)

-- what each kind asks for, of a part
column_cut : (t : TypeData) (f g : Form) (m : Option Bits) (o n len k : ℕ) → f ≡ g → k ≡ n → o + n ≤ len → IsColumnOf t f m len → IsColumnOf t g (cut_mask o n m) k
column_cut t f g m o n len k e l h w = record {
  carried = w.carried;
  of_form = w.of_form ∙ e;
  mask = subst (MaskFits (cut_mask o n m)) (sym l) (cut_mask_fits m o n len h w.mask);
  count = omega (arith, w.count);
}

pub ascend_top : (top a : ℕ) (os : List ℕ) → AscendTo top a os → a ≤ top
ascend_top top a [] h = h
ascend_top top a (b ∷ os) h = omega (arith, h.0, ascend_top top b os h.1)

ascend_take : (top a n : ℕ) (os : List ℕ) → AscendTo top a os → AscendTo top a (take n os)
ascend_take top a zero os h = ascend_top top a os h
ascend_take top a (suc n) [] h = h
ascend_take top a (suc n) (b ∷ os) h = (h.0, ascend_take top b n os h.1)

ascend_part : (top o n : ℕ) (os : List ℕ) → o < length os → AreOffsetsTo top os → AreOffsetsTo top (part o (suc n) os)
ascend_part top o n [] l h = absurd h
ascend_part top zero n (a ∷ os) l h = ascend_take top a n os h
ascend_part top (suc o) n (a ∷ []) l h = absurd (omega arith)
ascend_part top (suc o) n (a ∷ b ∷ os) l h = ascend_part top o n (b ∷ os) (omega arith) h.1

some_offset : (top : ℕ) (os : List ℤ) → AreOffsetsTo top (map nat_of os) → length os ≡ suc (pred (length os))
some_offset top [] h = absurd h
some_offset top (z ∷ os) h = refl

cut_offsets : (limit top o n : ℕ) (os : List ℤ) → o + n ≤ pred (length os) → AreOffsetsWithin limit top os → AreOffsetsWithin limit top (part o (suc n) os)
cut_offsets limit top o n os h w =
    let some = some_offset top os w.ascend in
    record {
      in_range = all_part (IsBelow limit) o (suc n) os w.in_range;
      ascend = rw (← part-map nat_of o (suc n) os) (ascend_part top o n (map nat_of os) (omega (arith, length-map os nat_of)) w.ascend);
    }

offsets_length : (top o n : ℕ) (os : List ℤ) → o + n ≤ pred (length os) → AreOffsetsTo top (map nat_of os) → pred (length (part o (suc n) os)) ≡ n
offsets_length top o n os h w = let some = some_offset top os w in ap pred (length-part o (suc n) os (omega arith))

set_drop : {A : Type 0} (P : A → Type 0) (o : ℕ) (bits : List Bool) (xs : List A) → AllSet P bits xs → AllSet P (drop o bits) (drop o xs)
set_drop P zero bits xs h = h
set_drop P (suc o) [] xs h = tt
set_drop P (suc o) (b ∷ bits) [] h = none (drop o bits) where
  none : (cs : List Bool) → AllSet P cs []
  none [] = tt
  none (c ∷ cs) = tt
set_drop P (suc o) (true ∷ bits) (x ∷ xs) h = set_drop P o bits xs h.1
set_drop P (suc o) (false ∷ bits) (x ∷ xs) h = set_drop P o bits xs h

set_take : {A : Type 0} (P : A → Type 0) (n : ℕ) (bits : List Bool) (xs : List A) → AllSet P bits xs → AllSet P (take n bits) (take n xs)
set_take P zero bits xs h = tt
set_take P (suc n) [] xs h = tt
set_take P (suc n) (b ∷ bits) [] h = tt
set_take P (suc n) (true ∷ bits) (x ∷ xs) h = (h.0, set_take P n bits xs h.1)
set_take P (suc n) (false ∷ bits) (x ∷ xs) h = set_take P n bits xs h

named_drop : (lens : List ℕ) (o : ℕ) (ts os : List ℕ) → AllNamed lens ts os → AllNamed lens (drop o ts) (drop o os)
named_drop lens zero ts os h = h
named_drop lens (suc o) [] [] h = tt
named_drop lens (suc o) [] (z ∷ os) h = absurd h
named_drop lens (suc o) (t ∷ ts) [] h = absurd h
named_drop lens (suc o) (t ∷ ts) (z ∷ os) h = named_drop lens o ts os h.1

named_take : (lens : List ℕ) (n : ℕ) (ts os : List ℕ) → AllNamed lens ts os → AllNamed lens (take n ts) (take n os)
named_take lens zero ts os h = tt
named_take lens (suc n) [] [] h = tt
named_take lens (suc n) [] (z ∷ os) h = absurd h
named_take lens (suc n) (t ∷ ts) [] h = absurd h
named_take lens (suc n) (t ∷ ts) (z ∷ os) h = (h.0, named_take lens n ts os h.1)

pub type-cut : (l : Layout) (o n : ℕ) → type_of (cut l o n) ≡ type_of l
type-cut (nulls t len) o n = refl
type-cut _ o n = refl

types-cut : (fs : FieldList) (ls : Layouts) (o n : ℕ) → HaveTypes fs ls → HaveTypes fs (cut_each ls o n)
types-cut no_fields no_layouts o n h = h
types-cut no_fields (child l ls) o n h = absurd h
types-cut (and_field f fs) no_layouts o n h = absurd h
types-cut (and_field f fs) (child l ls) o n h = (h.0 ∙ sym (type-cut l o n), types-cut fs ls o n h.1)

pub length-cut : (l : Layout) (o n : ℕ) → WellFormed l → o + n ≤ length_of l → length_of (cut l o n) ≡ n
length-cut (nulls t len) o n w h = refl
length-cut (booleans t m vs) o n w h = length-part o n vs.bits h
length-cut (primitives t m vs) o n w h = length-part o n vs h
length-cut (binaries t m os bs) o n w h = offsets_length _ o n os h w.1.ascend
length-cut (fixed_size_binaries t m k len bs) o n w h = refl
length-cut (views t m vs buffers) o n w h = length-part o n vs h
length-cut (lists t m os l) o n w h = offsets_length _ o n os h w.1.ascend
length-cut (fixed_size_lists t m k len l) o n w h = refl
length-cut (structs t m len ls) o n w h = refl
length-cut (sparse_unions t s ts ls) o n w h = length-part o n ts h
length-cut (dense_unions t s ts os ls) o n w h = length-part o n ts h
length-cut (dictionaries t u m ks l) o n w h = length-part o n ks h

pub count_below : (l : Layout) → WellFormed l → length_of l < 2 ^ 64
count_below (nulls t len) w = w.count
count_below (booleans t m vs) w = w.0.count
count_below (primitives t m vs) w = w.0.count
count_below (binaries t m os bs) w = w.0.count
count_below (fixed_size_binaries t m k len bs) w = w.0.count
count_below (views t m vs buffers) w = w.0.count
count_below (lists t m os l) w = w.0.count
count_below (fixed_size_lists t m k len l) w = w.0.count
count_below (structs t m len ls) w = w.0.count
count_below (sparse_unions t s ts ls) w = w.0.count
count_below (dense_unions t s ts os ls) w = w.0.count
count_below (dictionaries t u m ks l) w = w.0.count

-- the shift after a cut
shift_below : (fs : FieldList) (ls : Layouts) (s o n len : ℕ) → 0 < count_fields fs → HaveTypes fs ls → o + n ≤ len → AreWellFormed (λ i. s + len ≤ i) ls → s + o < 2 ^ 64
shift_below no_fields ls s o n len f t h w = absurd (omega arith)
shift_below (and_field f fs) no_layouts s o n len z t h w = absurd t
shift_below (and_field f fs) (child l ls) s o n len z t h w = omega (arith, count_below l w.1, w.0)

shifted_children : (ls : Layouts) (s o n len k : ℕ) → k ≡ n → o + n ≤ len → AreWellFormed (λ i. s + len ≤ i) ls → AreWellFormed (λ i. (s + o) + k ≤ i) ls
shifted_children no_layouts s o n len k e h w = tt
shifted_children (child l ls) s o n len k e h w = (omega (arith, w.0), w.1, shifted_children ls s o n len k e h w.2)

part_texts : (P : List ℕ → Type 0) (o n : ℕ) (os : List ℤ) (bs : List ℕ) → AllByRecursion P (pieces (map nat_of os) bs) → AllByRecursion P (pieces (map nat_of (part o (suc n) os)) bs)
part_texts P o n os bs h =
    rw (← part-map nat_of o (suc n) os, part-pieces o n (map nat_of os) bs) (all_part P o n (pieces (map nat_of os) bs) h)

part_named : (lens : List ℕ) (t : TypeData) (o n : ℕ) (ts os : List ℤ) → AllNamed lens (positions t ts) (map nat_of os) → AllNamed lens (positions t (part o n ts)) (map nat_of (part o n os))
part_named lens t o n ts os h =
    rw (← part-map nat_of o n ts, ← part-map (select (ids_by (form_of t))) o n (map nat_of ts), ← part-map nat_of o n os)
    (named_take lens n (drop o (positions t ts)) (drop o (map nat_of os)) (named_drop lens o (positions t ts) (map nat_of os) h))

mutual
  pub cut_well_formed : (l : Layout) (o n : ℕ) → WellFormed l → o + n ≤ length_of l → WellFormed (cut l o n)
  cut_well_formed (nulls t len) o n w h = column_cut t nulls_of nulls_of None o n len n refl refl h w
  cut_well_formed (booleans t m vs) o n w h =
      (column_cut t _ _ m o n (length vs.bits) _ refl (length-part o n vs.bits h) h w.0, low_lead (vs.lead + o) n)
  cut_well_formed (primitives t m vs) o n w h =
      (column_cut t _ _ m o n (length vs) _ refl (length-part o n vs h) h w.0, all_part (AreInRange (ranges_of (primitive_by (form_of t)))) o n vs w.1)
  cut_well_formed (binaries t m os bs) o n w h = (
    column_cut t _ _ m o n (pred (length os)) _ refl (offsets_length (length bs) o n os h w.1.ascend) h w.0,
    cut_offsets (offset_limit (form_of t)) (length bs) o n os h w.1,
    w.2,
    w.3,
    part_texts (IsTextIf (text_by (form_of t))) o n os bs w.4,
  )
  cut_well_formed (fixed_size_binaries t m k len bs) o n w h =
      let many : o * k + n * k ≤ length bs = omega (arith, w.1, scaled o n len k h) in
      let long : length (part (o * k) (n * k) bs) ≡ n * k = length-part (o * k) (n * k) bs many in (
        column_cut t _ _ m o n len n refl refl h w.0,
        long,
        all_part (λ b. b < 256) (o * k) (n * k) bs w.2,
        omega (arith, w.3),
      )
  cut_well_formed (views t m vs buffers) o n w h = (
    column_cut t _ _ m o n (length vs) _ refl (length-part o n vs h) h w.0,
    all_part (IsView buffers) o n vs w.1,
    w.2,
    rw (← part-map (view_bytes buffers) o n vs) (all_part (IsTextIf (text_by (form_of t))) o n (map (view_bytes buffers) vs) w.3),
  )
  cut_well_formed (lists t m os l) o n w h = (
    column_cut t _ _ m o n (pred (length os)) _ refl (offsets_length (length_of l) o n os h w.1.ascend) h w.0,
    cut_offsets (offset_limit (form_of t)) (length_of l) o n os h w.1,
    w.2,
  )
  cut_well_formed (fixed_size_lists t m k len l) o n w h =
      let low : o * k + n * k ≤ length_of l = omega (arith, w.1, scaled o n len k h) in (
        column_cut t _ _ m o n len n (ap (fixed_size_lists_of k) (sym (type-cut l (o * k) (n * k)))) refl h w.0,
        length-cut l (o * k) (n * k) w.2 low,
        cut_well_formed l (o * k) (n * k) w.2 low,
      )
  cut_well_formed (structs t m len ls) o n w h =
      (column_cut t _ _ m o n len n refl refl h w.0, types-cut (fields_by (form_of t)) ls o n w.1, each_well_formed ls o n len w.2 h)
  cut_well_formed (sparse_unions t s ts ls) o n w h = (
    column_cut t _ _ None o n (length ts) _ refl (length-part o n ts h) h w.0,
    all_part (IsBelow (type_limit t)) o n ts w.1,
    shift_below (fields_by (form_of t)) ls s o n (length ts) (carried_form t _ w.0.of_form w.0.carried).0 w.3 h w.4,
    w.3,
    shifted_children ls s o n (length ts) _ (length-part o n ts h) h w.4,
  )
  cut_well_formed (dense_unions t s ts os ls) o n w h = (
    column_cut t _ _ None o n (length ts) _ refl (length-part o n ts h) h w.0,
    all_part (IsBelow (type_limit t)) o n ts w.1,
    w.2,
    all_part (IsBelow (2 ^ 31)) o n os w.3,
    part_named (lengths_of ls) t o n ts os w.4,
    w.5,
    w.6,
  )
  cut_well_formed (dictionaries t u m ks l) o n w h =
      let long : length (part o n ks) ≡ n = length-part o n ks h in (
        column_cut t _ _ m o n (length ks) _ refl long h w.0,
        w.1,
        all_part (InRange (key_range (key_by (form_of t)))) o n ks w.2,
        rw (long, cut_mask_bits m o n (length ks) h w.0.mask)
            (set_take (IsBelow (length_of l)) n (drop o (mask_bits m (length ks))) (drop o ks) (set_drop (IsBelow (length_of l)) o (mask_bits m (length ks)) ks w.3)),
        w.4,
        w.5,
      )

  each_well_formed : (ls : Layouts) (o n len : ℕ) → AreWellFormed (λ i. i ≡ len) ls → o + n ≤ len → AreWellFormed (λ i. i ≡ n) (cut_each ls o n)
  each_well_formed no_layouts o n len w h = tt
  each_well_formed (child l ls) o n len w h =
      let low : o + n ≤ length_of l = omega (arith, w.0) in
      (length-cut l o n w.1 low, cut_well_formed l o n w.1 low, each_well_formed ls o n len w.2 h)
