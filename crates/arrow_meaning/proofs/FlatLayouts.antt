-- Flat arrays as layouts: well formed, cut, and under another mask.
use Rattle.std.proofs.Common.{◌≡◌, ◌+◌, ◌*◌, ◌/◌, ◌%◌, ◌^◌, ◌<◌, ◌≤◌, ℕ, suc, Bool, true, false, cond, List, [], ◌∷◌, length, map, take, drop, refl, ap, sym, ◌∙◌, subst, arith, Some}
use Rattle.std.specs.Prelude.{ℤ, pos, negsuc, pred, ◌≤ℤ◌}
use Rattle.std.specs.List.{AllByRecursion}
use Rattle.std.proofs.lemmas.Int.{ints}
use Rattle.std.proofs.lemmas.List.{take-map, drop-map, length-map}
use Rattle.std.proofs.Math.Nat.{mod-add-div}
use Rattle.arrow_buffers.proofs.Windows.{window_length}
use Rattle.arrow_buffers.specs.Offsets.{end_from, end_of}
use Rattle.arrow_buffers.specs.Offsets as buffers
use Rattle.arrow_types.specs.Carried.{IsBelow}
use Rattle.arrow_types.specs.Select.{nat_of}
use Rattle.arrow_types.specs.Seen.{seen}
use Rattle.arrow_types.specs.TypeData.{TypeData}
use Rattle.arrow_types.specs.Types.{physical_of}
use Rattle.arrow_types.specs.declared.datatype.PhysicalType.TheVariants as physical
use Rattle.arrow_flat.specs.Booleans.{Booleans}
use Rattle.arrow_flat.specs.Booleans as bools
use Rattle.arrow_flat.specs.Natives.{octets}
use Rattle.arrow_flat.specs.Pieces.{pieces, AreTexts}
use Rattle.arrow_flat.specs.Primitives.{Primitives, MaskHasLength as MaskCovers, IsArray}
use Rattle.arrow_flat.specs.Primitives as flat
use Rattle.arrow_flat.proofs.Pieces.{span_within, whole_count}
use Rattle.arrow_bytes.specs.Binaries.{Binaries}
use Rattle.arrow_bytes.specs.Binaries as bytes
use Rattle.arrow_bytes.specs.FixedSizeBinaries.{FixedSizeBinaries, slot_count}
use Rattle.arrow_bytes.specs.FixedSizeBinaries as sized
use Rattle.arrow_layout.specs.Cut.{part, cut}
use Rattle.arrow_layout.specs.Forms.{form_of, booleans_of, binaries_of, views_of, large_by, text_by}
use Rattle.arrow_views.specs.ViewArrays.{ViewArray, AreTextsIf, values_in}
use Rattle.arrow_views.specs.ViewArrays as viewed
use Rattle.arrow_layout.specs.Layouts.{primitives, binaries, fixed_size_binaries}
use Rattle.arrow_meaning.specs.Nodes.{boolean_layout, primitive_layout, binary_layout, fixed_size_binary_layout, view_layout}
use Rattle.arrow_flat.specs.Natives.{AreBytes}
use Rattle.arrow_layout.specs.SlotsOf.{IsTextIf}
use Rattle.arrow_layout.specs.WellFormed.{IsColumnOf, WellFormed, AreOffsetsWithin, AscendTo}
use Rattle.arrow_meaning.proofs.FlatKinds.{flat_form, sized_form}
use Rattle.arrow_meaning.proofs.Octets.{are_octets, octets_count, texts_of_octets}
use Rattle.arrow_layout.proofs.Physical.{binary_kind}
use Rattle.arrow_meaning.proofs.Primitives.{mask_fits}

-- ---- booleans

pub boolean_form : (a : Booleans) → bools.IsSound a.dtype a.mask a.values → form_of (seen a.dtype) ≡ booleans_of
boolean_form a sound = flat_form (seen a.dtype) physical.Boolean sound.array.stored tt

pub well_formed_boolean : (a : Booleans) → bools.IsSound a.dtype a.mask a.values → length a.values.bits < 2 ^ 64 → WellFormed (boolean_layout a)
well_formed_boolean a sound short =
    (record { carried = sound.array.carried; of_form = boolean_form a sound; mask = mask_fits a.mask (length a.values.bits) sound.array.fits sound.array.led; count = short }, sound.led)

-- ---- offsets

-- those of a buffer are below their limit and ascend
all_below : (limit : ℕ) (least : ℤ) (os : List ℤ) → pos 0 ≤ℤ least → buffers.Ascend limit least os → AllByRecursion (IsBelow limit) os
all_below limit least [] p h = tt
all_below limit least (pos n ∷ os) p h = let q = h.1 in (omega (arith, ints, q), all_below limit (pos n) os (omega (arith, ints)) h.2)
all_below limit (pos k) (negsuc n ∷ os) p h = absurd (let q = h.0 in omega (arith, ints, q))
all_below limit (negsuc k) (negsuc n ∷ os) p h = absurd (omega (arith, ints, p))

ascend_to : (limit top a : ℕ) (os : List ℤ) → buffers.Ascend limit (pos a) os → end_from a os ≤ top → AscendTo top a (map nat_of os)
ascend_to limit top a [] h e = e
ascend_to limit top a (pos n ∷ os) h e = let q = h.0 in (omega (arith, ints, q), ascend_to limit top n os h.2 e)
ascend_to limit top a (negsuc n ∷ os) h e = absurd (let q = h.0 in omega (arith, ints, q))

pub are_offsets : (limit top : ℕ) (os : List ℤ) → buffers.AreOffsets limit os → end_of os ≤ top → AreOffsetsWithin limit top os
are_offsets limit top [] h e = absurd h
are_offsets limit top (pos n ∷ os) h e =
    record { in_range = all_below limit (pos 0) (pos n ∷ os) (omega (arith, ints)) h; ascend = ascend_to limit top n os h.2 e }
are_offsets limit top (negsuc n ∷ os) h e = absurd (let q = h.0 in omega (arith, ints, q))

-- ---- byte strings and texts

kind_form : (large text : Bool) (t : TypeData) → physical_of t ≡ Some (binary_kind large text) → form_of t ≡ binaries_of large text
kind_form false false t e = flat_form t physical.Binary e tt
kind_form false true t e = flat_form t physical.Utf8 e tt
kind_form true false t e = flat_form t physical.LargeBinary e tt
kind_form true true t e = flat_form t physical.LargeUtf8 e tt

in_kind : (text large : Bool) → bytes.layout_in text large ≡ binary_kind large text
in_kind true true = refl
in_kind true false = refl
in_kind false true = refl
in_kind false false = refl

pub same_naturals : (os : List ℤ) → map buffers.to_nat os ≡ map nat_of os
same_naturals [] = refl
same_naturals (pos n ∷ os) = ap (λ ns. n ∷ ns) (same_naturals os)
same_naturals (negsuc n ∷ os) = ap (λ ns. 0 ∷ ns) (same_naturals os)

all_bytes : (xs : List (List ℕ)) → AllByRecursion (IsTextIf false) xs
all_bytes [] = tt
all_bytes (x ∷ xs) = (tt, all_bytes xs)

all_texts : (xs : List (List ℕ)) → AreTexts xs → AllByRecursion (IsTextIf true) xs
all_texts [] h = tt
all_texts (x ∷ xs) h = (h.0, all_texts xs h.1)

all_if : (text : Bool) (os bs : List ℕ) → bytes.AreTextsIf text (pieces os bs) → AllByRecursion (IsTextIf text) (pieces os (octets bs))
all_if true os bs h = all_texts (pieces os (octets bs)) (texts_of_octets os bs h)
all_if false os bs h = all_bytes (pieces os (octets bs))

module _ {O : Type 0} (number : O → ℤ) where
  by_parts : (large text : Bool) (limit : ℕ) (a : Binaries O) → IsArray (binary_kind large text) a.dtype a.mask (pred (length (map number a.offsets))) → end_of (map number a.offsets) ≤ length a.values
      → limit ≡ cond large (2 ^ 63) (2 ^ 31) → buffers.AreOffsets limit (map number a.offsets) → pred (length (map number a.offsets)) < 2 ^ 64 → length a.values < 2 ^ 64
      → AllByRecursion (IsTextIf text) (pieces (map nat_of (map number a.offsets)) (octets a.values)) → WellFormed (binary_layout number a)
  by_parts large text limit a array within e ascend slots short texts =
      let form = kind_form large text (seen a.dtype) array.stored in
      let l : large ≡ large_by (form_of (seen a.dtype)) = sym (ap large_by form) in
      let t : text ≡ text_by (form_of (seen a.dtype)) = sym (ap text_by form) in
      let count = octets_count a.values in (
        subst (λ x. IsColumnOf (seen a.dtype) (binaries_of x (text_by (form_of (seen a.dtype)))) a.mask (pred (length (map number a.offsets)))) l
            (subst (λ x. IsColumnOf (seen a.dtype) (binaries_of large x) a.mask (pred (length (map number a.offsets)))) t
            (record { carried = array.carried; of_form = form; mask = mask_fits a.mask (pred (length (map number a.offsets))) array.fits array.led; count = slots })),
        subst (λ n. AreOffsetsWithin n (length (octets a.values)) (map number a.offsets)) (e ∙ ap (λ x. cond x (2 ^ 63) (2 ^ 31)) l)
            (subst (λ n. AreOffsetsWithin limit n (map number a.offsets)) (sym count) (are_offsets limit (length a.values) (map number a.offsets) ascend within)),
        are_octets a.values,
        omega (arith, count, short),
        subst (λ x. AllByRecursion (IsTextIf x) (pieces (map nat_of (map number a.offsets)) (octets a.values))) t texts,
      )

  pub well_formed_offsets : (text large : Bool) (limit : ℕ) (a : Binaries O) → bytes.IsSound text large number a
      → limit ≡ cond large (2 ^ 63) (2 ^ 31) → buffers.AreOffsets limit (map number a.offsets) → bytes.slot_count a < 2 ^ 64 → length a.values < 2 ^ 64 → WellFormed (binary_layout number a)
  well_formed_offsets text large limit a sound e ascend slots short =
      let many : pred (length (map number a.offsets)) ≡ bytes.slot_count a = ap pred (length-map a.offsets number) in
      by_parts large text limit a
      (subst (λ n. IsArray (binary_kind large text) a.dtype a.mask n) (sym many) (subst (λ k. IsArray k a.dtype a.mask (bytes.slot_count a)) (in_kind text large) sound.array))
      sound.within e ascend (omega (arith, many, slots)) short
      (all_if text (map nat_of (map number a.offsets)) a.values
      (subst (λ ns. bytes.AreTextsIf text (pieces ns a.values)) (same_naturals (map number a.offsets)) sound.texts))

-- ---- byte strings of one size

pub well_formed_sized : (a : FixedSizeBinaries) → sized.IsSound a → length a.values < 2 ^ 64 → slot_count a < 2 ^ 64 → WellFormed (fixed_size_binary_layout a)
well_formed_sized a sound short slots =
    let count = octets_count a.values in
    let whole : length a.values ≡ length a.values / a.size * a.size = multiple (length a.values) a.size sound.multiple in (
      record { carried = sound.carried; of_form = sized_form (seen a.dtype) a.size sound.sized; mask = mask_fits a.mask (slot_count a) sound.fits sound.led; count = slots },
      count ∙ whole,
      are_octets a.values,
      omega (arith, count, short),
    )
  where
    multiple : (n k : ℕ) → n % k ≡ 0 → n ≡ n / k * k
    multiple n k e = let d = mod-add-div n k in let c : k * (n / k) ≡ n / k * k = omega arith in omega (arith, c, d, e)

-- ---- parts

pub part-map : {A B : Type 0} (f : A → B) (o n : ℕ) (xs : List A) → map f (take n (drop o xs)) ≡ part o n (map f xs)
part-map f o n xs = sym (take-map f n (drop o xs)) ∙ ap (take n) (sym (drop-map f o xs))

chunks_part : (xs : List ℕ) (k o n : ℕ) → 0 < k → o + n ≤ length xs / k → n ≡ length (take (n * k) (drop (o * k) xs)) / k
chunks_part xs k o n p h = sym (whole_count n k p) ∙ ap (λ l. l / k) (window_length xs (o * k) (n * k) (span_within (length xs) k o n h))

pub primitives_part : {T : Type 0} (parts : T → List ℤ) (a : Primitives T) (o n : ℕ) → primitive_layout parts (flat.cut a o n) ≡ cut (primitive_layout parts a) o n
primitives_part parts a o n = ap (primitives (seen a.dtype) (flat.cut_mask o n a.mask)) (part-map parts o n a.values)

pub binaries_part : {O : Type 0} (number : O → ℤ) (a : Binaries O) (o n : ℕ) → binary_layout number (bytes.cut a o n) ≡ cut (binary_layout number a) o n
binaries_part number a o n = ap (λ os. binaries (seen a.dtype) (flat.cut_mask o n a.mask) os (octets a.values)) (part-map number o (suc n) a.offsets)

pub fixed_size_binaries_part : (a : FixedSizeBinaries) (o n : ℕ) → 0 < a.size → o + n ≤ slot_count a → fixed_size_binary_layout (sized.cut a o n) ≡ cut (fixed_size_binary_layout a) o n
fixed_size_binaries_part a o n p h =
    let k = a.size in
    ap (λ i. fixed_size_binaries (seen a.dtype) (flat.cut_mask o n a.mask) k i (octets (take (n * k) (drop (o * k) a.values)))) (sym (chunks_part a.values k o n p h))
    ∙ ap (fixed_size_binaries (seen a.dtype) (flat.cut_mask o n a.mask) k n) (part-map (λ b. b % 256) (o * k) (n * k) a.values)

-- ---- views

pub view_form : (text : Bool) (t : TypeData) → physical_of t ≡ Some (viewed.physical_view text) → form_of t ≡ views_of text
view_form true t e = flat_form t physical.Utf8View e tt
view_form false t e = flat_form t physical.BinaryView e tt

texts_if : (text : Bool) (xs : List (List ℕ)) → AreTextsIf text xs → AllByRecursion (IsTextIf text) xs
texts_if true xs h = all_texts xs h
texts_if false xs h = all_bytes xs

buffers_are_bytes : (raw : List (List ℕ)) → AllByRecursion AreBytes (map octets raw)
buffers_are_bytes [] = tt
buffers_are_bytes (bs ∷ raw) = (are_octets bs, buffers_are_bytes raw)

pub well_formed_view : (text : Bool) (a : ViewArray) (raw : List (List ℕ)) → viewed.IsSound text a.dtype a.mask a.views a.buffers → map octets raw ≡ a.buffers → length a.views < 2 ^ 64 → WellFormed (view_layout a)
well_formed_view text a raw sound e short =
    let form = view_form text (seen a.dtype) sound.array.stored in
    let t : text ≡ text_by (form_of (seen a.dtype)) = sym (ap text_by form) in (
      subst (λ x. IsColumnOf (seen a.dtype) (views_of x) a.mask (length a.views)) t
          (record { carried = sound.array.carried; of_form = form; mask = mask_fits a.mask (length a.views) sound.array.fits sound.array.led; count = short }),
      sound.placed,
      subst (AllByRecursion AreBytes) e (buffers_are_bytes raw),
      subst (λ x. AllByRecursion (IsTextIf x) (values_in a.buffers a.views)) t (texts_if text (values_in a.buffers a.views) sound.texts),
    )
