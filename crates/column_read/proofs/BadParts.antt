-- Parts that are refused are not well formed.
use Rattle.std.proofs.Common.{◌≡◌, ℕ, ◌*◌, ◌/◌, ◌%◌, ◌<◌, ◌≤◌, Bool, true, false, List, [], ◌∷◌, length, pred, subst, refl, sym, ap, ◌∙◌, arith, Option, Some, None}
use Rattle.std.specs.Prelude.{ℤ, pos, negsuc, map, IsSome, int_lt, ◌≤ℤ◌, if◌then◌else◌}
use Rattle.std.specs.List.{AllByRecursion}
use Rattle.std.proofs.lemmas.List.{length-map}
use Rattle.std.proofs.lemmas.Nat.{div-add-mod'}
use Rattle.std.proofs.lemmas.Int.{ints}
use Rattle.arrow_buffers.proofs.Ascending.{falls_later}
use Rattle.arrow_buffers.specs.Bits.{Bits}
use Rattle.arrow_buffers.specs.Offsets.{to_nat, falls, offsets_refusal, end_from, end_of}
use Rattle.arrow_buffers.specs.declared.error.OffsetError.TheVariants.{NotMonotone, Negative}
use Rattle.arrow_types.specs.Carried.{IsCarried, IsBelow}
use Rattle.arrow_types.specs.Seen.{seen}
use Rattle.arrow_types.specs.TypeData.{TypeData}
use Rattle.arrow_types.specs.TypeData as T
use Rattle.arrow_types.specs.Types.{physical_of}
use Rattle.arrow_types.specs.declared.datatype.ArrowDataType.{ArrowDataType}
use Rattle.arrow_types.specs.declared.datatype.PhysicalType.{PhysicalType}
use Rattle.arrow_types.specs.declared.datatype.PhysicalType.TheVariants as physical
use Rattle.arrow_types.specs.declared.datatype.PrimitiveType.{PrimitiveType}
use Rattle.arrow_types.specs.declared.error.PolarsError.{PolarsError}
use Rattle.arrow_types.specs.declared.error.PolarsError.TheVariants.{ComputeError}
use Rattle.arrow_types.specs.declared.error.Reason.{Reason}
use Rattle.arrow_types.specs.declared.error.Reason.TheVariants.{MaskLength, WrongLogicalType, NotCarried, NotMultiple, OffsetPastValues, NotUtf8}
use Rattle.arrow_flat.specs.Natives.{octets}
use Rattle.arrow_flat.specs.Pieces.{pieces}
use Rattle.arrow_flat.specs.Primitives.{MaskHasLength as MaskCovers}
use Rattle.arrow_flat.specs.Refusals as flat
use Rattle.arrow_bytes.specs.Binaries as bytes
use Rattle.arrow_bytes.specs.FixedSizeBinaries as sized
use Rattle.arrow_layout.specs.Forms.{form_of, text_by}
use Rattle.arrow_layout.specs.Layouts.{booleans, primitives, binaries, fixed_size_binaries}
use Rattle.arrow_layout.specs.SlotsOf.{IsTextIf}
use Rattle.arrow_layout.specs.WellFormed.{MaskFits, AscendTo, AreOffsetsWithin, WellFormed}
use Rattle.column_read.proofs.TextForms.{text_form}

covers : (m : Option Bits) (n : ℕ) → MaskFits m n → MaskCovers m n
covers None n h = tt
covers (Some b) n h = h.0

-- ---- values without offsets

flat_fits : (reason : Reason) (layout : PhysicalType) (t : ArrowDataType) (m : Option Bits) (n : ℕ) → physical_of (seen t) ≡ Some layout → MaskFits m n → flat.RefusedFor reason layout t m n → ⊥
flat_fits MaskLength layout t m n stored w h = h (covers m n w)
flat_fits WrongLogicalType layout t m n stored w h = h.1 stored
flat_fits _ layout t m n stored w h = h

pub flat_refused : (e : PolarsError) (layout : PhysicalType) (t : ArrowDataType) (m : Option Bits) (n : ℕ) → physical_of (seen t) ≡ Some layout → MaskFits m n → flat.Refused e layout t m n → ⊥
flat_refused (ComputeError reason) layout t m n stored w h = flat_fits reason layout t m n stored w h
flat_refused _ layout t m n stored w h = h

pub bad_booleans : (e : PolarsError) (t : ArrowDataType) (m : Option Bits) (vs : Bits) → physical_of (seen t) ≡ Some physical.Boolean → flat.Refused e physical.Boolean t m (length vs.bits)
    → WellFormed (booleans (seen t) m vs) → ⊥
bad_booleans e t m vs stored h w = flat_refused e physical.Boolean t m (length vs.bits) stored w.0.mask h

pub bad_primitives : {T : Type 0} (parts : T → List ℤ) (p : PrimitiveType) (e : PolarsError) (t : ArrowDataType) (m : Option Bits) (xs : List T) → physical_of (seen t) ≡ Some (physical.Primitive p)
    → flat.Refused e (physical.Primitive p) t m (length xs) → WellFormed (primitives (seen t) m (map parts xs)) → ⊥
bad_primitives parts p e t m xs stored h w = flat_refused e (physical.Primitive p) t m (length xs) stored (subst (MaskFits m) (length-map xs parts) w.0.mask) h

-- ---- values of one size

carried_size : (t : TypeData) (k : ℕ) → sized.declared_size t ≡ Some k → IsCarried t → 0 < k
carried_size (T.fixed_size_binary j) k e c =
    let same : j ≡ k = cc in
    subst (λ i. 0 < i) same c.0
carried_size (T.extension n t m) k e c = carried_size t k e c
carried_size _ k e c = cc

whole : (n k : ℕ) → n ≡ n / k * k → n % k ≡ 0
whole n k e = omega (arith, div-add-mod' n k)

sized_fits : (reason : Reason) (k : ℕ) (m : Option Bits) (n : ℕ) → 0 < k → n ≡ n / k * k → MaskFits m (n / k) → sized.RefusedAt reason (Some k) m n → ⊥
sized_fits WrongLogicalType k m n p e w h = cc
sized_fits NotCarried k m n p e w h =
    let none : k ≡ 0 = cc in
    omega (arith, p, none)
sized_fits NotMultiple k m n p e w h = h.1 (whole n k e)
sized_fits MaskLength k m n p e w h = h.2 (covers m (n / k) w)
sized_fits _ k m n p e w h = h

pub bad_sized : (e : PolarsError) (t : ArrowDataType) (k : ℕ) (m : Option Bits) (bs : List ℕ) → sized.declared_size (seen t) ≡ Some k → sized.Refused e t m (length bs)
    → WellFormed (fixed_size_binaries (seen t) m k (length bs / k) (octets bs)) → ⊥
bad_sized (ComputeError reason) t k m bs size h w =
    sized_fits reason k m (length bs) (carried_size (seen t) k size w.0.carried) (sym (length-map bs (λ b. b % 256)) ∙ w.1) w.0.mask (subst (λ o. sized.RefusedAt reason o m (length bs)) size h)
bad_sized _ t k m bs size h w = h

-- ---- offsets

above : (a b : ℕ) → a ≤ b → pos a ≤ℤ pos b
above a b h = omega (arith, ints, h)

not_negative : (a : ℕ) → int_lt (pos a) (pos 0) ≡ false
not_negative a = grind (arith, ints)

rises : (limit top a : ℕ) (os : List ℤ) → AllByRecursion (IsBelow limit) os → AscendTo top a (map to_nat os) → falls (pos a) os ≡ false
rises limit top a [] r h = refl
rises limit top a (pos b ∷ os) r h = falls_later (pos a) (pos b) os (above a b h.0) ∙ rises limit top b os r.1 h.1
rises limit top a (negsuc b ∷ os) r h = absurd r.0

unrefused : (limit top : ℕ) (os : List ℤ) → AreOffsetsWithin limit top os → offsets_refusal os ≡ None
unrefused limit top [] h = absurd h.ascend
unrefused limit top (pos a ∷ os) h =
    ap (λ b. if b then Some Negative else (if falls (pos a) os then Some NotMonotone else None)) (not_negative a)
    ∙ ap (λ b. if b then Some NotMonotone else None) (rises limit top a os h.in_range.1 h.ascend)
unrefused limit top (negsuc a ∷ os) h = absurd h.in_range.0

ends_from : (top a : ℕ) (os : List ℤ) → AscendTo top a (map to_nat os) → end_from a os ≤ top
ends_from top a [] h = h
ends_from top a (o ∷ os) h = ends_from top (to_nat o) os h.1

ends_within : (limit top : ℕ) (os : List ℤ) → AreOffsetsWithin limit top os → end_of os ≤ top
ends_within limit top [] h = absurd h.ascend
ends_within limit top (o ∷ os) h = ends_from top (to_nat o) os h.ascend

no_some : {A : Type 0} (o : Option A) → o ≡ None → IsSome o → ⊥
no_some None e h = cc
no_some (Some x) e h = cc

pub refused_offsets : (limit top : ℕ) (os : List ℤ) → IsSome (offsets_refusal os) → AreOffsetsWithin limit top os → ⊥
refused_offsets limit top os h w = no_some (offsets_refusal os) (unrefused limit top os w) h

pub bad_offsets : (t : TypeData) (m : Option Bits) (os : List ℤ) (bs : List ℕ) → IsSome (offsets_refusal os) → WellFormed (binaries t m os bs) → ⊥
bad_offsets t m os bs h w = no_some (offsets_refusal os) (unrefused _ _ os w.1) h

-- ---- binary values and strings

texts_if : (text large : Bool) (t : TypeData) (xs : List (List ℕ)) → physical_of t ≡ Some (bytes.layout_in text large) → AllByRecursion (IsTextIf (text_by (form_of t))) xs → bytes.AreTextsIf text xs
texts_if false large t xs stored h = tt
texts_if true large t xs stored h = subst (λ b. AllByRecursion (IsTextIf b) xs) (text_form t large stored) h

module _ {O : Type 0} (number : O → ℤ) (text large : Bool) (t : ArrowDataType) (m : Option Bits) (os : List O) (bs : List ℕ) where
  abbrev parts : bytes.Binaries O
  parts = record { dtype = t; offsets = os; values = bs; mask = m }

  module _ (stored : physical_of (seen t) ≡ Some (bytes.layout_in text large)) (w : MaskFits m (pred (length os))) (e : bytes.EndsWithin number os bs)
      (k : bytes.AreTextsIf text (bytes.values_between number os bs)) where
    parts_fit : (reason : Reason) → bytes.RefusedFor text large number reason parts → ⊥
    parts_fit OffsetPastValues h = h e
    parts_fit NotUtf8 h = h.3 k
    parts_fit MaskLength h = flat_fits MaskLength (bytes.layout_in text large) t m (pred (length os)) stored w h.1
    parts_fit WrongLogicalType h = flat_fits WrongLogicalType (bytes.layout_in text large) t m (pred (length os)) stored w h.1
    parts_fit _ h = h.1

  pub bad_binaries : (e : PolarsError) → physical_of (seen t) ≡ Some (bytes.layout_in text large) → octets bs ≡ bs → bytes.Refused text large number e parts
      → WellFormed (binaries (seen t) m (map number os) (octets bs)) → ⊥
  bad_binaries (ComputeError reason) stored same h w =
      let v : WellFormed (binaries (seen t) m (map number os) bs) = subst (λ xs. WellFormed (binaries (seen t) m (map number os) xs)) same w in
      parts_fit stored (subst (λ n. MaskFits m (pred n)) (length-map os number) v.0.mask) (ends_within _ _ (map number os) v.1)
      (texts_if text large (seen t) (pieces (map to_nat (map number os)) bs) stored v.4) reason h
  bad_binaries _ stored same h w = h
