-- Parts of arrays of slots that say nothing.
use Rattle.std.proofs.Common.{Bool, List, None, Option, Some, [], ap, arith, false, length, map, pos, refl, replicate, subst, suc, sym, true, zero, ℕ, ℤ, ◌%◌, ◌*◌, ◌+◌, ◌++◌, ◌/◌, ◌<◌, ◌∙◌, ◌∷◌, ◌≡◌}
use Rattle.std.specs.Prelude.{IsUtf8, pred, ⊤}
use Rattle.std.specs.Option.{unwrap_or}
use Rattle.std.specs.List.{AllByRecursion}
use Rattle.std.proofs.Math.Nat.{mul-mod_left}
use Rattle.std.proofs.lemmas.List.{length-map, length-replicate}
use Rattle.std.proofs.lemmas.Str.{IsUtf8-nil}
use Rattle.arrow_buffers.specs.Bits.{Bits}
use Rattle.arrow_buffers.specs.Offsets.{end_from, end_of, to_nat}
use Rattle.arrow_bytes.specs.Binaries as bytes
use Rattle.arrow_bytes.specs.FixedSizeBinaries.{FixedSizeBinaries, declared_size, size_or_zero, slot_count}
use Rattle.arrow_flat.proofs.Pieces.{whole_count}
use Rattle.arrow_flat.specs.Natives.{IsNative, octets}
use Rattle.arrow_flat.specs.Numbers.{zeros}
use Rattle.arrow_flat.specs.Pieces.{pieces}
use Rattle.arrow_flat.specs.Primitives.{MaskHasLength, Primitives}
use Rattle.arrow_flat.specs.Views.{zero_view}
use Rattle.arrow_layout.proofs.NullForms.{no_pieces, no_views}
use Rattle.arrow_layout.proofs.NullLayouts.{map-replicate}
use Rattle.arrow_layout.proofs.Physical.{physical_by, physical-by}
use Rattle.arrow_layout.specs.Forms.{Form, binaries_of, booleans_of, form_of, nulls_of, primitives_of, views_of}
use Rattle.arrow_layout.specs.Layouts.{fixed_size_binaries, primitives}
use Rattle.arrow_layout.specs.NullLayout.{count_from, null_mask, null_offsets}
use Rattle.arrow_meaning.proofs.FlatLayouts.{same_naturals}
use Rattle.arrow_meaning.specs.Nodes.{fixed_size_binary_layout, primitive_layout}
use Rattle.arrow_meaning.specs.NullParts.{IsSimple}
use Rattle.arrow_types.specs.Seen.{seen}
use Rattle.arrow_types.specs.TypeData.{TypeData}
use Rattle.arrow_types.specs.Types.{physical_of}
use Rattle.arrow_types.specs.declared.datatype.ArrowDataType.{ArrowDataType}
use Rattle.arrow_types.specs.declared.datatype.PhysicalType.{PhysicalType}
use Rattle.arrow_types.specs.declared.datatype.PhysicalType.TheVariants as physical
use Rattle.arrow_types.specs.declared.datatype.PrimitiveType.{PrimitiveType}
use Rattle.arrow_views.specs.ViewArrays as viewed

pub count_push : (a n : ℕ) → count_from a (suc n) ≡ count_from a n ++ (pos (a + n) ∷ [])
count_push a zero = ap (λ k. pos k ∷ []) (omega arith)
count_push a (suc n) = ap (λ ns. pos a ∷ ns) (count_push (suc a) n ∙ ap (λ k. count_from (suc a) n ++ (pos k ∷ [])) (omega arith))

pub count_end : (n : ℕ) → count_from 0 (suc n) ≡ count_from 0 n ++ (pos n ∷ [])
count_end n = count_push 0 n ∙ ap (λ k. count_from 0 n ++ (pos k ∷ [])) (omega arith)

-- ---- binary values of one size

module _ (t : TypeData) (vs : List ℕ) (n k : ℕ) (sized : declared_size t ≡ Some k) (zeroes : vs ≡ replicate (n * k) 0) where
  count : length vs ≡ n * k
  count = ap length zeroes ∙ length-replicate (n * k) 0

  size : size_or_zero t ≡ k
  size = ap (λ o. unwrap_or o 0) sized

  pub sized_multiple : length vs % size_or_zero t ≡ 0
  sized_multiple = ap (λ x. length vs % x) size ∙ (ap (λ x. x % k) count ∙ mul-mod_left n k)

  pub sized_fits : (m : Option Bits) → 0 < k → MaskHasLength m n → MaskHasLength m (length vs / size_or_zero t)
  sized_fits m p h = subst (MaskHasLength m) (sym (ap (λ x. length vs / x) size ∙ (ap (λ x. x / k) count ∙ whole_count n k p))) h

pub sized_nulls : (a : FixedSizeBinaries) (t : ArrowDataType) (n k : ℕ) → a.dtype ≡ t → a.size ≡ k → a.values ≡ replicate (n * k) 0 → a.mask ≡ null_mask n → 0 < k
    → fixed_size_binary_layout a ≡ fixed_size_binaries (seen t) (null_mask n) k n (replicate (n * k) 0)
sized_nulls a t n k d s v m p =
    let slots : slot_count a ≡ n = ap (λ x. length a.values / x) s ∙ (ap (λ x. length x / k) v ∙ (ap (λ x. x / k) (length-replicate {A = ℕ} (n * k) 0) ∙ whole_count n k p)) in
    let values : octets a.values ≡ replicate (n * k) 0 = ap octets v ∙ map-replicate (λ b. b % 256) (n * k) 0 in
    λ i. fixed_size_binaries (seen (d i)) (m i) (s i) (slots i) (values i)

-- ---- values

pub primitive_nulls : {T : Type 0} (parts : T → List ℤ) (a : Primitives T) (t : ArrowDataType) (n : ℕ) (z : T) (p : PrimitiveType)
    → a.dtype ≡ t → a.values ≡ replicate n z → a.mask ≡ null_mask n → parts z ≡ zeros p → primitive_layout parts a ≡ primitives (seen t) (null_mask n) (replicate n (zeros p))
primitive_nulls parts a t n z p d v m e =
    let values : map parts a.values ≡ replicate n (zeros p) = ap (map parts) v ∙ (map-replicate parts n z ∙ ap (replicate n) e) in
    λ i. primitives (seen (d i)) (m i) (values i)

-- ---- offsets

end_zeros : (n : ℕ) → end_from 0 (replicate n (pos 0)) ≡ 0
end_zeros zero = refl
end_zeros (suc n) = end_zeros n

texts_if : (text : Bool) (xss : List (List ℕ)) → AllByRecursion (λ xs. xs ≡ []) xss → bytes.AreTextsIf text xss
texts_if false xss h = tt
texts_if true [] h = tt
texts_if true (xs ∷ xss) h = (subst (λ ys. IsUtf8 ys) (sym h.0) IsUtf8-nil, texts_if true xss h.1)

view_texts_if : (text : Bool) (xss : List (List ℕ)) → AllByRecursion (λ xs. xs ≡ []) xss → viewed.AreTextsIf text xss
view_texts_if false xss h = tt
view_texts_if true xss h = texts_if true xss h

module _ {O : Type 0} (number : O → ℤ) (os : List O) (n : ℕ) (empty : map number os ≡ null_offsets n) where
  pub ends_within : (vs : List ℕ) → bytes.EndsWithin number os vs
  ends_within vs = let e : end_of (map number os) ≡ 0 = ap end_of empty ∙ end_zeros n in omega (arith, e)

  pub offsets_fit : (m : Option Bits) → MaskHasLength m n → MaskHasLength m (pred (length os))
  offsets_fit m h = subst (MaskHasLength m) (sym (ap pred (sym (length-map os number) ∙ ap length empty) ∙ length-replicate n (pos 0))) h

  pub no_texts : (text : Bool) (vs : List ℕ) → vs ≡ [] → bytes.AreTextsIf text (bytes.values_between number os vs)
  no_texts text vs v =
      let none : bytes.values_between number os vs ≡ pieces (map to_nat (null_offsets n)) [] = ap (λ x. pieces (map to_nat x) vs) empty ∙ ap (pieces (map to_nat (null_offsets n))) v in
      subst (bytes.AreTextsIf text) (sym (none ∙ ap (λ x. pieces x []) (same_naturals (null_offsets n)))) (texts_if text _ (no_pieces (λ xs. xs ≡ []) n refl))

pub no_view_texts : (text : Bool) (buffers : List (List ℕ)) (n : ℕ) → buffers ≡ [] → viewed.AreTextsIf text (viewed.values_in buffers (replicate n zero_view))
no_view_texts text buffers n e =
    subst (λ bs. viewed.AreTextsIf text (viewed.values_in bs (replicate n zero_view))) (sym e) (view_texts_if text _ (no_views (λ xs. xs ≡ []) n refl))

-- ---- the physical type of a type without children

abbrev pub IsSimpleKind : Option PhysicalType → Type 0
IsSimpleKind (Some physical.Null) = ⊤
IsSimpleKind (Some physical.Boolean) = ⊤
IsSimpleKind (Some (physical.Primitive p)) = IsNative p
IsSimpleKind (Some physical.Binary) = ⊤
IsSimpleKind (Some physical.LargeBinary) = ⊤
IsSimpleKind (Some physical.Utf8) = ⊤
IsSimpleKind (Some physical.LargeUtf8) = ⊤
IsSimpleKind (Some physical.BinaryView) = ⊤
IsSimpleKind (Some physical.Utf8View) = ⊤
IsSimpleKind _ = ⊥

simple_by : (t : TypeData) (f : Form) → IsSimple f → IsSimpleKind (physical_by t f)
simple_by t nulls_of h = tt
simple_by t booleans_of h = tt
simple_by t (primitives_of p) h = h
simple_by t (binaries_of true true) h = tt
simple_by t (binaries_of true false) h = tt
simple_by t (binaries_of false true) h = tt
simple_by t (binaries_of false false) h = tt
simple_by t (views_of true) h = tt
simple_by t (views_of false) h = tt
simple_by t _ h = absurd h

pub simple_kind : (t : TypeData) (q : Option PhysicalType) → IsSimple (form_of t) → physical_of t ≡ q → IsSimpleKind q
simple_kind t q h e = subst IsSimpleKind (sym (physical-by t) ∙ e) (simple_by t (form_of t) h)

pub simple_some : (t : TypeData) (q : Option PhysicalType) → IsSimple (form_of t) → physical_of t ≡ q → ((p : PhysicalType) → q ≡ Some p → ⊥) → ⊥
simple_some t None h e n = simple_kind t None h e
simple_some t (Some p) h e n = n p refl

null_by : (t : TypeData) (f : Form) → IsSimple f → physical_by t f ≡ Some physical.Null → f ≡ nulls_of
null_by t nulls_of h e = refl
null_by t booleans_of h e = cc
null_by t (primitives_of p) h e = cc
null_by t (binaries_of true true) h e = cc
null_by t (binaries_of true false) h e = cc
null_by t (binaries_of false true) h e = cc
null_by t (binaries_of false false) h e = cc
null_by t (views_of true) h e = cc
null_by t (views_of false) h e = cc
null_by t _ h e = absurd h

pub null_form : (t : TypeData) → IsSimple (form_of t) → physical_of t ≡ Some physical.Null → form_of t ≡ nulls_of
null_form t h e = null_by t (form_of t) h (sym (physical-by t) ∙ e)

pub kind_left : (q : PhysicalType) → IsSimpleKind (Some q) → (q ≡ physical.Null → ⊥) → (q ≡ physical.Boolean → ⊥) → ((p : PrimitiveType) → q ≡ physical.Primitive p → ⊥) → (q ≡ physical.Binary → ⊥)
    → (q ≡ physical.LargeBinary → ⊥) → (q ≡ physical.Utf8 → ⊥) → (q ≡ physical.LargeUtf8 → ⊥) → (q ≡ physical.BinaryView → ⊥) → (q ≡ physical.Utf8View → ⊥) → ⊥
kind_left physical.Null h a b c d e f g i j = a refl
kind_left physical.Boolean h a b c d e f g i j = b refl
kind_left (physical.Primitive p) h a b c d e f g i j = c p refl
kind_left physical.Binary h a b c d e f g i j = d refl
kind_left physical.LargeBinary h a b c d e f g i j = e refl
kind_left physical.Utf8 h a b c d e f g i j = f refl
kind_left physical.LargeUtf8 h a b c d e f g i j = g refl
kind_left physical.BinaryView h a b c d e f g i j = i refl
kind_left physical.Utf8View h a b c d e f g i j = j refl
kind_left _ h a b c d e f g i j = h
