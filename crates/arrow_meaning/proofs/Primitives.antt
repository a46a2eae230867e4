-- The layout of a primitive array.
use Rattle.std.proofs.Common.{◌≡◌, ◌^◌, ◌<◌, ℕ, true, false, List, [], ◌∷◌, length, ap, sym, ◌∙◌, subst, arith, Option, Some, None}
use Rattle.std.specs.Prelude.{ℤ, map}
use Rattle.std.specs.List.{AllByRecursion}
use Rattle.std.proofs.lemmas.List.{length-map}
use Rattle.arrow_buffers.specs.Bits.{Bits}
use Rattle.arrow_types.specs.Seen.{seen}
use Rattle.arrow_types.specs.TypeData.{TypeData}
use Rattle.arrow_types.specs.TypeData as T
use Rattle.arrow_types.specs.Types.{physical_of}
use Rattle.arrow_types.specs.declared.datatype.PhysicalType.TheVariants as physical
use Rattle.arrow_types.specs.declared.datatype.PrimitiveType.{PrimitiveType}
use Rattle.arrow_flat.specs.Numbers.{IsNumber}
use Rattle.arrow_flat.specs.Primitives.{Primitives, MaskHasLength as MaskCovers, IsLed, IsSound}
use Rattle.arrow_layout.specs.Forms.{Form, nulls_of, booleans_of, primitives_of, binaries_of, fixed_size_binaries_of, views_of, lists_of, fixed_size_lists_of, structs_of, unions_of, dictionaries_of, no_form, form_of, primitive_by}
use Rattle.arrow_layout.specs.Layouts.{primitives}
use Rattle.arrow_meaning.specs.Nodes.{primitive_layout}
use Rattle.arrow_layout.specs.WellFormed.{MaskFits, IsColumnOf, WellFormed}
use Rattle.arrow_layout.proofs.Physical.{list_kind, physical_by, physical-by}

-- ---- its type

not_numbers : (t : TypeData) (p : PrimitiveType) → list_kind t ≡ physical.Primitive p → ⊥
not_numbers (T.map f o) p e = cc
not_numbers (T.extension n t m) p e = not_numbers t p e
not_numbers _ p e = cc

form_from : (t : TypeData) (f : Form) (p : PrimitiveType) → physical_by t f ≡ Some (physical.Primitive p) → f ≡ primitives_of p
form_from t (primitives_of q) p e = let same : q ≡ p = cc in ap primitives_of same
form_from t nulls_of p e = cc
form_from t booleans_of p e = cc
form_from t (binaries_of false false) p e = cc
form_from t (binaries_of false true) p e = cc
form_from t (binaries_of true false) p e = cc
form_from t (binaries_of true true) p e = cc
form_from t (fixed_size_binaries_of k) p e = cc
form_from t (views_of false) p e = cc
form_from t (views_of true) p e = cc
form_from t (lists_of false u) p e = let same : list_kind t ≡ physical.Primitive p = cc in absurd (not_numbers t p same)
form_from t (lists_of true u) p e = cc
form_from t (fixed_size_lists_of k u) p e = cc
form_from t (structs_of fs) p e = cc
form_from t (unions_of mode ids fs) p e = cc
form_from t (dictionaries_of k u) p e = cc
form_from t no_form p e = cc

-- a type is stored as primitive values exactly where its form says so
pub primitive_form : (t : TypeData) (p : PrimitiveType) → physical_of t ≡ Some (physical.Primitive p) → form_of t ≡ primitives_of p
primitive_form t p e = form_from t (form_of t) p (sym (physical-by t) ∙ e)

pub primitive_physical : (t : TypeData) (p : PrimitiveType) → form_of t ≡ primitives_of p → physical_of t ≡ Some (physical.Primitive p)
primitive_physical t p e = physical-by t ∙ ap (physical_by t) e

-- ---- that it is well formed

pub mask_fits : (m : Option Bits) (n : ℕ) → MaskCovers m n → IsLed m → MaskFits m n
mask_fits None n h k = tt
mask_fits (Some b) n h k = (h, k)

-- each value of a list is one of the type
are_numbers : {T : Type 0} (p : PrimitiveType) (parts : T → List ℤ) → ((x : T) → IsNumber p (parts x)) → (xs : List T) → AllByRecursion (IsNumber p) (map parts xs)
are_numbers p parts h [] = tt
are_numbers p parts h (x ∷ xs) = (h x, are_numbers p parts h xs)

well_formed_by : (t : TypeData) (p : PrimitiveType) (m : Option Bits) (xs : List (List ℤ)) → form_of t ≡ primitives_of p → IsColumnOf t (primitives_of p) m (length xs) → AllByRecursion (IsNumber p) xs
    → WellFormed (primitives t m xs)
well_formed_by t p m xs e h k =
    let same : p ≡ primitive_by (form_of t) = sym (ap primitive_by e) in
    (subst (λ q. IsColumnOf t (primitives_of q) m (length xs)) same h, subst (λ q. AllByRecursion (IsNumber q) xs) same k)

pub well_formed_primitive : {T : Type 0} (p : PrimitiveType) (parts : T → List ℤ) → ((x : T) → IsNumber p (parts x)) → (a : Primitives T) → IsSound p a.dtype a.mask (length a.values) → length a.values < 2 ^ 64
    → WellFormed (primitive_layout parts a)
well_formed_primitive p parts h a sound short =
    let e : length (map parts a.values) ≡ length a.values = length-map a.values parts in
    let form = primitive_form (seen a.dtype) p sound.stored in
    well_formed_by (seen a.dtype) p a.mask (map parts a.values) form
    (record { carried = sound.carried; of_form = form; mask = subst (MaskFits a.mask) (sym e) (mask_fits a.mask (length a.values) sound.fits sound.led); count = omega (arith, e, short) })
    (are_numbers p parts h a.values)
