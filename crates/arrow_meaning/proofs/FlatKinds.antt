-- The form of a type that is stored in a flat layout.
use Rattle.std.proofs.Common.{Bool, None, Some, ap, cond, false, refl, true, ℕ, ◌∙◌, ◌≡◌, sym, subst}
use Rattle.std.specs.Prelude.{⊤}
use Rattle.arrow_types.specs.TypeData.{TypeData}
use Rattle.arrow_types.specs.TypeData as T
use Rattle.arrow_types.specs.Types.{physical_of}
use Rattle.arrow_types.specs.declared.datatype.PhysicalType.{PhysicalType}
use Rattle.arrow_types.specs.declared.datatype.PhysicalType.TheVariants as physical
use Rattle.arrow_bytes.specs.FixedSizeBinaries.{declared_size}
use Rattle.arrow_layout.specs.Forms.{Form, binaries_of, booleans_of, dictionaries_of, fixed_size_binaries_of, fixed_size_lists_of, form_of, lists_of, no_form, nulls_of, primitives_of, structs_of, unions_of, views_of}
use Rattle.arrow_layout.proofs.Physical.{list_kind, physical_by, physical-by}

-- the physical types of which the form is known
abbrev pub IsFlatKind : PhysicalType → Type 0
IsFlatKind physical.Boolean = ⊤
IsFlatKind (physical.Primitive p) = ⊤
IsFlatKind physical.Binary = ⊤
IsFlatKind physical.LargeBinary = ⊤
IsFlatKind physical.Utf8 = ⊤
IsFlatKind physical.LargeUtf8 = ⊤
IsFlatKind physical.BinaryView = ⊤
IsFlatKind physical.Utf8View = ⊤
IsFlatKind _ = ⊥

abbrev pub kind_form : PhysicalType → Form
kind_form physical.Boolean = booleans_of
kind_form (physical.Primitive p) = primitives_of p
kind_form physical.Binary = binaries_of false false
kind_form physical.LargeBinary = binaries_of true false
kind_form physical.Utf8 = binaries_of false true
kind_form physical.LargeUtf8 = binaries_of true true
kind_form physical.BinaryView = views_of false
kind_form physical.Utf8View = views_of true
kind_form _ = no_form

no_list : (t : TypeData) → IsFlatKind (list_kind t) → ⊥
no_list (T.map f o) h = h
no_list (T.extension n t m) h = no_list t h
no_list _ h = h

no_list_of : (large : Bool) (t : TypeData) → IsFlatKind (cond large physical.LargeList (list_kind t)) → ⊥
no_list_of true t h = h
no_list_of false t h = no_list t h

-- a form whose kind is q
same_kind : (a b : PhysicalType) → Some a ≡ Some b → a ≡ b
same_kind a b e = cc

no_kind : (q : PhysicalType) → None ≡ Some q → ⊥
no_kind q e = cc

form_back : (t : TypeData) (f : Form) (q : PhysicalType) → physical_by t f ≡ Some q → IsFlatKind q → f ≡ kind_form q
form_back t booleans_of q e h = ap kind_form (same_kind physical.Boolean q e)
form_back t (primitives_of p) q e h = ap kind_form (same_kind (physical.Primitive p) q e)
form_back t (binaries_of false false) q e h = ap kind_form (same_kind physical.Binary q e)
form_back t (binaries_of false true) q e h = ap kind_form (same_kind physical.Utf8 q e)
form_back t (binaries_of true false) q e h = ap kind_form (same_kind physical.LargeBinary q e)
form_back t (binaries_of true true) q e h = ap kind_form (same_kind physical.LargeUtf8 q e)
form_back t (views_of false) q e h = ap kind_form (same_kind physical.BinaryView q e)
form_back t (views_of true) q e h = ap kind_form (same_kind physical.Utf8View q e)
form_back t nulls_of q e h = absurd (subst IsFlatKind (sym (same_kind physical.Null q e)) h)
form_back t (fixed_size_binaries_of k) q e h = absurd (subst IsFlatKind (sym (same_kind physical.FixedSizeBinary q e)) h)
form_back t (lists_of large u) q e h = absurd (no_list_of large t (subst IsFlatKind (sym (same_kind (cond large physical.LargeList (list_kind t)) q e)) h))
form_back t (fixed_size_lists_of k u) q e h = absurd (subst IsFlatKind (sym (same_kind physical.FixedSizeList q e)) h)
form_back t (structs_of fs) q e h = absurd (subst IsFlatKind (sym (same_kind physical.Struct q e)) h)
form_back t (unions_of mode ids fs) q e h = absurd (subst IsFlatKind (sym (same_kind physical.Union q e)) h)
form_back t (dictionaries_of k u) q e h = absurd (subst IsFlatKind (sym (same_kind (physical.Dictionary k) q e)) h)
form_back t no_form q e h = absurd (no_kind q e)

-- a type is stored in a flat layout exactly where its form says so
pub flat_form : (t : TypeData) (q : PhysicalType) → physical_of t ≡ Some q → IsFlatKind q → form_of t ≡ kind_form q
flat_form t q e h = form_back t (form_of t) q (sym (physical-by t) ∙ e) h

pub sized_form : (t : TypeData) (k : ℕ) → declared_size t ≡ Some k → form_of t ≡ fixed_size_binaries_of k
sized_form (T.fixed_size_binary j) k e = let same : j ≡ k = cc in ap fixed_size_binaries_of same
sized_form (T.extension n t m) k e = sized_form t k e
sized_form _ k e = cc

pub form_sized : (t : TypeData) (k : ℕ) → form_of t ≡ fixed_size_binaries_of k → declared_size t ≡ Some k
form_sized t k e = by t (form_of t) k refl e
  where
    by : (t : TypeData) (f : Form) (k : ℕ) → form_of t ≡ f → f ≡ fixed_size_binaries_of k → declared_size t ≡ Some k
    by (T.fixed_size_binary j) f k e h = cc
    by (T.extension n t m) f k e h = by t f k e h
    by (T.list (T.field n t b m)) f k e h = cc
    by (T.large_list (T.field n t b m)) f k e h = cc
    by (T.map (T.field n t b m) o) f k e h = cc
    by (T.fixed_size_list (T.field n t b m) j) f k e h = cc
    by _ f k e h = cc
