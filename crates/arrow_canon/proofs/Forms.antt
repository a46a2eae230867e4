-- The form of a type whose values have no children, by its physical type.
use Rattle.std.proofs.Common.{◌≡◌, ℕ, Bool, true, false, refl, ap, sym, ◌∙◌, subst, Option, Some}
use Rattle.std.specs.Prelude.{⊤}
use Rattle.arrow_bytes.specs.Binaries.{layout_in}
use Rattle.arrow_bytes.specs.FixedSizeBinaries.{declared_size}
use Rattle.arrow_types.specs.TypeData.{TypeData}
use Rattle.arrow_types.specs.TypeData as T
use Rattle.arrow_types.specs.Types.{physical_of}
use Rattle.arrow_types.specs.declared.datatype.PhysicalType.{PhysicalType}
use Rattle.arrow_types.specs.declared.datatype.PhysicalType.TheVariants as physical
use Rattle.arrow_layout.specs.Forms.{Form, booleans_of, primitives_of, binaries_of, fixed_size_binaries_of, views_of, lists_of, no_form, form_of}
use Rattle.arrow_layout.proofs.Physical.{list_kind, physical_by, physical-by}

-- layouts that name their form
abbrev pub IsNaming : Option PhysicalType → Type 0
IsNaming (Some physical.Boolean) = ⊤
IsNaming (Some (physical.Primitive p)) = ⊤
IsNaming (Some physical.Binary) = ⊤
IsNaming (Some physical.LargeBinary) = ⊤
IsNaming (Some physical.Utf8) = ⊤
IsNaming (Some physical.LargeUtf8) = ⊤
IsNaming _ = ⊥

abbrev pub named : Option PhysicalType → Form
named (Some physical.Boolean) = booleans_of
named (Some (physical.Primitive p)) = primitives_of p
named (Some physical.Binary) = binaries_of false false
named (Some physical.LargeBinary) = binaries_of true false
named (Some physical.Utf8) = binaries_of false true
named (Some physical.LargeUtf8) = binaries_of true true
named _ = no_form

lists_unnamed : (t : TypeData) → IsNaming (Some (list_kind t)) → ⊥
lists_unnamed (T.map f o) h = h
lists_unnamed (T.extension n t m) h = lists_unnamed t h
lists_unnamed _ h = h

form_named : (t : TypeData) (f : Form) → IsNaming (physical_by t f) → f ≡ named (physical_by t f)
form_named t booleans_of h = refl
form_named t (primitives_of p) h = refl
form_named t (binaries_of false false) h = refl
form_named t (binaries_of false true) h = refl
form_named t (binaries_of true false) h = refl
form_named t (binaries_of true true) h = refl
form_named t (views_of false) h = absurd h
form_named t (views_of true) h = absurd h
form_named t (lists_of false u) h = absurd (lists_unnamed t h)
form_named t (lists_of true u) h = absurd h
form_named t _ h = absurd h

pub form_of_physical : (t : TypeData) (k : PhysicalType) → IsNaming (Some k) → physical_of t ≡ Some k → form_of t ≡ named (Some k)
form_of_physical t k h e =
    let q : physical_by t (form_of t) ≡ Some k = sym (physical-by t) ∙ e in
    form_named t (form_of t) (subst IsNaming (sym q) h) ∙ ap named q

pub strings_form : (t : TypeData) (text large : Bool) → physical_of t ≡ Some (layout_in text large) → form_of t ≡ binaries_of large text
strings_form t true true e = form_of_physical t physical.LargeUtf8 tt e
strings_form t true false e = form_of_physical t physical.Utf8 tt e
strings_form t false true e = form_of_physical t physical.LargeBinary tt e
strings_form t false false e = form_of_physical t physical.Binary tt e

-- a type of values of one size
pub sized_form : (t : TypeData) (k : ℕ) → declared_size t ≡ Some k → form_of t ≡ fixed_size_binaries_of k
sized_form (T.fixed_size_binary j) k e = let same : j ≡ k = cc in ap fixed_size_binaries_of same
sized_form (T.extension n t m) k e = sized_form t k e
sized_form _ k e = cc
