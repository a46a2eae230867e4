-- What data are read as, by the layout in which a type is stored.
use Rattle.std.proofs.Common.{◌≡◌, ℕ, true, false, refl, ap, sym, ◌∙◌, ◌^◌, ◌<◌, arith, Option, Some, None}
use Rattle.std.specs.Prelude.{option_and_then}
use Rattle.serde_json.specs.Data.{Data}
use Rattle.arrow_types.specs.TypeData.{TypeData}
use Rattle.arrow_types.specs.TypeData as T
use Rattle.arrow_types.specs.Types.{physical_of}
use Rattle.arrow_types.specs.declared.datatype.PhysicalType.{PhysicalType}
use Rattle.arrow_bytes.specs.FixedSizeBinaries.{declared_size}
use Rattle.arrow_layout.specs.Layouts.{Layout}
use Rattle.arrow_layout.specs.Forms.{Form, form_of, binaries_of, booleans_of, dictionaries_of, fixed_size_binaries_of, fixed_size_lists_of, lists_of, no_form, nulls_of, primitives_of, structs_of, unions_of, views_of}
use Rattle.arrow_layout.proofs.Physical.{physical_by, physical-by, list_kind}
use Rattle.arrow_types.specs.declared.datatype.PhysicalType.TheVariants as physical
use Rattle.arrow_nested.proofs.Nulls.{nulls_fit}
use Rattle.column_grammar.specs.Reads.{flat_in}
use Rattle.column_read.specs.Parts.{data_of}

abbrev by_stored : TypeData → Option PhysicalType → Option ℕ → Data → Option Layout
by_stored t stored size d = option_and_then (λ layout. data_of t layout size d) stored

abbrev size_by : Form → Option ℕ
size_by (fixed_size_binaries_of k) = Some k
size_by _ = None

size-by : (t : TypeData) → declared_size t ≡ size_by (form_of t)
size-by (T.fixed_size_binary k) = refl
size-by (T.list (T.field n t b m)) = refl
size-by (T.large_list (T.field n t b m)) = refl
size-by (T.map (T.field n t b m) o) = refl
size-by (T.fixed_size_list (T.field n t b m) k) = refl
size-by (T.extension n t m) = size-by t
size-by _ = refl

-- no list is of another layout
list_unread : (t u : TypeData) (size : Option ℕ) (d : Data) → data_of u (list_kind t) size d ≡ None
list_unread (T.map f o) u size d = refl
list_unread (T.extension n t m) u size d = list_unread t u size d
list_unread _ u size d = refl

same_by : (t : TypeData) (d : Data) (f : Form) → (physical_by t f ≡ Some physical.Null → ⊥) → flat_in f t d ≡ by_stored t (physical_by t f) (size_by f) d
same_by t d nulls_of never = absurd (never refl)
same_by t d booleans_of never = refl
same_by t d (primitives_of p) never = refl
same_by t d (binaries_of false false) never = refl
same_by t d (binaries_of false true) never = refl
same_by t d (binaries_of true false) never = refl
same_by t d (binaries_of true true) never = refl
same_by t d (fixed_size_binaries_of k) never = refl
same_by t d (views_of false) never = refl
same_by t d (views_of true) never = refl
same_by t d (lists_of false u) never = sym (list_unread t t None d)
same_by t d (lists_of true u) never = refl
same_by t d (fixed_size_lists_of k u) never = refl
same_by t d (structs_of fs) never = refl
same_by t d (unions_of mode ids fs) never = refl
same_by t d (dictionaries_of k u) never = refl
same_by t d no_form never = refl

pub data_stored : (t : TypeData) (d : Data) (stored : Option PhysicalType) (size : Option ℕ) → stored ≡ physical_of t → size ≡ declared_size t → (stored ≡ Some physical.Null → ⊥)
    → flat_in (form_of t) t d ≡ by_stored t stored size d
data_stored t d stored size e k never =
    same_by t d (form_of t) (λ null. never (e ∙ physical-by t ∙ null))
    ∙ ap (λ o. by_stored t o (size_by (form_of t)) d) (sym (physical-by t) ∙ sym e)
    ∙ ap (λ o. by_stored t stored o d) (sym (size-by t) ∙ sym k)

pub null_form : (t : TypeData) → physical_of t ≡ Some physical.Null → form_of t ≡ nulls_of
null_form t e = let w = nulls_fit t 0 e (omega arith) in w.of_form
