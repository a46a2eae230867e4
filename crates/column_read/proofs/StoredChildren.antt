-- What the reader of each kind with children answers, by how the type is stored.
use Rattle.std.proofs.Common.{◌≡◌, refl, sym, ap, subst, ◌∙◌, Option, Some, None}
use Rattle.std.specs.Prelude.{IfSome, option_map, option_and_then, Result, Ok, Err}
use Rattle.serde_json.specs.Data.{Data}
use Rattle.serde_json.specs.View.{view}
use Rattle.arrow_types.specs.TypeData.{TypeData}
use Rattle.arrow_types.specs.TypeData as T
use Rattle.arrow_types.specs.Types.{logical_of, physical_of}
use Rattle.arrow_types.specs.declared.datatype.PhysicalType.{PhysicalType}
use Rattle.arrow_layout.specs.Forms.{Form, form_of}
use Rattle.arrow_layout.specs.Layouts.{Layout, Layouts, type_of}
use Rattle.arrow_choice.proofs.Unions.{form-logical}
use Rattle.type_json.specs.declared.error.JsonError.{JsonError}
use Rattle.column_grammar.specs.Reads.{data_in}
use Rattle.column_grammar.proofs.DataForms.{data_typed}
use Rattle.column_read.specs.Arrays.{IsArrayOf, IsReadOf, IsReadChild, IsReadChildren, AreReadOf, ReadsArray}
use Rattle.column_read.specs.declared.array.ReadChild.{ReadChild}
use Rattle.column_read.specs.declared.array.ReadChildren.{ReadChildren}

-- ---- the type without its extensions

physical-logical : (t : TypeData) → physical_of (logical_of t) ≡ physical_of t
physical-logical (T.extension n t m) = physical-logical t
physical-logical _ = refl

pub same_form : (t u : TypeData) → logical_of t ≡ logical_of u → form_of t ≡ form_of u
same_form t u e = sym (form-logical t) ∙ ap form_of e ∙ form-logical u

pub same_physical : (t u : TypeData) (p : PhysicalType) → logical_of t ≡ logical_of u → physical_of u ≡ Some p → physical_of t ≡ Some p
same_physical t u p e h = sym (physical-logical t) ∙ ap physical_of e ∙ physical-logical u ∙ h

pub same_stored : (t u : TypeData) → logical_of t ≡ logical_of u → physical_of t ≡ physical_of u
same_stored t u e = sym (physical-logical t) ∙ ap physical_of e ∙ physical-logical u

-- ---- what was read, by another name

pub reads_array : (found other : Option Layout) (r : Result (Option Layout) JsonError) → found ≡ other → ReadsArray other r → ReadsArray found r
reads_array found other (Ok a) e h = record { layout = h.layout; is = e ∙ h.is; array = h.array }
reads_array found other (Err error) e h = λ is. e ∙ h is

pub over_child : (make : Option Layout → Data × Data → Option Layout) (child_of : Data → Option Layout) (members : Option (Data × (Data × Data))) (c : ReadChild) (r : Result (Option Layout) JsonError)
    → IsReadChild child_of members c → ((found : Option Layout) → IsReadOf found c.child → ReadsArray (make found (view c.second.now, view c.third.now)) r)
    → ReadsArray (option_and_then (λ p. make (child_of p.0) p.1) members) r
over_child make child_of members c r k h =
    reads_array _ (make (child_of k.value) (view c.second.now, view c.third.now)) r (ap (option_and_then (λ p. make (child_of p.0) p.1)) k.members_are) (h (child_of k.value) k.child)

pub over_children : (make : Option Layouts → Data × Data → Option Layout) (children_of : Data → Option Layouts) (members : Option (Data × (Data × Data))) (c : ReadChildren)
    (r : Result (Option Layout) JsonError) → IsReadChildren children_of members c
    → ((found : Option Layouts) → AreReadOf found (option_map (λ v. v.items) c.children) → ReadsArray (make found (view c.second.now, view c.third.now)) r)
    → ReadsArray (option_and_then (λ p. make (children_of p.0) p.1) members) r
over_children make children_of members c r k h =
    reads_array _ (make (children_of k.value) (view c.second.now, view c.third.now)) r (ap (option_and_then (λ p. make (children_of p.0) p.1)) k.members_are) (h (children_of k.value) k.children)

-- ---- the type of what was read

pub read_typed : (u : TypeData) (d : Data) (a : Layout) → IsReadOf (data_in u d) (Some a) → type_of a ≡ u
read_typed u d a h = ap type_of h.array.0 ∙ data_typed u d h.layout h.is

pub if_typed : (P : TypeData → Type 0) (u : TypeData) (d : Data) (a : Option Layout) → IsReadOf (data_in u d) a → P u → IfSome a (λ x. P (type_of x))
if_typed P u d None h p = tt
if_typed P u d (Some x) h p = subst P (sym (read_typed u d x h)) p
