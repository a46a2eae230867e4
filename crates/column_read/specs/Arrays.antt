-- What the reader of arrays answers: the array that a value holds, none where what it holds isn't well formed.
use Rattle.std.specs.Prelude.{◌≡◌, List, [], ◌∷◌, ◌++◌, Option, Some, None, option_map, option_and_then, Result, MatchResult, ⊤}
use Rattle.serde_json.specs.Data.{Data}
use Rattle.serde_json.specs.View.{view}
use Rattle.arrow_types.specs.Seen.{seen}
use Rattle.arrow_types.specs.TypeData.{TypeData}
use Rattle.arrow_layout.specs.FitsHere.{AllWellFormed}
use Rattle.arrow_layout.specs.Layouts.{Layout, Layouts, layouts, type_of}
use Rattle.arrow_layout.specs.WellFormed.{WellFormed}
use Rattle.type_json.specs.declared.error.JsonError.{JsonError}
use Rattle.type_json.specs.declared.error.JsonError.TheVariants.{BadValue}
use Rattle.column_grammar.specs.Reads as grammar
use Rattle.column_read.specs.declared.array.ReadChild.{ReadChild}
use Rattle.column_read.specs.declared.array.ReadChildren.{ReadChildren}
use Rattle.column_read.specs.declared.column.Column.{Column}

-- The array of a layout, none where the layout isn't well formed.
abbrev pub IsArrayOf : Option Layout → Layout → Type 0
IsArrayOf None l = WellFormed l → ⊥
IsArrayOf (Some a) l = (a ≡ l) × WellFormed l

-- The array of what was read.
pub record IsReadOf (found a : Option Layout) : Type 0 where
  pub layout : Layout
  pub is : found ≡ Some layout
  pub array : IsArrayOf a layout

-- The result is the array of what was found, or the refusal where nothing is. It may also be want of memory.
abbrev pub ReadsArray : Option Layout → Result (Option Layout) JsonError → Type 0
ReadsArray found result = MatchResult result (IsReadOf found) (λ e. e ≡ BadValue → found ≡ None)

-- The same of a list of arrays, none where one of them isn't well formed.
abbrev pub AreArraysOf : Option (List Layout) → Layouts → Type 0
AreArraysOf None ls = AllWellFormed ls → ⊥
AreArraysOf (Some arrays) ls = (layouts arrays ≡ ls) × AllWellFormed ls

pub record AreReadOf (found : Option Layouts) (arrays : Option (List Layout)) : Type 0 where
  pub children : Layouts
  pub are : found ≡ Some children
  pub made : AreArraysOf arrays children

-- A child of members that were found, and the values beside it; or that none were found, or no child.
pub record IsReadChild (child_of : Data → Option Layout) (members : Option (Data × (Data × Data))) (c : ReadChild) : Type 0 where
  pub value : Data
  pub members_are : members ≡ Some (value, (view c.second.now, view c.third.now))
  pub child : IsReadOf (child_of value) c.child

-- whatever is made of the members, nothing without a child, is nothing
abbrev pub NoChild : {L : Type 0} → (Data → Option L) → Option (Data × (Data × Data)) → Type 0
NoChild {L = L} child_of members =
    (f : Option L → Data × Data → Option Layout) → ((d : Data × Data) → f None d ≡ None) → option_and_then (λ p. f (child_of p.0) p.1) members ≡ None

abbrev pub ReadsChild : (Data → Option Layout) → Option (Data × (Data × Data)) → Result ReadChild JsonError → Type 0
ReadsChild child_of members result = MatchResult result (IsReadChild child_of members) (λ e. e ≡ BadValue → NoChild child_of members)

-- The same of a list of children.
pub record IsReadChildren (children_of : Data → Option Layouts) (members : Option (Data × (Data × Data))) (c : ReadChildren) : Type 0 where
  pub value : Data
  pub members_are : members ≡ Some (value, (view c.second.now, view c.third.now))
  pub children : AreReadOf (children_of value) (option_map (λ v. v.items) c.children)

abbrev pub ReadsChildren : (Data → Option Layouts) → Option (Data × (Data × Data)) → Result ReadChildren JsonError → Type 0
ReadsChildren children_of members result = MatchResult result (IsReadChildren children_of members) (λ e. e ≡ BadValue → NoChild children_of members)

-- The column that was read: its type, its array and its slice.
pub record IsColumn (k : grammar.Column) (c : Column) : Type 0 where
  pub dtype : type_of k.layout ≡ seen c.dtype
  pub array : IsArrayOf c.array k.layout
  pub slice : c.slice ≡ k.slice

pub record IsReadColumn (found : Option grammar.Column) (c : Column) : Type 0 where
  pub column : grammar.Column
  pub is : found ≡ Some column
  pub same : IsColumn column c

abbrev pub ReadsColumn : Option grammar.Column → Result Column JsonError → Type 0
ReadsColumn found result = MatchResult result (IsReadColumn found) (λ e. e ≡ BadValue → found ≡ None)

-- The arrays of the children that were read, and one more: none where there is none of one.
abbrev pub and_array : Option Layout → Option (List Layout) → Option (List Layout)
and_array None arrays = None
and_array (Some a) None = None
and_array (Some a) (Some arrays) = Some (arrays ++ a ∷ [])
