-- The runs that children take where slots are appended to their parent.
use Rattle.std.specs.Prelude.{◌≡◌, ℕ, suc, ◌*◌, ◌<◌, nat_eq, Bool, true, false, ◌&&◌, List, [], ◌∷◌, ◌++◌, length, map, flat_map, get_or, Option, Some, None, ⊤}
use Rattle.std.specs.List.{AllByRecursion}
use Rattle.arrow_types.specs.Select.{first_number, select}
use Rattle.arrow_types.specs.declared.datatype.UnionMode.TheVariants.{Dense, Sparse}
use Rattle.arrow_buffers.specs.Bits.{Bits}
use Rattle.arrow_flat.specs.Primitives.{unset_in}
use Rattle.arrow_flat.specs.Slots.{Slot}
use Rattle.arrow_layout.specs.Canon.{mask_of}
use Rattle.arrow_layout.specs.Denote.{validity_of}
use Rattle.arrow_layout.specs.Forms.{Form, fixed_size_lists_of, structs_of, unions_of, form_of}
use Rattle.arrow_layout.specs.Layouts.{Layout, Layouts, no_layouts, child, type_of, length_of}
use Rattle.arrow_layout.specs.Paths.{children_of}
use Rattle.arrow_layout.specs.WellFormed.{AreOffsetsTo}
use Rattle.arrow_canon.specs.Picks.{picked, picked_mask}
use Rattle.arrow_canon.specs.Runs.{AreWithin, places}
use Rattle.arrow_canon.specs.declared.run.Run.{Run}
use Rattle.arrow_items.specs.Dealt.{runs_of}
use Rattle.arrow_items.specs.Items.{chunk_places, item_places, kept_places}
use Rattle.arrow_growable.specs.Columns.{columns_by}
use Rattle.arrow_growable.specs.declared.child_runs.ItemRuns.{ItemRuns}
use Rattle.arrow_growable.specs.declared.child_runs.ItemRuns.TheVariants as runs_in
use Rattle.arrow_growable.specs.declared.child_runs.ChildRuns.{ChildRuns}

abbrev pub HasRuns : ℕ → ItemRuns → Type 0
HasRuns j (runs_in.Same rs) = ⊤
HasRuns j (runs_in.Each ls) = j < length ls.items

-- The runs that a child takes.
abbrev pub runs_for : ItemRuns → ℕ → List Run
runs_for (runs_in.Same rs) j = rs.items
runs_for (runs_in.Each ls) j = get_or (runs_of ls.items) j []

-- ---- of one kind

-- Of lists, by their offsets and mask.
pub record AreListRuns (os : List ℕ) (m : Option Bits) (rs : List Run) (c : ChildRuns) : Type 0 where
  pub same : (j : ℕ) → HasRuns j c.items
  pub items : (j : ℕ) → places (runs_for c.items j) ≡ flat_map (item_places os) (kept_places m (places rs))
  pub inside : (j top : ℕ) → AreOffsetsTo top os → AreWithin top (runs_for c.items j)
  pub mask : c.validity ≡ picked_mask m (places rs)
  pub count : c.length ≡ length (places rs)

-- Of n fixed-size lists of k items.
pub record AreChunkRuns (k n : ℕ) (m : Option Bits) (rs : List Run) (c : ChildRuns) : Type 0 where
  pub same : (j : ℕ) → HasRuns j c.items
  pub items : (j : ℕ) → places (runs_for c.items j) ≡ flat_map (chunk_places k) (kept_places m (places rs))
  pub inside : (j : ℕ) → AreWithin (n * k) (runs_for c.items j)
  pub mask : c.validity ≡ picked_mask m (places rs)
  pub count : c.length ≡ length (places rs)

-- Of n structs.
pub record AreStructRuns (n : ℕ) (m : Option Bits) (rs : List Run) (c : ChildRuns) : Type 0 where
  pub same : (j : ℕ) → HasRuns j c.items
  pub items : (j : ℕ) → places (runs_for c.items j) ≡ kept_places m (places rs)
  pub inside : (j : ℕ) → AreWithin n (runs_for c.items j)
  pub mask : c.validity ≡ picked_mask m (places rs)
  pub count : c.length ≡ length (places rs)

-- ---- of any kind

-- The columns of the children at the runs that they take, the first of them child j.
abbrev pub columns_at : Layouts → ItemRuns → ℕ → List (List Slot)
columns_at no_layouts c j = []
columns_at (child l ls) c j = picked (type_of l) l (places (runs_for c j)) ∷ columns_at ls c (suc j)

abbrev pub AreInside : Layouts → ItemRuns → ℕ → Type 0
AreInside no_layouts c j = ⊤
AreInside (child l ls) c j = HasRuns j c × AreWithin (length_of l) (runs_for c j) × AreInside ls c (suc j)

-- The place is a position.
abbrev pub IsPosition : Option ℕ → Type 0
IsPosition None = ⊥
IsPosition (Some i) = ⊤

-- No place is a filling.
abbrev pub AreSlots : List (Option ℕ) → Type 0
AreSlots ps = AllByRecursion IsPosition ps

-- Whether child j may get fillings, given whether its parent may get nulls.
abbrev pub may_fill : Form → Bool → ℕ → Bool
may_fill (fixed_size_lists_of k t) w j = w
may_fill (structs_of fs) w j = w
may_fill (unions_of Sparse ids fs) w j = true
may_fill (unions_of Dense ids fs) w j = w && nat_eq (select ids (first_number ids)) j
may_fill _ w j = false

-- Neither the mask nor the runs make nulls.
pub record HasNoFill (l : Layout) (rs : List Run) : Type 0 where
  pub set : unset_in (validity_of l) ≡ 0
  pub slots : AreSlots (places rs)

-- What is appended of the slots that runs pick out of an array.
pub record AreChildRuns (l : Layout) (rs : List Run) (c : ChildRuns) : Type 0 where
  pub columns : columns_by (form_of (type_of l)) (picked (type_of l) l (places rs)) ≡ columns_at (children_of l) c.items 0
  pub inside : AreInside (children_of l) c.items 0
  pub fills : (w : Bool) → (w ≡ false → HasNoFill l rs) → (j : ℕ) → may_fill (form_of (type_of l)) w j ≡ false → AreSlots (places (runs_for c.items j))
  pub mask : c.validity ≡ mask_of (picked (type_of l) l (places rs))
  pub set : HasNoFill l rs → mask_of (picked (type_of l) l (places rs)) ≡ None
  pub count : c.length ≡ length (places rs)
