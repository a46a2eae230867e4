-- What a growable of arrays over children keeps, and what is asked of growables.
use Rattle.std.specs.Prelude.{◌≡◌, ℕ, zero, suc, ◌<◌, Bool, true, false, List, [], ◌∷◌, ◌++◌, map, length, Option, Some, None, Result, MatchResult, ⊤}
use Rattle.std.specs.List.{AllByRecursion}
use Rattle.arrow_types.specs.Carried.{IsCarried}
use Rattle.arrow_types.specs.TypeData.{TypeData}
use Rattle.arrow_types.specs.TypeData as T
use Rattle.arrow_types.specs.Types.{physical_of}
use Rattle.arrow_types.specs.declared.datatype.PhysicalType.{PhysicalType}
use Rattle.arrow_types.specs.declared.datatype.PhysicalType.TheVariants as physical
use Rattle.arrow_types.specs.declared.error.GrowError.{GrowError}
use Rattle.arrow_types.specs.declared.error.GrowError.TheVariants as error
use Rattle.arrow_flat.specs.Slots.{Slot}
use Rattle.arrow_layout.specs.Denote.{masked}
use Rattle.arrow_layout.specs.Forms.{Form, nulls_of, form_of}
use Rattle.arrow_layout.specs.Layouts.{Layout}
use Rattle.arrow_layout.specs.Paths.{child_at}
use Rattle.arrow_layout.specs.SlotsOf.{HasSlots, fill}
use Rattle.arrow_layout.specs.WellFormed.{WellFormed}
use Rattle.arrow_canon.specs.Picks.{picks}
use Rattle.arrow_canon.specs.Runs.{AreWithin, places}
use Rattle.arrow_canon.specs.declared.run.Run.{Run}
use Rattle.arrow_grow_flat.specs.Grown.{Grown, AreOf, HasMore, IsBoxed, IsSound, Keeps, Room, source, source_count}
use Rattle.arrow_grow_flat.specs.Masks.{plain_mask}
use Rattle.arrow_grow_flat.specs.Values.{IsMaskOf, IsValuesForm, is_there}
use Rattle.arrow_growable.specs.ChildRuns.{AreSlots, may_fill, runs_for}
use Rattle.arrow_growable.specs.Columns.{child_types, columns_by}
use Rattle.arrow_growable.specs.Parts.{AreOfForm, HasParts, IsNestedKind, PartsFit, parts_physical, slots_with}
use Rattle.arrow_growable.specs.declared.child_runs.ItemRuns.{ItemRuns}
use Rattle.arrow_growable.specs.declared.parts.NestedParts.{NestedParts}

-- ---- children

abbrev pub types_in : List Grown → List TypeData
types_in cs = map (λ (c : Grown). c.dtype) cs

abbrev pub lists_in : List Grown → List (List Slot)
lists_in cs = map (λ (c : Grown). c.slots) cs

-- A growable takes from these arrays; one of nulls keeps none.
abbrev pub IsFrom : Form → List Layout → List Layout → Type 0
IsFrom nulls_of ks ls = ⊤
IsFrom _ ks ls = ks ≡ ls

pub record IsMadeOf (c : Grown) (ls : List Layout) : Type 0 where
  pub from : IsFrom (form_of c.dtype) c.arrays ls
  pub typed : AreOf c.dtype ls

-- The growables take from the children of the arrays, the first of them from child j.
abbrev pub AreMadeOf : ℕ → List Grown → List Layout → Type 0
AreMadeOf j [] ls = ⊤
AreMadeOf j (c ∷ cs) ls = IsMadeOf c (map (child_at j) ls) × AreMadeOf (suc j) cs ls

-- A child takes nulls where it may get fillings.
abbrev pub TakeFills : Form → Bool → ℕ → List Grown → Type 0
TakeFills f w j [] = ⊤
TakeFills f w j (c ∷ cs) = (may_fill f w j ≡ true → c.takes_nulls ≡ true) × TakeFills f w (suc j) cs

abbrev pub AreAlive : List Grown → Type 0
AreAlive cs = AllByRecursion (λ (c : Grown). c.failed ≡ false) cs

-- ---- a growable of arrays with children

-- What is known of its parts and children until a call of it was refused.
pub record HoldsColumns (g : Grown) (cs : List Grown) (m : Option (List Bool)) (p : NestedParts) : Type 0 where
  pub alive : AreAlive cs
  pub slots : HasSlots g.dtype g.slots
  pub own : HasParts (form_of g.dtype) g.slots p
  pub fit : PartsFit g.dtype p
  pub columns : lists_in cs ≡ columns_by (form_of g.dtype) g.slots
  pub mask : IsMaskOf m g.slots

pub record IsNestedGrown (g : Grown) (cs : List Grown) (m : Option (List Bool)) (p : NestedParts) : Type 0 where
  pub sound : IsSound g
  pub some : 0 < length g.arrays
  pub form : AreOfForm (form_of g.dtype) p
  pub kind : physical_of g.dtype ≡ Some (parts_physical p)
  pub nested : IsNestedKind (parts_physical p)
  pub types : types_in cs ≡ child_types (form_of g.dtype)
  pub made : AreMadeOf 0 cs g.arrays
  pub fills : TakeFills (form_of g.dtype) g.takes_nulls 0 cs
  pub masked : is_there m ≡ g.takes_nulls
  pub holds : g.failed ≡ false → HoldsColumns g cs m p

-- ---- calls

-- What runs pick out of a source.
abbrev pub taken_of : Grown → ℕ → List Run → List Slot
taken_of g i rs = picks (fill g.dtype) (source g i) (places rs)

-- The slots are there, and nulls are taken where the runs have fillings.
pub record MayTake (g : Grown) (i : ℕ) (rs : List Run) : Type 0 where
  pub alive : g.failed ≡ false
  pub named : i < source_count g
  pub within : AreWithin (length (source g i)) rs
  pub nulls : g.takes_nulls ≡ false → AreSlots (places rs)

-- Neither children nor the slots of a dictionary.
abbrev pub IsFlat : Form → Type 0
IsFlat nulls_of = ⊤
IsFlat f = IsValuesForm f

-- The children take runs of their own, the first of them those of child j.
abbrev pub AllMayTake : ℕ → ItemRuns → ℕ → List Grown → Type 0
AllMayTake i items j [] = ⊤
AllMayTake i items j (c ∷ cs) = MayTake c i (runs_for items j) × AllMayTake i items (suc j) cs

-- What each child takes.
abbrev pub taken_by : ℕ → ItemRuns → ℕ → List Grown → List (List Slot)
taken_by i items j [] = []
taken_by i items j (c ∷ cs) = taken_of c i (runs_for items j) ∷ taken_by i items (suc j) cs

abbrev pub AllKeep : List Grown → List Grown → Type 0
AllKeep [] [] = ⊤
AllKeep [] (d ∷ ds) = ⊥
AllKeep (c ∷ cs) [] = ⊥
AllKeep (c ∷ cs) (d ∷ ds) = Keeps c d × AllKeep cs ds

-- Each child has its own slots more.
abbrev pub AllMore : List (List Slot) → List Grown → List Grown → Type 0
AllMore [] [] [] = ⊤
AllMore (x ∷ xs) (c ∷ cs) (d ∷ ds) = HasMore c x d × AllMore xs cs ds
AllMore _ _ _ = ⊥

abbrev pub RoomsWith : List (List Slot) → List Grown → Type 0
RoomsWith [] [] = ⊤
RoomsWith (x ∷ xs) (c ∷ cs) = Room c.dtype (c.slots ++ x) × RoomsWith xs cs
RoomsWith _ _ = ⊥

abbrev pub AllRefuse : List (List Slot) → List Grown → GrowError → Type 0
AllRefuse xs cs error.Overflow = RoomsWith xs cs → ⊥
AllRefuse xs cs error.OutOfMemory = ⊤

pub record AllGrow (xs : List (List Slot)) (cs ds : List Grown) (r : Result ⊤ GrowError) : Type 0 where
  pub keep : AllKeep cs ds
  pub outcome : MatchResult r (λ _. AllMore xs cs ds) (λ e. AllRefuse xs cs e)

-- The first i of the children have grown, and the others are as they were.
abbrev pub PartDone : List (List Slot) → ℕ → List Grown → List Grown → Type 0
PartDone xs zero cs ds = ds ≡ cs
PartDone [] (suc i) [] [] = ⊤
PartDone (x ∷ xs) (suc i) (c ∷ cs) (d ∷ ds) = Keeps c d × HasMore c x d × PartDone xs i cs ds
PartDone _ (suc i) _ _ = ⊥

-- The arrays of the children's lists, and what is left of the children.
abbrev pub AllBoxed : List Grown → List Layout → List Grown → Type 0
AllBoxed [] [] [] = ⊤
AllBoxed (c ∷ cs) (l ∷ ls) (d ∷ ds) = IsBoxed c l d × WellFormed l × AllBoxed cs ls ds
AllBoxed _ _ _ = ⊥

-- The same of the first i of them, the others being as they were.
abbrev pub PartBoxed : ℕ → List Grown → List Layout → List Grown → Type 0
PartBoxed zero cs [] ds = ds ≡ cs
PartBoxed (suc i) [] [] [] = ⊤
PartBoxed (suc i) (c ∷ cs) (l ∷ ls) (d ∷ ds) = Keeps c d × IsBoxed c l d × WellFormed l × PartBoxed i cs ls ds
PartBoxed _ _ _ _ = ⊥
