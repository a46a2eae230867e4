-- What a growable stands for, and what its calls do.
use Rattle.std.specs.Prelude.{◌≡◌, ℕ, ◌+◌, ◌<◌, ◌≤◌, ◌^◌, nat_le, Bool, true, false, ◌||◌, List, [], ◌++◌, flat_map, length, get_or, replicate, Option, Some, None, Result, MatchResult, refl, ⊤}
use Rattle.std.specs.Coded.{Coded, code_by, coded×, coded_bool, coded_list}
use Rattle.std.specs.List.{AllByRecursion, list_any}
use Rattle.arrow_buffers.specs.Bits.{Bits}
use Rattle.arrow_types.specs.Code.{type_code}
use Rattle.arrow_types.specs.TypeData.{TypeData}
use Rattle.arrow_types.specs.TypeData as T
use Rattle.arrow_types.specs.declared.error.GrowError.{GrowError}
use Rattle.arrow_types.specs.declared.error.GrowError.TheVariants as error
use Rattle.arrow_flat.specs.Primitives.{unset_in}
use Rattle.arrow_flat.specs.SlotCode.{slot_code}
use Rattle.arrow_flat.specs.Slots.{Slot, null}
use Rattle.arrow_layout.specs.Canon.{canon}
use Rattle.arrow_layout.specs.Denote.{denote, validity_of}
use Rattle.arrow_layout.specs.Fits.{Fits}
use Rattle.arrow_layout.specs.Forms.{Form, nulls_of, form_of}
use Rattle.arrow_layout.specs.LayoutCode.{layout_code}
use Rattle.arrow_layout.specs.Layouts.{Layout, nulls, type_of}
use Rattle.arrow_layout.specs.Masks.{HasMask}
use Rattle.arrow_layout.specs.Plain.{IsPlain}
use Rattle.arrow_layout.specs.WellFormed.{WellFormed}
use Rattle.arrow_grow_flat.specs.Tidy.{IsTidy}

-- A growable: the type, the arrays that it takes from, the list that it has grown, whether it takes nulls, and whether a
-- call of it was refused, after which nothing is known of the list. A growable of nulls keeps no array.
pub record Grown : Type 0 where
  pub dtype : TypeData
  pub arrays : List Layout
  pub slots : List Slot
  pub takes_nulls : Bool
  pub failed : Bool

abbrev pub grown_code : Coded Grown
grown_code =
    code_by (TypeData × (List Layout × (List Slot × (Bool × Bool))))
    (coded× type_code (coded× (coded_list layout_code) (coded× (coded_list slot_code) (coded× coded_bool coded_bool))))
    (λ g. (g.dtype, (g.arrays, (g.slots, (g.takes_nulls, g.failed)))))
    (λ p. record { dtype = p.0; arrays = p.1.0; slots = p.1.1.0; takes_nulls = p.1.1.1.0; failed = p.1.1.1.1 }) (λ _. refl)

-- ---- sources

-- The slots of each source of a growable of nulls. It stays folded: no proof computes so long a list.
unfoldable pub nulls_by : ℕ → List Slot
nulls_by n = replicate n null

abbrev pub sources_of : Form → List Layout → ℕ
sources_of nulls_of ls = 18446744073709551615
sources_of _ ls = length ls

-- The layout at a position, and a null array where there is none.
abbrev pub layout_at : List Layout → ℕ → Layout
layout_at ls i = get_or ls i (nulls T.null 0)

abbrev pub source_of : Form → List Layout → ℕ → List Slot
source_of nulls_of ls i = nulls_by 18446744073709551615
source_of _ ls i = denote (layout_at ls i)

-- How many sources it has, and the slots of one.
abbrev pub source_count : Grown → ℕ
source_count g = sources_of (form_of g.dtype) g.arrays

abbrev pub source : Grown → ℕ → List Slot
source g i = source_of (form_of g.dtype) g.arrays i

-- The slots that a call of `extend` takes are there.
pub record IsWithin (g : Grown) (index start len : ℕ) : Type 0 where
  pub alive : g.failed ≡ false
  pub named : index < source_count g
  pub reached : start + len ≤ length (source g index)

-- ---- calls

-- The canonical layout of the slots has counts and offsets in their ranges.
abbrev pub Room : TypeData → List Slot → Type 0
Room t s = Fits (canon t s)

-- Type, sources and need for nulls stay.
pub record Keeps (a b : Grown) : Type 0 where
  pub same_type : b.dtype ≡ a.dtype
  pub same_arrays : b.arrays ≡ a.arrays
  pub same_nulls : b.takes_nulls ≡ a.takes_nulls

-- The slots are appended.
pub record HasMore (a : Grown) (xs : List Slot) (b : Grown) : Type 0 where
  pub alive : b.failed ≡ false
  pub slots : b.slots ≡ a.slots ++ xs
  pub room : Room a.dtype (a.slots ++ xs)

-- Why slots aren't appended: out of memory, or no room for the list with them.
abbrev pub Refuses : TypeData → List Slot → GrowError → Type 0
Refuses t s error.Overflow = Room t s → ⊥
Refuses t s error.OutOfMemory = ⊤

pub record HasFailed (t : TypeData) (s : List Slot) (e : GrowError) (b : Grown) : Type 0 where
  pub failed : b.failed ≡ true
  pub why : Refuses t s e

-- The slots are appended; Overflow exactly where they have no room. A refused call leaves it failed.
pub record Grows (a : Grown) (xs : List Slot) (b : Grown) (r : Result ⊤ GrowError) : Type 0 where
  pub keeps : Keeps a b
  pub outcome : MatchResult r (λ _. HasMore a xs b) (λ e. HasFailed a.dtype (a.slots ++ xs) e b)

-- The list n times, one after another.
abbrev pub copied : ℕ → List Slot → List Slot
copied n xs = flat_map (λ ys. ys) (replicate n xs)

-- ---- arrays

abbrev pub IsMasked : Bool → Option Bits → Type 0
IsMasked true None = ⊥
IsMasked true (Some b) = ⊤
IsMasked false m = m ≡ None

-- A layout of the growable's list: plain, tidy, and with a mask of its own exactly where nulls are taken.
pub record IsBoxOf (a : Grown) (l : Layout) : Type 0 where
  pub of_type : type_of l ≡ a.dtype
  pub slots : denote l ≡ a.slots
  pub mask : HasMask l → IsMasked a.takes_nulls (validity_of l)
  pub plain : IsPlain l
  pub tidy : IsTidy l

pub record IsBoxed (a : Grown) (l : Layout) (b : Grown) : Type 0 where
  pub alive : b.failed ≡ false
  pub empty : b.slots ≡ []
  pub box : IsBoxOf a l

-- The list ends in a layout, and type, sources and need for nulls stay. A refused call leaves it failed.
pub record Boxes {X E : Type 0} (layout : X → Layout) (a b : Grown) (r : Result X E) : Type 0 where
  pub keeps : Keeps a b
  pub outcome : MatchResult r (λ x. IsBoxed a (layout x) b) (λ _. b.failed ≡ true)

-- ---- what holds of each growable

abbrev pub AreOf : TypeData → List Layout → Type 0
AreOf t ls = AllByRecursion (λ l. WellFormed l × (type_of l ≡ t)) ls

-- The mask has an unset bit.
abbrev pub has_nulls : Layout → Bool
has_nulls l = nat_le 1 (unset_in (validity_of l))

abbrev pub any_nulls : List Layout → Bool
any_nulls ls = list_any has_nulls ls

-- What every growable keeps.
pub record IsSound (g : Grown) : Type 0 where
  pub typed : AreOf g.dtype g.arrays
  pub few : length g.arrays < 2 ^ 64
  pub needed : any_nulls g.arrays ≡ true → g.takes_nulls ≡ true
  pub room : g.failed ≡ false → Room g.dtype g.slots

-- ---- making

-- The type of the first.
abbrev pub shared_type : List Layout → TypeData
shared_type ls = type_of (layout_at ls 0)

abbrev pub AllOfType : TypeData → List Layout → Type 0
AllOfType t ls = AllByRecursion (λ l. type_of l ≡ t) ls

-- A growable of arrays of values of one type, as it is made.
abbrev pub fresh : List Layout → Bool → Grown
fresh ls wanted = record {
  dtype = shared_type ls;
  arrays = ls;
  slots = [];
  takes_nulls = wanted || any_nulls ls;
  failed = false;
}
