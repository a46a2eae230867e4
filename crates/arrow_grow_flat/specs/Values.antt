-- The values of a growable with its mask left aside, and the growable that they make with it.
use Rattle.std.specs.Prelude.{◌≡◌, ◌<◌, ◌^◌, Bool, true, false, List, [], ◌∷◌, ◌++◌, length, map, Option, Some, None, Result, MatchResult, refl, ⊤}
use Rattle.std.specs.Coded.{Coded, code_by, coded×, coded_list}
use Rattle.std.specs.List.{AllByRecursion}
use Rattle.arrow_buffers.specs.Bits.{Bits}
use Rattle.arrow_types.specs.Code.{type_code}
use Rattle.arrow_types.specs.TypeData.{TypeData}
use Rattle.arrow_types.specs.Types.{physical_of}
use Rattle.arrow_types.specs.declared.datatype.PhysicalType.{PhysicalType}
use Rattle.arrow_types.specs.declared.error.GrowError.{GrowError}
use Rattle.arrow_flat.specs.SlotCode.{slot_code}
use Rattle.arrow_flat.specs.Slots.{Slot, is_valid}
use Rattle.arrow_layout.specs.Denote.{masked_by, under, validity_of}
use Rattle.arrow_layout.specs.Forms.{Form, booleans_of, primitives_of, binaries_of, fixed_size_binaries_of, views_of, form_of}
use Rattle.arrow_layout.specs.LayoutCode.{layout_code}
use Rattle.arrow_layout.specs.Layouts.{Layout, type_of}
use Rattle.arrow_layout.specs.Plain.{IsPlain, IsPlainMask}
use Rattle.arrow_grow_flat.specs.Grown.{Grown, AreOf, Room, Refuses, any_nulls}
use Rattle.arrow_grow_flat.specs.Tidy.{IsTidy}

-- The type, the arrays that it takes from, and a value for each slot, those under nulls too.
pub record Values : Type 0 where
  pub dtype : TypeData
  pub arrays : List Layout
  pub slots : List Slot

abbrev pub values_code : Coded Values
values_code =
    code_by (TypeData × (List Layout × List Slot)) (coded× type_code (coded× (coded_list layout_code) (coded_list slot_code)))
    (λ v. (v.dtype, (v.arrays, v.slots))) (λ p. record { dtype = p.0; arrays = p.1.0; slots = p.1.1 }) (λ _. refl)

-- Neither the form of null arrays nor one with children.
abbrev pub IsValuesForm : Form → Type 0
IsValuesForm booleans_of = ⊤
IsValuesForm (primitives_of p) = ⊤
IsValuesForm (binaries_of large text) = ⊤
IsValuesForm (fixed_size_binaries_of k) = ⊤
IsValuesForm (views_of text) = ⊤
IsValuesForm _ = ⊥

-- What all values of growables keep.
pub record AreSound (v : Values) : Type 0 where
  pub form : IsValuesForm (form_of v.dtype)
  pub typed : AreOf v.dtype v.arrays
  pub few : length v.arrays < 2 ^ 64

-- The same of values of a type that is stored so.
pub record AreStored (p : PhysicalType) (v : Values) : Type 0 where
  pub stored : physical_of v.dtype ≡ Some p
  pub sound : AreSound v

-- ---- values and slots, given what may stand under a null

-- The value of a slot is the slot; under a null the property holds of it.
pub record StandsFor (P : Slot → Type 0) (v x : Slot) : Type 0 where
  pub same : is_valid x ≡ true → v ≡ x
  pub blank : is_valid x ≡ false → P v

abbrev pub StandFor : (Slot → Type 0) → List Slot → List Slot → Type 0
StandFor P [] [] = ⊤
StandFor P [] (x ∷ xs) = ⊥
StandFor P (v ∷ vs) [] = ⊥
StandFor P (v ∷ vs) (x ∷ xs) = StandsFor P v x × StandFor P vs xs

-- Values that stood for some slots stand for these with more, and those have room.
pub record StandForMore (P : Slot → Type 0) (a : Values) (xs : List Slot) (b : Values) (s : List Slot) : Type 0 where
  pub stand : StandFor P b.slots (s ++ xs)
  pub room : Room a.dtype (s ++ xs)

-- Values for more slots are appended, whatever slots the values stood for before; Overflow exactly where all of these have
-- no room.
pub record GrowsValues (P : Slot → Type 0) (a : Values) (xs : List Slot) (b : Values) (r : Result ⊤ GrowError) : Type 0 where
  pub same_type : b.dtype ≡ a.dtype
  pub same_arrays : b.arrays ≡ a.arrays
  pub outcome : (s : List Slot) → StandFor P a.slots s → MatchResult r (λ _. StandForMore P a xs b s) (λ e. Refuses a.dtype (s ++ xs) e)

-- The bits of an array's mask, where there is one, are set where a slot isn't null.
abbrev pub StatesNulls : Option Bits → List Slot → Type 0
StatesNulls None s = ⊤
StatesNulls (Some b) s = b.bits ≡ map is_valid s

-- A layout of the values under a mask. It is plain where the mask is, and tidy where the values stand for slots.
pub record IsOf (P : Slot → Type 0) (m : Option Bits) (v : Values) (l : Layout) : Type 0 where
  pub of_type : type_of l ≡ v.dtype
  pub values : under l ≡ v.slots
  pub mask : validity_of l ≡ m
  pub plain : IsPlainMask m → IsPlain l
  pub tidy : (s : List Slot) → StandFor P v.slots s → StatesNulls m s → IsTidy l

-- ---- the growable of values and a mask

-- A set bit for each slot that isn't null; without a mask no slot is null.
abbrev pub IsMaskOf : Option (List Bool) → List Slot → Type 0
IsMaskOf None s = AllByRecursion (λ x. is_valid x ≡ true) s
IsMaskOf (Some bits) s = bits ≡ map is_valid s

abbrev pub values_under : Option (List Bool) → List Slot → List Slot
values_under None vs = vs
values_under (Some bits) vs = masked_by bits vs

abbrev pub is_there : Option (List Bool) → Bool
is_there None = false
is_there (Some bits) = true

abbrev pub grown_of : Values → Option (List Bool) → Bool → Grown
grown_of v m failed = record {
  dtype = v.dtype;
  arrays = v.arrays;
  slots = values_under m v.slots;
  takes_nulls = is_there m;
  failed = failed;
}

-- What is known of its parts until a call was refused.
pub record HoldsSlots (P : Slot → Type 0) (v : Values) (m : Option (List Bool)) (s : List Slot) : Type 0 where
  pub stand : StandFor P v.slots s
  pub mask : IsMaskOf m s
  pub room : Room v.dtype s

pub record IsGrowable (P : Slot → Type 0) (v : Values) (m : Option (List Bool)) (failed : Bool) : Type 0 where
  pub needed : any_nulls v.arrays ≡ true → is_there m ≡ true
  pub holds : failed ≡ false → HoldsSlots P v m (values_under m v.slots)
