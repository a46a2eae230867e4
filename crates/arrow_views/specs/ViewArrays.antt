-- What a contract sees of an array of binary values or of strings by views.
use Rattle.std.specs.Prelude.{◌≡◌, ℕ, Bool, true, false, List, length, map, take, drop, Option, Some, None}
use Rattle.std.specs.Borrow.{Bor}
use Rattle.std.specs.List.{AllByRecursion}
use Rattle.arrow_buffers.specs.Bits.{Bits}
use Rattle.arrow_types.specs.Seen.{seen}
use Rattle.arrow_types.specs.Types.{physical_of}
use Rattle.arrow_types.specs.declared.datatype.ArrowDataType.{ArrowDataType}
use Rattle.arrow_types.specs.declared.datatype.PhysicalType.{PhysicalType}
use Rattle.arrow_types.specs.declared.datatype.PhysicalType.TheVariants as physical
use Rattle.arrow_types.specs.declared.error.PolarsError.{PolarsError}
use Rattle.arrow_types.specs.declared.error.PolarsError.TheVariants.{ComputeError, OutOfMemory}
use Rattle.arrow_types.specs.declared.error.Reason.{Reason}
use Rattle.arrow_types.specs.declared.error.Reason.TheVariants.{ViewRange, NotUtf8}
use Rattle.arrow_flat.specs.Natives.{octets}
pub use Rattle.arrow_flat.specs.Pieces.{AreTextsIf}
use Rattle.arrow_flat.specs.Primitives.{IsArray, IsLaidOut, MaskHasLength, cut_mask, masked_values}
use Rattle.arrow_flat.specs.Refusals as flat
use Rattle.arrow_flat.specs.Views.{View, IsView, view_bytes}

-- the type, the views of all slots, the buffers that hold the long values, and the mask
pub record ViewArray : Type 0 where
  pub dtype : ArrowDataType
  pub views : List View
  pub buffers : List (List ℕ)
  pub mask : Option Bits

-- The layout, by whether the values are texts.
abbrev pub physical_view : Bool → PhysicalType
physical_view true = physical.Utf8View
physical_view false = physical.BinaryView

abbrev pub AreViews : List (List ℕ) → List View → Type 0
AreViews buffers views = AllByRecursion (IsView buffers) views

abbrev pub values_in : List (List ℕ) → List View → List (List ℕ)
values_in buffers views = map (view_bytes buffers) views

-- What every such array keeps.
pub record IsViewArray (text : Bool) (t : ArrowDataType) (m : Option Bits) (views : List View) (buffers : List (List ℕ)) : Type 0 where
  pub laid : IsLaidOut (physical_view text) t m (length views)
  pub placed : AreViews buffers views
  pub texts : AreTextsIf text (values_in buffers views)

-- The same with what the parts keep.
pub record IsSound (text : Bool) (t : ArrowDataType) (m : Option Bits) (views : List View) (buffers : List (List ℕ)) : Type 0 where
  pub array : IsArray (physical_view text) t m (length views)
  pub placed : AreViews buffers views
  pub texts : AreTextsIf text (values_in buffers views)

-- Why parts are refused: the first test that fails, each slot tested, those under nulls too.
abbrev pub RefusedFor : Reason → Bool → ArrowDataType → Option Bits → List View → List (List ℕ) → Type 0
RefusedFor ViewRange text t m views buffers =
    MaskHasLength m (length views) × (physical_of (seen t) ≡ Some (physical_view text)) × (AreViews buffers views → ⊥)
RefusedFor NotUtf8 text t m views buffers =
    MaskHasLength m (length views) × (physical_of (seen t) ≡ Some (physical_view text)) × AreViews buffers views × (AreTextsIf text (values_in buffers views) → ⊥)
RefusedFor reason text t m views buffers = flat.RefusedFor reason (physical_view text) t m (length views)

-- no memory is taken, so none is wanted
abbrev pub Refused : PolarsError → Bool → ArrowDataType → Option Bits → List View → List (List ℕ) → Type 0
Refused (ComputeError reason) text t m views buffers = RefusedFor reason text t m views buffers
Refused _ text t m views buffers = ⊥

-- The same of a call that takes memory.
abbrev pub RefusedIn : PolarsError → Bool → ArrowDataType → Option Bits → List View → List (List ℕ) → Type 0
RefusedIn OutOfMemory text t m views buffers = Unit {0}
RefusedIn e text t m views buffers = Refused e text t m views buffers

-- The array of these parts.
abbrev pub view_array : ArrowDataType → List View → List (List ℕ) → Option Bits → ViewArray
view_array t views buffers m = record { dtype = t; views = views; buffers = buffers; mask = m }

abbrev pub values_of : ViewArray → List (List ℕ)
values_of a = values_in a.buffers a.views

abbrev pub slots : ViewArray → List (Option (List ℕ))
slots a = masked_values a.mask (values_of a)

-- Bytes that are lent, as numbers in their range.
abbrev pub lent_octets : Bor (List ℕ) → List ℕ
lent_octets b = octets b.now

abbrev pub seen_octets : Option (Bor (List ℕ)) → Option (List ℕ)
seen_octets None = None
seen_octets (Some b) = Some (octets b.now)

-- The array of n slots from `offset` on, of the same buffers.
abbrev pub cut : ViewArray → ℕ → ℕ → ViewArray
cut a offset n = record {
  dtype = a.dtype;
  views = take n (drop offset a.views);
  buffers = a.buffers;
  mask = cut_mask offset n a.mask;
}

-- The array with another mask, or none.
abbrev pub with_mask : Option Bits → ViewArray → ViewArray
with_mask m a = view_array a.dtype a.views a.buffers m
