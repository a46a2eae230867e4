-- The values of growables of views, which share the buffers of the arrays that they take from, or pack their values.
use Rattle.std.specs.Prelude.{◌≡◌, ℕ, zero, suc, ◌+◌, ◌<◌, ◌≤◌, ◌^◌, Bool, cond, List, [], ◌∷◌, ◌++◌, flat_map, get_or, length, map, sum, ⊤}
use Rattle.arrow_types.specs.TypeData.{TypeData}
use Rattle.arrow_flat.specs.Natives.{octets}
use Rattle.arrow_flat.specs.Packs.{view_limit}
use Rattle.arrow_flat.specs.Primitives.{valid_at}
use Rattle.arrow_flat.specs.Slots.{Slot, bytes}
use Rattle.arrow_flat.specs.Views.{View, inline, long, IsView, view_bytes, zero_view}
use Rattle.arrow_views.specs.ViewArrays.{AreTextsIf, AreViews, ViewArray, physical_view, values_in}
use Rattle.arrow_layout.specs.Denote.{view_slots}
use Rattle.arrow_meaning.specs.Nodes.{view_layout}
use Rattle.arrow_grow_flat.specs.Values.{AreStored, Values}
use Rattle.arrow_grow_flat.specs.declared.view.LongValues.{LongValues}
use Rattle.arrow_grow_flat.specs.declared.view.LongValues.TheVariants as long_values

-- Of views, given the buffers that they name.
abbrev pub view_values : TypeData → List ViewArray → List (List ℕ) → List View → Values
view_values t arrays buffers views = record {
  dtype = t;
  arrays = map view_layout arrays;
  slots = view_slots buffers views;
}

-- A value that may stand under a null: no bytes.
abbrev pub IsEmptyValue : Slot → Type 0
IsEmptyValue x = x ≡ bytes []

-- The buffers of all arrays, one array's after another's.
abbrev pub joined_buffers : List ViewArray → List (List ℕ)
joined_buffers arrays = flat_map (λ a. a.buffers) arrays

-- Where the buffers of each array begin among them, when n stand before all.
abbrev pub buffer_starts : ℕ → List ViewArray → List ℕ
buffer_starts n [] = []
buffer_starts n (a ∷ arrays) = n ∷ buffer_starts (n + length a.buffers) arrays

-- The view with the number of its buffer raised; one that holds its value stays.
abbrev pub shifted : ℕ → View → View
shifted first (inline n bs) = inline n bs
shifted first (long n p b o) = long n p (first + b) o

-- The view for a slot of an array whose buffers begin at `first`: that of no bytes for a null.
abbrev pub slot_view : ℕ → ViewArray → ℕ → View
slot_view first a i = cond (valid_at a.mask i) (shifted first (get_or a.views i zero_view)) zero_view

-- The views for the n slots from o on.
abbrev pub slot_views : ℕ → ViewArray → ℕ → ℕ → List View
slot_views first a o zero = []
slot_views first a o (suc n) = slot_views first a o n ++ slot_view first a (o + n) ∷ []

-- The bytes of the value at a slot, none for a null.
abbrev pub slot_value : ViewArray → ℕ → List ℕ
slot_value a i = cond (valid_at a.mask i) (view_bytes a.buffers (get_or a.views i zero_view)) []

-- Those of the n slots from o on.
abbrev pub slot_values : ViewArray → ℕ → ℕ → List (List ℕ)
slot_values a o zero = []
slot_values a o (suc n) = slot_values a o n ++ slot_value a (o + n) ∷ []

-- How many bytes values have together.
abbrev pub byte_count : List (List ℕ) → ℕ
byte_count values = sum (map length values)

-- Views for these values.
abbrev pub AreViewsOf : List (List ℕ) → List View → List (List ℕ) → Type 0
AreViewsOf buffers views values = AreViews buffers views × (values_in buffers views ≡ values)

-- A view for a value in some buffers is one for the same value in others.
abbrev pub KeepViews : List (List ℕ) → List (List ℕ) → Type 0
KeepViews buffers others = (v : View) → IsView buffers v → IsView others v × (view_bytes others v ≡ view_bytes buffers v)

-- The buffers of all arrays, at most as many as a view can number, and where those of each begin.
pub record AreShared (arrays : List ViewArray) (starts : List ℕ) (buffers : List (List ℕ)) : Type 0 where
  pub begin : starts ≡ buffer_starts 0 arrays
  pub joined : buffers ≡ joined_buffers arrays
  pub few : length buffers < 2 ^ 32

-- The buffers that values of more than twelve bytes stand in.
abbrev pub long_buffers : LongValues → List (List ℕ)
long_buffers (long_values.Shared starts buffers) = map octets buffers.items
long_buffers (long_values.Packed packer) = packer.buffers

abbrev pub AreLongValues : List ViewArray → LongValues → Type 0
AreLongValues arrays (long_values.Shared starts buffers) = AreShared arrays starts.items (map octets buffers.items)
AreLongValues arrays (long_values.Packed packer) = packer.limit ≡ view_limit

abbrev pub IsShared : LongValues → Type 0
IsShared (long_values.Shared starts buffers) = ⊤
IsShared (long_values.Packed packer) = ⊥

-- What growing views keep: they are views for values in the buffers, which have at most 2 ^ 62 bytes together.
pub record AreGrowingViews (text : Bool) (t : TypeData) (arrays : List ViewArray) (buffers : List (List ℕ)) (views : List View) (total : ℕ) : Type 0 where
  pub stored : AreStored (physical_view text) (view_values t arrays buffers views)
  pub placed : AreViews buffers views
  pub texts : AreTextsIf text (values_in buffers views)
  pub counted : total ≡ byte_count (values_in buffers views)
  pub within : total ≤ 2 ^ 62
