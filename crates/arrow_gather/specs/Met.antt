-- The distinct values that were met among the slots of an array, and the keys that name them.
use Rattle.std.specs.Prelude.{◌≡◌, ℕ, ◌<◌, true, false, cond, List, map, length, get_or, Option, Some, None}
use Rattle.std.specs.BTreeMap.{get_by, btree_map_len}
use Rattle.std.specs.Cmp.Lexicographic.{slice_cmp}
use Rattle.std.specs.List.{AllByRecursion}
use Rattle.std.specs.Ordering.{nat_cmp}
use Rattle.arrow_flat.specs.Slots.{Slot, is_valid}
use Rattle.arrow_flat.specs.Views.{View, inline, long, zero_view}
use Rattle.arrow_layout.specs.Canon.{distinct, first_place, is_among}
use Rattle.arrow_layout.specs.Denote.{denote}
use Rattle.arrow_layout.specs.Layouts.{Layout, views, length_of}
use Rattle.arrow_layout.specs.Masks.{valid_in}
use Rattle.arrow_layout.specs.Spelling.{slot_bytes}
use Rattle.arrow_scalar.specs.Spellings.{slot_at}
use Rattle.arrow_canon.specs.Picks.{picks}
use Rattle.arrow_canon.specs.Runs.{places, AreWithin}
use Rattle.arrow_gather.specs.declared.distinct_values.DistinctValues.{DistinctValues}
use Rattle.arrow_gather.specs.declared.distinct_values.KeyedSlots.{KeyedSlots}
use Rattle.arrow_gather.specs.declared.distinct_values.Source.{Source}
use Rattle.arrow_gather.specs.declared.position_table.PositionTable.{PositionTable}
use Rattle.arrow_gather.specs.declared.distinct_values.Source.TheVariants as source

-- Where the value at slot i stands: the bytes that a long view names, and else the slot.
abbrev pub source_of : View → ℕ → Source
source_of (long n p b o) i = source.Bytes b o n
source_of (inline n bs) i = source.Slot i

abbrev pub source_at : Layout → ℕ → Source
source_at (views t m vs buffers) i = source_of (get_or vs i zero_view) i
source_at l i = source.Slot i

-- The place of a slot among distinct ones, none where it isn't among them.
abbrev pub place_among : List Slot → Slot → Option ℕ
place_among d x = cond (is_among x d) (Some (first_place x d)) None

-- The key names the slot among distinct ones, which has none where it is null.
abbrev pub IsKeyOf : List Slot → Slot → Option ℕ → Type 0
IsKeyOf d x None = is_valid x ≡ false
IsKeyOf d x (Some k) = (is_valid x ≡ true) × (is_among x d ≡ true) × (first_place x d ≡ k)

-- The position of a slot among distinct ones, 0 for a null.
abbrev pub key_place : List Slot → Slot → ℕ
key_place d x = cond (is_valid x) (first_place x d) 0

-- The key is that of each valid slot whose value stands there.
abbrev pub IsKeyAt : Layout → List Slot → Source → Option ℕ → Type 0
IsKeyAt l d s k = (i : ℕ) → i < length_of l → valid_in l i ≡ true → source_at l i ≡ s → IsKeyOf d (slot_at l i) k

-- What is known of a position is the key of the slot there.
abbrev pub AreKeysOf : Layout → List Slot → PositionTable (Option ℕ) → Type 0
AreKeysOf l d t = (i : ℕ) (k : Option ℕ) → i < length_of l → get_or t.known.items i None ≡ Some k → IsKeyOf d (slot_at l i) k

-- The distinct values are those at the positions where each was met first, each has its place under its spelling, and
-- what was met has its key.
pub record AreMet (l : Layout) (d : List Slot) (v : DistinctValues) : Type 0 where
  pub values : (filling : Slot) → picks filling (denote l) (places v.firsts.items) ≡ d
  pub within : AreWithin (length_of l) v.firsts.items
  pub count : btree_map_len v.spelled ≡ length d
  pub spelled : (i : ℕ) → i < length_of l
      → get_by (λ k. slice_cmp nat_cmp (slot_bytes (slot_at l i)) k.items) v.spelled ≡ place_among d (slot_at l i)
  pub known : AllByRecursion (λ e. IsKeyAt l d e.0 e.1) v.known.entries

-- The keys of slots, the distinct values that they name, and a set bit for each slot that isn't null.
pub record AreKeyed (l : Layout) (s : List Slot) (b : KeyedSlots) : Type 0 where
  pub values : AreMet l (distinct s) b.values
  pub keys : b.keys.items ≡ map (key_place (distinct s)) s
  pub bits : b.validity ≡ map is_valid s
