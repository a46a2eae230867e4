-- The slots that a layout denotes.
use Rattle.std.specs.Prelude.{ℕ, ℤ, Bool, cond, List, [], ◌∷◌, map, drop, get_or, replicate, Option, Some, None}
use Rattle.arrow_types.specs.Select.{select, nat_of}
use Rattle.arrow_buffers.specs.Bits.{Bits}
use Rattle.arrow_flat.specs.Slots.{Slot, null, bool, num, bytes, items, parts, chosen, Slots, no_slots, slot, slots_of}
use Rattle.arrow_flat.specs.Pieces.{pieces, chunks}
use Rattle.arrow_flat.specs.Views.{View, view_bytes}
use Rattle.arrow_layout.specs.Forms.{form_of, ids_by}
use Rattle.arrow_layout.specs.Layouts.{Layout, nulls, booleans, primitives, binaries, fixed_size_binaries, views, lists, fixed_size_lists, structs, sparse_unions, dense_unions, dictionaries, Layouts, no_layouts, child}

-- Null where the bit is unset.
abbrev pub masked_by : List Bool → List Slot → List Slot
masked_by [] xs = xs
masked_by (b ∷ bits) [] = []
masked_by (b ∷ bits) (x ∷ xs) = cond b x null ∷ masked_by bits xs

-- Null where the mask has an unset bit.
abbrev pub masked : Option Bits → List Slot → List Slot
masked None xs = xs
masked (Some b) xs = masked_by b.bits xs

-- ---- the slots of each kind with the mask left aside, from the slots of the children

abbrev pub binary_slots : List ℤ → List ℕ → List Slot
binary_slots os bs = map bytes (pieces (map nat_of os) bs)

abbrev pub fixed_binary_slots : ℕ → ℕ → List ℕ → List Slot
fixed_binary_slots k n bs = map bytes (chunks k n bs)

abbrev pub view_slots : List (List ℕ) → List View → List Slot
view_slots buffers vs = map bytes (map (view_bytes buffers) vs)

abbrev pub item_slots : List (List Slot) → List Slot
item_slots xss = map (λ xs. items (slots_of xs)) xss

abbrev pub list_slots : List ℤ → List Slot → List Slot
list_slots os inner = item_slots (pieces (map nat_of os) inner)

abbrev pub fixed_list_slots : ℕ → ℕ → List Slot → List Slot
fixed_list_slots k n inner = item_slots (chunks k n inner)

-- A column in front of rows.
abbrev pub with_column : List Slot → List Slots → List Slots
with_column [] rs = []
with_column (x ∷ xs) [] = []
with_column (x ∷ xs) (r ∷ rs) = slot x r ∷ with_column xs rs

abbrev pub first_slot : List Slot → Slot
first_slot [] = null
first_slot (x ∷ xs) = x

-- Of each position the slot there of the column that the type number selects.
abbrev pub sparse_slots : (ℕ → ℕ) → List ℕ → List (List Slot) → List Slot
sparse_slots select_field [] columns = []
sparse_slots select_field (t ∷ ts) columns =
    chosen t (first_slot (get_or columns (select_field t) [])) ∷ sparse_slots select_field ts (map (drop 1) columns)

-- Of each position the slot at the offset of the column that the type number selects.
abbrev pub dense_slots : (ℕ → ℕ) → List ℕ → List ℕ → List (List Slot) → List Slot
dense_slots select_field [] os columns = []
dense_slots select_field (t ∷ ts) [] columns = []
dense_slots select_field (t ∷ ts) (o ∷ os) columns =
    chosen t (get_or (get_or columns (select_field t) []) o null) ∷ dense_slots select_field ts os columns

abbrev pub dictionary_slots : List ℤ → List Slot → List Slot
dictionary_slots ks inner = map (λ k. get_or inner (nat_of k) null) ks

-- The slot at each position: null where the mask has an unset bit, else what stands under the mask.
abbrev mutual
  pub denote : Layout → List Slot
  denote (nulls t n) = replicate n null
  denote (booleans t m vs) = masked m (map bool vs.bits)
  denote (primitives t m vs) = masked m (map num vs)
  denote (binaries t m os bs) = masked m (binary_slots os bs)
  denote (fixed_size_binaries t m k n bs) = masked m (fixed_binary_slots k n bs)
  denote (views t m vs buffers) = masked m (view_slots buffers vs)
  denote (lists t m os l) = masked m (list_slots os (denote l))
  denote (fixed_size_lists t m k n l) = masked m (fixed_list_slots k n (denote l))
  denote (structs t m n ls) = masked m (map parts (rows n ls))
  denote (sparse_unions t o ts ls) = sparse_slots (select (ids_by (form_of t))) (map nat_of ts) (map (drop o) (columns ls))
  denote (dense_unions t o ts os ls) = dense_slots (select (ids_by (form_of t))) (map nat_of ts) (map nat_of os) (columns ls)
  denote (dictionaries t u m ks l) = masked m (dictionary_slots ks (denote l))

  -- n rows of one slot from each child
  pub rows : ℕ → Layouts → List Slots
  rows n no_layouts = replicate n no_slots
  rows n (child l ls) = with_column (denote l) (rows n ls)

  pub columns : Layouts → List (List Slot)
  columns no_layouts = []
  columns (child l ls) = denote l ∷ columns ls

-- The layout's own mask.
abbrev pub validity_of : Layout → Option Bits
validity_of (nulls t n) = None
validity_of (booleans t m vs) = m
validity_of (primitives t m vs) = m
validity_of (binaries t m os bs) = m
validity_of (fixed_size_binaries t m k n bs) = m
validity_of (views t m vs buffers) = m
validity_of (lists t m os l) = m
validity_of (fixed_size_lists t m k n l) = m
validity_of (structs t m n ls) = m
validity_of (sparse_unions t o ts ls) = None
validity_of (dense_unions t o ts os ls) = None
validity_of (dictionaries t u m ks l) = m

-- The slots with the layout's own mask left aside.
abbrev pub under : Layout → List Slot
under (nulls t n) = replicate n null
under (booleans t m vs) = map bool vs.bits
under (primitives t m vs) = map num vs
under (binaries t m os bs) = binary_slots os bs
under (fixed_size_binaries t m k n bs) = fixed_binary_slots k n bs
under (views t m vs buffers) = view_slots buffers vs
under (lists t m os l) = list_slots os (denote l)
under (fixed_size_lists t m k n l) = fixed_list_slots k n (denote l)
under (structs t m n ls) = map parts (rows n ls)
under (sparse_unions t o ts ls) = sparse_slots (select (ids_by (form_of t))) (map nat_of ts) (map (drop o) (columns ls))
under (dense_unions t o ts os ls) = dense_slots (select (ids_by (form_of t))) (map nat_of ts) (map nat_of os) (columns ls)
under (dictionaries t u m ks l) = dictionary_slots ks (denote l)
