-- The slots of a well-formed layout are short: no length in them passes a usize.
use Rattle.std.proofs.Common.{◌≡◌, ◌↔◌, ℕ, zero, suc, ◌+◌, ◌-◌, ◌^◌, ◌<◌, ◌≤◌, List, [], ◌∷◌, ◌++◌, length, map, drop, take, get_or, sym, subst, arith}
use Rattle.std.specs.Prelude.{ℤ, ⊤}
use Rattle.std.specs.List.{AllByRecursion}
use Rattle.std.proofs.lemmas.List.{length-drop, length-take}
use Rattle.arrow_types.specs.Select.{nat_of, select}
use Rattle.arrow_flat.proofs.Lists.{all_any, all_drop, all_map, all_replicate, all_take, unpacked-packed}
use Rattle.arrow_flat.specs.Pieces.{chunks, pieces, pieces_from}
use Rattle.arrow_flat.specs.Slots.{Slot, Slots, bool, bytes, items, no_slots, null, num, parts, slots_of}
use Rattle.arrow_flat.specs.Views.{IsView, View, inline, long, view_bytes}
use Rattle.arrow_layout.proofs.Conforms.{all_at, all_masked, conforms}
use Rattle.arrow_layout.proofs.Lengths.{length-denote}
use Rattle.arrow_layout.proofs.Spelled.{no_prefix, spelled_one}
use Rattle.arrow_layout.specs.Denote.{columns, dense_slots, denote, dictionary_slots, first_slot, rows, sparse_slots, with_column}
use Rattle.arrow_layout.specs.FitsHere.{AllWellFormed}
use Rattle.arrow_layout.specs.Forms.{form_of, ids_by}
use Rattle.arrow_layout.specs.Layouts.{Layout, Layouts, binaries, booleans, child, dense_unions, dictionaries, fixed_size_binaries, fixed_size_lists, length_of, lists, no_layouts, nulls, primitives, sparse_unions, structs, type_of, views}
use Rattle.arrow_layout.specs.SlotsOf.{IsSlot}
use Rattle.arrow_layout.specs.Spelling.{AreShort, IsShort, slot_bytes}
use Rattle.arrow_layout.specs.WellFormed.{AreWellFormed, WellFormed}
use Rattle.arrow_scalar.specs.Spellings.{slot_at}

-- ---- parts of a list are no longer than it

module _ {A : Type 0} (P : A → Type 0) (n : ℕ) where
  abbrev pub IsPart : List A → Type 0
  IsPart ys = (length ys ≤ n) × AllByRecursion P ys

  part_small : (a k : ℕ) (xs : List A) → IsPart xs → IsPart (take k (drop a xs))
  part_small a k xs h = (omega (arith, h.0, length-take k (drop a xs), length-drop a xs), all_take P k (drop a xs) (all_drop P a xs h.1))

  pieces_small_from : (a : ℕ) (os : List ℕ) (xs : List A) → IsPart xs → AllByRecursion IsPart (pieces_from a os xs)
  pieces_small_from a [] xs h = tt
  pieces_small_from a (b ∷ os) xs h = (part_small a (b - a) xs h, pieces_small_from b os xs h)

  pub pieces_small : (os : List ℕ) (xs : List A) → IsPart xs → AllByRecursion IsPart (pieces os xs)
  pieces_small [] xs h = tt
  pieces_small (a ∷ os) xs h = pieces_small_from a os xs h

  pub chunks_small : (k c : ℕ) (xs : List A) → IsPart xs → AllByRecursion IsPart (chunks k c xs)
  chunks_small k zero xs h = tt
  chunks_small k (suc c) xs h = (
    (omega (arith, h.0, length-take k xs), all_take P k xs h.1),
    chunks_small k c (drop k xs) (omega (arith, h.0, length-drop k xs), all_drop P k xs h.1),
  )

-- ---- slots

are_short : (xs : List Slot) → AllByRecursion IsShort xs → AreShort (slots_of xs)
are_short [] h = tt
are_short (x ∷ xs) h = (h.0, are_short xs h.1)

items_short : (n : ℕ) (xs : List Slot) → n < 2 ^ 64 → (length xs ≤ n) × AllByRecursion IsShort xs → IsShort (items (slots_of xs))
items_short n xs f h = (subst (λ ys. length ys < 2 ^ 64) (sym (unpacked-packed xs)) (omega (arith, f, h.0)), are_short xs h.1)

get_short : (xs : List Slot) (i : ℕ) → AllByRecursion IsShort xs → IsShort (get_or xs i null)
get_short [] i h = tt
get_short (x ∷ xs) zero h = h.0
get_short (x ∷ xs) (suc i) h = get_short xs i h.1

first_short : (xs : List Slot) → AllByRecursion IsShort xs → IsShort (first_slot xs)
first_short [] h = tt
first_short (x ∷ xs) h = h.0

view_short : (buffers : List (List ℕ)) (v : View) → IsView buffers v → length (view_bytes buffers v) < 2 ^ 64
view_short buffers (inline n bs) w = omega (arith, length-take n bs, w.0)
view_short buffers (long n p b o) w = omega (arith, length-take n (drop o (get_or buffers b [])), w.4)

views_short : (buffers : List (List ℕ)) (vs : List View) → AllByRecursion (IsView buffers) vs → AllByRecursion IsShort (map bytes (map (view_bytes buffers) vs))
views_short buffers [] w = tt
views_short buffers (v ∷ vs) w = (view_short buffers v w.0, views_short buffers vs w.1)

keys_short : (ks : List ℤ) (inner : List Slot) → AllByRecursion IsShort inner → AllByRecursion IsShort (dictionary_slots ks inner)
keys_short [] inner h = tt
keys_short (k ∷ ks) inner h = (get_short inner (nat_of k) h, keys_short ks inner h)

column_short : (xs : List Slot) (rs : List Slots) → AllByRecursion IsShort xs → AllByRecursion AreShort rs → AllByRecursion AreShort (with_column xs rs)
column_short [] rs h k = tt
column_short (x ∷ xs) [] h k = tt
column_short (x ∷ xs) (r ∷ rs) h k = ((h.0, k.0), column_short xs rs h.1 k.1)

dropped_short : (o : ℕ) (cs : List (List Slot)) → AllByRecursion (AllByRecursion IsShort) cs → AllByRecursion (AllByRecursion IsShort) (map (drop o) cs)
dropped_short o cs h = all_map (AllByRecursion IsShort) (AllByRecursion IsShort) (drop o) (all_drop IsShort o) cs h

sparse_short : (select_field : ℕ → ℕ) (ts : List ℕ) (cs : List (List Slot)) → AllByRecursion (AllByRecursion IsShort) cs → AllByRecursion IsShort (sparse_slots select_field ts cs)
sparse_short select_field [] cs h = tt
sparse_short select_field (t ∷ ts) cs h =
    (first_short (get_or cs (select_field t) []) (all_at IsShort cs (select_field t) h), sparse_short select_field ts (map (drop 1) cs) (dropped_short 1 cs h))

dense_short : (select_field : ℕ → ℕ) (ts os : List ℕ) (cs : List (List Slot)) → AllByRecursion (AllByRecursion IsShort) cs → AllByRecursion IsShort (dense_slots select_field ts os cs)
dense_short select_field [] os cs h = tt
dense_short select_field (t ∷ ts) [] cs h = tt
dense_short select_field (t ∷ ts) (o ∷ os) cs h =
    (get_short (get_or cs (select_field t) []) o (all_at IsShort cs (select_field t) h), dense_short select_field ts os cs h)

few_of : (l : Layout) → WellFormed l → length_of l < 2 ^ 64
few_of (nulls t n) w = w.count
few_of (booleans t m vs) w = w.0.count
few_of (primitives t m vs) w = w.0.count
few_of (binaries t m os bs) w = w.0.count
few_of (fixed_size_binaries t m k n bs) w = w.0.count
few_of (views t m vs buffers) w = w.0.count
few_of (lists t m os l) w = w.0.count
few_of (fixed_size_lists t m k n l) w = w.0.count
few_of (structs t m n ls) w = w.0.count
few_of (sparse_unions t o ts ls) w = w.0.count
few_of (dense_unions t o ts os ls) w = w.0.count
few_of (dictionaries t u m ks l) w = w.0.count

module _ {A : Type 0} where
  any : (xs : List A) → AllByRecursion (λ x. ⊤) xs
  any xs = all_any (λ x. ⊤) (λ x. tt) xs

each_well_formed : (P : ℕ → Type 0) (ls : Layouts) → AreWellFormed P ls → AllWellFormed ls
each_well_formed P no_layouts w = tt
each_well_formed P (child l ls) w = (w.1, each_well_formed P ls w.2)

mutual
  short : (l : Layout) → WellFormed l → AllByRecursion IsShort (denote l)
  short (nulls t n) w = all_replicate IsShort n null tt
  short (booleans t m vs) w = all_masked IsShort tt m _ (all_map (λ b. ⊤) IsShort bool (λ b h. h) vs.bits (any vs.bits))
  short (primitives t m vs) w = all_masked IsShort tt m _ (all_map (λ zs. ⊤) IsShort num (λ zs h. h) vs (any vs))
  short (binaries t m os bs) w =
      all_masked IsShort tt m _
      (all_map (IsPart (λ b. ⊤) (length bs)) IsShort bytes (λ ys h. omega (arith, h.0, w.3)) (pieces (map nat_of os) bs) (pieces_small (λ b. ⊤) (length bs) (map nat_of os) bs (omega arith, any bs)))
  short (fixed_size_binaries t m k n bs) w =
      all_masked IsShort tt m _
      (all_map (IsPart (λ b. ⊤) (length bs)) IsShort bytes (λ ys h. omega (arith, h.0, w.3)) (chunks k n bs) (chunks_small (λ b. ⊤) (length bs) k n bs (omega arith, any bs)))
  short (views t m vs buffers) w = all_masked IsShort tt m _ (views_short buffers vs w.1)
  short (lists t m os l) w =
      let n = length (denote l) in
      let few : n < 2 ^ 64 = omega (arith, length-denote l w.2, few_of l w.2) in
      all_masked IsShort tt m _
      (all_map (IsPart IsShort n) IsShort (λ xs. items (slots_of xs)) (λ xs h. items_short n xs few h) (pieces (map nat_of os) (denote l)) (pieces_small IsShort n (map nat_of os) (denote l) (omega arith, short l w.2)))
  short (fixed_size_lists t m k n l) w =
      let c = length (denote l) in
      let few : c < 2 ^ 64 = omega (arith, length-denote l w.2, few_of l w.2) in
      all_masked IsShort tt m _
      (all_map (IsPart IsShort c) IsShort (λ xs. items (slots_of xs)) (λ xs h. items_short c xs few h) (chunks k n (denote l)) (chunks_small IsShort c k n (denote l) (omega arith, short l w.2)))
  short (structs t m n ls) w = all_masked IsShort tt m _ (all_map AreShort IsShort parts (λ r h. h) (rows n ls) (short_rows n ls (each_well_formed (λ i. i ≡ n) ls w.2)))
  short (sparse_unions t o ts ls) w = sparse_short (select (ids_by (form_of t))) (map nat_of ts) (map (drop o) (columns ls)) (dropped_short o (columns ls) (short_columns ls (each_well_formed (λ i. o + length ts ≤ i) ls w.4)))
  short (dense_unions t o ts os ls) w = dense_short (select (ids_by (form_of t))) (map nat_of ts) (map nat_of os) (columns ls) (short_columns ls (each_well_formed (λ i. 0 ≤ i) ls w.6))
  short (dictionaries t u m ks l) w = all_masked IsShort tt m _ (keys_short ks (denote l) (short l w.5))

  short_rows : (n : ℕ) (ls : Layouts) → AllWellFormed ls → AllByRecursion AreShort (rows n ls)
  short_rows n no_layouts w = all_replicate AreShort n no_slots tt
  short_rows n (child l ls) w = column_short (denote l) (rows n ls) (short l w.0) (short_rows n ls w.1)

  short_columns : (ls : Layouts) → AllWellFormed ls → AllByRecursion (AllByRecursion IsShort) (columns ls)
  short_columns no_layouts w = tt
  short_columns (child l ls) w = (short l w.0, short_columns ls w.1)

-- ---- the slot at a position

short_at : (l : Layout) (i : ℕ) → WellFormed l → IsShort (slot_at l i)
unfolding slot_at
short_at l i w = get_short (denote l) i (short l w)

all_have : (P : Slot → Type 0) (xs : List Slot) (i : ℕ) → AllByRecursion P xs → i < length xs → P (get_or xs i null)
all_have P [] i h b = absurd (omega (arith, b))
all_have P (x ∷ xs) zero h b = h.0
all_have P (x ∷ xs) (suc i) h b = all_have P xs i h.1 (omega (arith, b))

of_type : (l : Layout) (i : ℕ) → WellFormed l → i < length_of l → IsSlot (type_of l) (slot_at l i)
unfolding slot_at
of_type l i w h = all_have (IsSlot (type_of l)) (denote l) i (conforms l w) (omega (arith, h, length-denote l w))

pub slots_told : (l r : Layout) (i j : ℕ) → WellFormed l → WellFormed r → type_of l ≡ type_of r → i < length_of l → j < length_of r → (slot_bytes (slot_at l i) ≡ slot_bytes (slot_at r j)) ↔ (slot_at l i ≡ slot_at r j)
slots_told l r i j w v e h k =
    spelled_one (type_of r) (slot_at l i) (slot_at r j) (subst (λ t. IsSlot t (slot_at l i)) e (of_type l i w h)) (of_type r j v k) (short_at l i w) (short_at r j v)

pub none_longer : (l r : Layout) (i j : ℕ) → WellFormed l → WellFormed r → type_of l ≡ type_of r → i < length_of l → j < length_of r → (more : List ℕ) → slot_bytes (slot_at l i) ++ more ≡ slot_bytes (slot_at r j) → more ≡ []
none_longer l r i j w v e h k more s =
    no_prefix (type_of r) (slot_at l i) (slot_at r j) (subst (λ t. IsSlot t (slot_at l i)) e (of_type l i w h)) (of_type r j v k) (short_at l i w) (short_at r j v) more s
