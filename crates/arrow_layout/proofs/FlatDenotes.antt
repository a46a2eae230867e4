-- The canonical layout of a type without children denotes the slots that it was built from.
-- ---- what each kind keeps of a valid slot
use Rattle.std.proofs.Common.{Bool, List, [], ap, arith, cond, false, flat_map, length, map, refl, replicate, true, ℕ, ℤ, ◌++◌, ◌∙◌, ◌∷◌, ◌≡◌, ◌≤◌}
use Rattle.std.proofs.lemmas.Bool.{false≢true}
use Rattle.std.proofs.lemmas.List.{length-replicate}
use Rattle.std.specs.List.{AllByRecursion}
use Rattle.std.specs.Prelude.{⊤}
use Rattle.arrow_types.specs.Select.{nat_of}
use Rattle.arrow_types.specs.TypeData.{TypeData}
use Rattle.arrow_types.specs.declared.datatype.PrimitiveType.{PrimitiveType}
use Rattle.arrow_flat.specs.Numbers.{zeros}
use Rattle.arrow_flat.specs.Packs.{pack, packed_views, view_limit}
use Rattle.arrow_flat.specs.Slots.{Slot, bool, bytes, chosen, items, null, num, parts}
use Rattle.arrow_flat.specs.Views.{is_short, longs, view_bytes}
use Rattle.arrow_layout.specs.Canon.{boolean_of, bytes_or, flat_canon, mask_of, numbers_or, offsets}
use Rattle.arrow_layout.specs.Denote.{denote, masked}
use Rattle.arrow_flat.specs.Pieces.{chunks, pieces}
use Rattle.arrow_layout.specs.Forms.{Form, binaries_of, booleans_of, fixed_size_binaries_of, nulls_of, primitives_of, views_of}
use Rattle.arrow_layout.specs.SlotsOf.{IsBinarySlot, IsBooleanSlot, IsFixedBinarySlot, IsFlatSlot, IsNullSlot, IsNumberSlot, IsViewSlot}
use Rattle.arrow_flat.proofs.Lists.{all_map, all_weaker, map-map}
use Rattle.arrow_layout.proofs.Masks.{Keeps, masked_map}
use Rattle.arrow_flat.proofs.PackedReads.{packed_reads}
use Rattle.arrow_layout.proofs.Pieces.{chunks_joined, pieces_joined}

pub keeps_boolean : (x : Slot) → IsBooleanSlot x → Keeps (λ y. bool (boolean_of y)) x
keeps_boolean null h e = absurd (false≢true e)
keeps_boolean (bool z) h e = refl
keeps_boolean _ h e = absurd h

pub keeps_number : (p : PrimitiveType) (d : List ℤ) (x : Slot) → IsNumberSlot p x → Keeps (λ y. num (numbers_or d y)) x
keeps_number p d null h e = absurd (false≢true e)
keeps_number p d (num zs) h e = refl
keeps_number p d _ h e = absurd h

-- a null or bytes
abbrev pub IsSomeBytes : Slot → Type 0
IsSomeBytes null = ⊤
IsSomeBytes (bytes bs) = ⊤
IsSomeBytes _ = ⊥

pub keeps_bytes : (d : List ℕ) (x : Slot) → IsSomeBytes x → Keeps (λ y. bytes (bytes_or d y)) x
keeps_bytes d null h e = absurd (false≢true e)
keeps_bytes d (bytes bs) h e = refl
keeps_bytes d _ h e = absurd h

pub binary_bytes : (text : Bool) (x : Slot) → IsBinarySlot text x → IsSomeBytes x
binary_bytes text null h = tt
binary_bytes text (bytes bs) h = tt
binary_bytes text _ h = absurd h

pub fixed_bytes : (k : ℕ) (x : Slot) → IsFixedBinarySlot k x → IsSomeBytes x
fixed_bytes k null h = tt
fixed_bytes k (bytes bs) h = tt
fixed_bytes k _ h = absurd h

pub view_some_bytes : (text : Bool) (x : Slot) → IsViewSlot text x → IsSomeBytes x
view_some_bytes text null h = tt
view_some_bytes text (bytes bs) h = tt
view_some_bytes text _ h = absurd h

pub fixed_binary_length : (k : ℕ) (x : Slot) → IsFixedBinarySlot k x → length (bytes_or (replicate k 0) x) ≡ k
fixed_binary_length k null h = length-replicate k 0
fixed_binary_length k (bytes bs) h = h.1
fixed_binary_length k _ h = absurd h

pub view_fits : (text : Bool) (x : Slot) → IsViewSlot text x → length (bytes_or [] x) ≤ view_limit
view_fits text null h = omega arith
view_fits text (bytes bs) h = omega (arith, h.2)
view_fits text _ h = absurd h

pub longs_all : (P : List ℕ → Type 0) (vs : List (List ℕ)) → AllByRecursion P vs → AllByRecursion P (longs vs)
longs_all P [] h = tt
longs_all P (v ∷ vs) h = by (is_short v) (longs_all P vs h.1) where
  by : (s : Bool) → AllByRecursion P (longs vs) → AllByRecursion P (cond s [] (v ∷ []) ++ longs vs)
  by true k = k
  by false k = (h.0, k)

-- ---- each kind

nulls_case : (s : List Slot) → AllByRecursion IsNullSlot s → replicate (length s) null ≡ s
nulls_case [] h = refl
nulls_case (null ∷ s) h = ap (λ ys. null ∷ ys) (nulls_case s h.1)
nulls_case (bool z ∷ s) h = absurd h.0
nulls_case (num z ∷ s) h = absurd h.0
nulls_case (bytes z ∷ s) h = absurd h.0
nulls_case (items z ∷ s) h = absurd h.0
nulls_case (parts z ∷ s) h = absurd h.0
nulls_case (chosen t z ∷ s) h = absurd h.0

booleans_case : (s : List Slot) → AllByRecursion IsBooleanSlot s → masked (mask_of s) (map bool (map boolean_of s)) ≡ s
booleans_case s h = rw (map-map bool boolean_of s) (masked_map (λ y. bool (boolean_of y)) s (all_weaker _ _ keeps_boolean s h))

numbers_case : (p : PrimitiveType) (s : List Slot) → AllByRecursion (IsNumberSlot p) s → masked (mask_of s) (map num (map (numbers_or (zeros p)) s)) ≡ s
numbers_case p s h =
    rw (map-map num (numbers_or (zeros p)) s) (masked_map (λ y. num (numbers_or (zeros p) y)) s (all_weaker _ _ (keeps_number p (zeros p)) s h))

bytes_case : (s : List Slot) → AllByRecursion IsSomeBytes s
    → masked (mask_of s) (map bytes (pieces (map nat_of (offsets (map (λ x. length (bytes_or [] x)) s))) (flat_map (bytes_or []) s))) ≡ s
bytes_case s h =
    rw (pieces_joined (bytes_or []) s, map-map bytes (bytes_or []) s) (masked_map (λ y. bytes (bytes_or [] y)) s (all_weaker _ _ (keeps_bytes []) s h))

fixed_case : (k : ℕ) (s : List Slot) → AllByRecursion (IsFixedBinarySlot k) s
    → masked (mask_of s) (map bytes (chunks k (length s) (flat_map (bytes_or (replicate k 0)) s))) ≡ s
fixed_case k s h =
    let d : List ℕ = replicate k 0 in
    rw (chunks_joined k (bytes_or d) s (all_weaker _ _ (fixed_binary_length k) s h), map-map bytes (bytes_or d) s)
    (masked_map (λ y. bytes (bytes_or d y)) s (all_weaker _ _ (λ x q. keeps_bytes d x (fixed_bytes k x q)) s h))

-- the values of a column of views fit into a buffer
pub views_fit : (text : Bool) (s : List Slot) → AllByRecursion (IsViewSlot text) s → AllByRecursion (λ v. length v ≤ view_limit) (map (bytes_or []) s)
views_fit text s h = all_map (IsViewSlot text) (λ v. length v ≤ view_limit) (bytes_or []) (view_fits text) s h

views_case : (text : Bool) (s : List Slot) → AllByRecursion (IsViewSlot text) s
    → masked (mask_of s) (map bytes (map (view_bytes (pack view_limit (longs (map (bytes_or []) s)))) (packed_views view_limit (map (bytes_or []) s)))) ≡ s
views_case text s h =
    let vs = map (bytes_or []) s in
    ap (λ us. masked (mask_of s) (map bytes us)) (packed_reads view_limit vs (longs_all _ vs (views_fit text s h)))
    ∙ rw (map-map bytes (bytes_or []) s) (masked_map (λ y. bytes (bytes_or [] y)) s (all_weaker _ _ (λ x q. keeps_bytes [] x (view_some_bytes text x q)) s h))

none_case : (s : List Slot) → AllByRecursion (λ x. ⊥) s → replicate (length s) null ≡ s
none_case [] h = refl
none_case (x ∷ s) h = absurd h.0

pub flat_denotes : (t : TypeData) (f : Form) (s : List Slot) → AllByRecursion (IsFlatSlot f) s → denote (flat_canon t f s) ≡ s
flat_denotes t nulls_of s h = nulls_case s h
flat_denotes t booleans_of s h = booleans_case s h
flat_denotes t (primitives_of p) s h = numbers_case p s h
flat_denotes t (binaries_of large text) s h = bytes_case s (all_weaker _ _ (binary_bytes text) s h)
flat_denotes t (fixed_size_binaries_of k) s h = fixed_case k s h
flat_denotes t (views_of text) s h = views_case text s h
flat_denotes t _ s h = none_case s h
