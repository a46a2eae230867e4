-- What the canonical form asks of an array beside its mask and the form of its children.
use Rattle.std.specs.Prelude.{◌≡◌, ℕ, zero, suc, pred, ◌+◌, ◌<◌, true, false, List, [], map, length, get_or, nat_le, replicate, pos, Option, ⊤}
use Rattle.std.specs.List.{list_all}
use Rattle.arrow_types.specs.Select.{nat_of}
use Rattle.arrow_buffers.specs.Bits.{Bits}
use Rattle.arrow_flat.specs.Numbers.{zeros}
use Rattle.arrow_flat.specs.Packs.{AreInOrder, FollowFrom, place, view_limit}
use Rattle.arrow_flat.specs.Pieces.{chunks}
use Rattle.arrow_flat.specs.Primitives.{valid_at}
use Rattle.arrow_flat.specs.Slots.{is_valid}
use Rattle.arrow_flat.specs.Views.{View, view_length, zero_view}
use Rattle.arrow_views.specs.ViewParts.{buffer_of, offset_of}
use Rattle.arrow_layout.specs.Canon.{counts_after}
use Rattle.arrow_layout.specs.Canonical.{AllUnset, AreCounted, AreSelected, GrowsFrom, IsFlat, NoneTwice}
use Rattle.arrow_layout.specs.Denote.{denote, rows}
use Rattle.arrow_layout.specs.Forms.{fields_by, form_of, primitive_by, value_by}
use Rattle.arrow_layout.specs.Layouts.{Layout, nulls, booleans, primitives, binaries, fixed_size_binaries, views, lists, fixed_size_lists, structs, sparse_unions, dense_unions, dictionaries, length_of, type_of}
use Rattle.arrow_layout.specs.SlotsOf.{fill, fills}
use Rattle.arrow_layout.specs.WellFormed.{mask_bits, positions}

-- At the position stands what the canonical form has at a null.
abbrev pub IsZeroAt : Layout → ℕ → Type 0
IsZeroAt (booleans t m vs) i = get_or vs.bits i false ≡ false
IsZeroAt (primitives t m vs) i = get_or vs i [] ≡ zeros (primitive_by (form_of t))
IsZeroAt (fixed_size_binaries t m k n bs) i = get_or (chunks k n bs) i [] ≡ replicate k 0
IsZeroAt (views t m vs buffers) i = get_or vs i zero_view ≡ zero_view
IsZeroAt _ i = ⊤

-- So it is at each null.
abbrev pub NullsAreZero : Layout → Type 0
NullsAreZero (booleans t m vs) = AllUnset (λ b. b ≡ false) (mask_bits m (length vs.bits)) vs.bits
NullsAreZero (primitives t m vs) = AllUnset (λ v. v ≡ zeros (primitive_by (form_of t))) (mask_bits m (length vs)) vs
NullsAreZero (fixed_size_binaries t m k n bs) = AllUnset (λ v. v ≡ replicate k 0) (mask_bits m n) (chunks k n bs)
NullsAreZero (views t m vs buffers) = AllUnset (λ v. v ≡ zero_view) (mask_bits m (length vs)) vs
NullsAreZero _ = ⊤

-- The offsets don't rise over the slot, and over no null.
abbrev pub IsEmptyAt : List ℕ → ℕ → Type 0
IsEmptyAt os i = get_or os (suc i) 0 ≡ get_or os i 0

abbrev pub NullsAreEmpty : Option Bits → List ℕ → Type 0
NullsAreEmpty m os = (i : ℕ) → i < pred (length os) → valid_at m i ≡ false → IsEmptyAt os i

-- The last of the buffers ends at e; without long values there are no buffers.
abbrev pub EndsAt : List (List ℕ) → ℕ → ℕ → Type 0
EndsAt buffers b zero = buffers ≡ []
EndsAt buffers b (suc e) = (length buffers ≡ suc b) × (length (get_or buffers b []) ≡ suc e)

-- The views from the end e of buffer b on are in order; before the first long view nothing has an end.
abbrev pub RestInOrder : List (List ℕ) → ℕ → ℕ → List View → Type 0
RestInOrder buffers b zero vs = AreInOrder view_limit buffers vs
RestInOrder buffers b (suc e) vs = FollowFrom view_limit buffers b (suc e) vs

-- The long view comes next after the end e of buffer b: there, if there is room, and else at the start of the next buffer.
abbrev pub IsPlacedAt : View → ℕ × ℕ → Type 0
IsPlacedAt v p = (buffer_of v ≡ p.0) × (offset_of v ≡ p.1)

abbrev pub Follows : List (List ℕ) → ℕ → ℕ → View → Type 0
Follows buffers b e v =
    IsPlacedAt v (place view_limit b e (view_length v)) × (nat_le (e + view_length v) view_limit ≡ false → length (get_or buffers b []) ≡ e)

-- A layout with a mask that is needed and with children in canonical form is canonical where this holds.
abbrev pub HasOwnForm : Layout → Type 0
HasOwnForm (nulls t n) = ⊤
HasOwnForm (booleans t m vs) = (vs.lead ≡ 0) × NullsAreZero (booleans t m vs)
HasOwnForm (primitives t m vs) = NullsAreZero (primitives t m vs)
HasOwnForm (binaries t m os bs) = IsFlat (length bs) (map nat_of os) (mask_bits m (pred (length os)))
HasOwnForm (fixed_size_binaries t m k n bs) = NullsAreZero (fixed_size_binaries t m k n bs)
HasOwnForm (views t m vs buffers) = NullsAreZero (views t m vs buffers) × AreInOrder view_limit buffers vs
HasOwnForm (lists t m os l) = IsFlat (length_of l) (map nat_of os) (mask_bits m (pred (length os)))
HasOwnForm (fixed_size_lists t m k n l) = AllUnset (λ xs. xs ≡ replicate k (fill (type_of l))) (mask_bits m n) (chunks k n (denote l))
HasOwnForm (structs t m n ls) = AllUnset (λ r. r ≡ fills (fields_by (form_of t))) (mask_bits m n) (rows n ls)
HasOwnForm (sparse_unions t o ts ls) = (o ≡ 0) × AreSelected 0 (positions t ts) ls
HasOwnForm (dense_unions t o ts os ls) = (map nat_of os ≡ counts_after [] (positions t ts)) × AreCounted 0 (positions t ts) ls
HasOwnForm (dictionaries t u m ks l) =
    AllUnset (λ k. k ≡ pos 0) (mask_bits m (length ks)) ks × GrowsFrom (length_of l) 0 (map nat_of ks) (mask_bits m (length ks))
    × (list_all is_valid (denote l) ≡ true) × NoneTwice (denote l) × (value_by (form_of t) ≡ type_of l)
