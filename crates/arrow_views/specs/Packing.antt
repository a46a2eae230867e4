-- How one value more is packed.
use Rattle.std.specs.Prelude.{ℕ, ◌+◌, ◌-◌, nat_le, nat_lt, Bool, ◌&&◌, cond, List, [], ◌∷◌, ◌++◌, length, get_or, slice_set}
use Rattle.arrow_flat.specs.Views.{View, is_short}
use Rattle.arrow_flat.specs.Packs.{view_after}

-- the most bytes that a buffer has, and the buffers so far
pub record Packing : Type 0 where
  pub limit : ℕ
  pub buffers : List (List ℕ)

abbrev pub last_of : List (List ℕ) → List ℕ
last_of buffers = get_or buffers (length buffers - 1) []

-- The last buffer and its end; before the first buffer the start of the first one.
abbrev pub packed_end : List (List ℕ) → ℕ × ℕ
packed_end buffers = (length buffers - 1, length (last_of buffers))

-- A value of n bytes goes into the last buffer.
abbrev pub goes_on : ℕ → List (List ℕ) → ℕ → Bool
goes_on limit buffers n = nat_lt 0 (length buffers) && nat_le (length (last_of buffers) + n) limit

abbrev pub packed_on : ℕ → List (List ℕ) → List ℕ → List (List ℕ)
packed_on limit buffers value =
    cond (goes_on limit buffers (length value)) (slice_set buffers (length buffers - 1) (last_of buffers ++ value)) (buffers ++ value ∷ [])

-- The view of the value there.
abbrev pub packed_view : ℕ → List (List ℕ) → List ℕ → View
packed_view limit buffers value = view_after limit (packed_end buffers).0 (packed_end buffers).1 value

-- The packer with one value more of more than twelve bytes, and with any value more.
abbrev pub packed_more : Packing → List ℕ → Packing
packed_more p value = record { limit = p.limit; buffers = packed_on p.limit p.buffers value }

abbrev pub packed_after : Packing → List ℕ → Packing
packed_after p value =
    record { limit = p.limit; buffers = cond (is_short value) p.buffers (packed_on p.limit p.buffers value) }
