-- The masks of arrays one after another.
use Rattle.std.specs.Prelude.{◌≡◌, ◌≤◌, ◌^◌, ℕ, nat_lt, Bool, true, false, cond, List, map, flat_map, replicate, sum, Option, Some, None, ⊤}
use Rattle.std.specs.List.{list_any}
use Rattle.arrow_types.specs.declared.error.GrowError.{GrowError}
use Rattle.arrow_types.specs.declared.error.GrowError.TheVariants as error
use Rattle.arrow_buffers.specs.Bits.{Bits, plain}
use Rattle.arrow_layout.specs.Denote.{validity_of}
use Rattle.arrow_layout.specs.Layouts.{Layout, nulls, length_of}
use Rattle.arrow_layout.specs.Masks.{null_count_of}
use Rattle.arrow_layout.specs.WellFormed.{mask_bits}

-- A bit for each slot, set where the slot isn't null by the mask; no slot of a null array is valid.
abbrev pub validity_bits : Layout → List Bool
validity_bits (nulls t n) = replicate n false
validity_bits l = mask_bits (validity_of l) (length_of l)

abbrev pub joined_bits : List Layout → List Bool
joined_bits ls = flat_map validity_bits ls

-- Whether an array has nulls.
abbrev pub some_nulls : List Layout → Bool
some_nulls ls = list_any (λ l. nat_lt 0 (null_count_of l)) ls

-- How many slots the arrays have together.
abbrev pub total_length : List Layout → ℕ
total_length ls = sum (map length_of ls)

-- None where no array has nulls, else the bits of all slots.
abbrev pub joined_validities : List Layout → Option Bits
joined_validities ls = cond (some_nulls ls) (Some (plain (joined_bits ls))) None

-- Why they aren't joined.
abbrev pub ValiditiesRefused : GrowError → List Layout → Type 0
ValiditiesRefused error.Overflow ls = (some_nulls ls ≡ true) × (2 ^ 64 ≤ total_length ls)
ValiditiesRefused error.OutOfMemory ls = ⊤
