-- Masks that grow.
use Rattle.std.specs.Prelude.{ℕ, Bool, true, List, [], ◌++◌, replicate, Option, Some, None}
use Rattle.arrow_buffers.specs.Bits.{Bits, plain}
use Rattle.arrow_layout.specs.Cut.{part}

-- The mask with more bits, where there is one.
abbrev pub more_bits : List Bool → Option (List Bool) → Option (List Bool)
more_bits bs None = None
more_bits bs (Some bits) = Some (bits ++ bs)

-- The bits of n slots from `start` on, set ones without a mask.
abbrev pub bits_in : Option Bits → ℕ → ℕ → List Bool
bits_in None start n = replicate n true
bits_in (Some b) start n = part start n b.bits

-- The mask as that of an array, with no bits before its own.
abbrev pub plain_mask : Option (List Bool) → Option Bits
plain_mask None = None
plain_mask (Some bits) = Some (plain bits)

-- The mask of no slots.
abbrev pub no_bits : Option (List Bool) → Option (List Bool)
no_bits None = None
no_bits (Some bits) = Some []
