-- What the contracts say of a dimension.
use Rattle.std.specs.Prelude.{ℕ, ℤ, pos, negsuc, Result, Ok, Err}

-- the number as a dimension, where it isn't negative
abbrev pub dimension_from : ℤ → Result ℕ Unit
dimension_from (pos n) = Ok n
dimension_from (negsuc n) = Err tt
