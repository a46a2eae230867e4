-- What the contracts say of a dimension that may be left open.
use Rattle.std.specs.Prelude.{ℕ, ◌+◌, List, Option, Some, None, codes}
use Rattle.std.specs.Prelude.{ℤ, pos, negsuc}
use Rattle.std.specs.Fmt.{decimal}
use Rattle.arrow_types.specs.declared.reshape.ReshapeDimension.{ReshapeDimension}
use Rattle.arrow_types.specs.declared.reshape.ReshapeDimension.TheVariants.{Infer, Specified}

-- a negative number leaves the dimension open
abbrev pub reshape_of : ℤ → ReshapeDimension
reshape_of (pos n) = Specified n
reshape_of (negsuc n) = Infer

-- the number, where it is given
abbrev pub number_of : ReshapeDimension → Option ℕ
number_of Infer = None
number_of (Specified d) = Some d

-- one number for each dimension: 0 where it is left open
abbrev pub repr_of : ReshapeDimension → ℕ
repr_of Infer = 0
repr_of (Specified d) = d + 1

abbrev pub dimension_text : ReshapeDimension → List ℕ
dimension_text Infer = codes "inferred"
dimension_text (Specified d) = decimal d
