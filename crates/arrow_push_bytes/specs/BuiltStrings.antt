-- What builders of binary values and of strings stand for.
use Rattle.std.specs.Prelude.{ℕ, true, List, map, take, Option}
use Rattle.arrow_buffers.specs.Bits.{Bits}
use Rattle.arrow_types.specs.TypeData.{TypeData}
use Rattle.arrow_types.specs.declared.datatype.ArrowDataType.{ArrowDataType}
use Rattle.arrow_types.specs.declared.error.PolarsError.{PolarsError}
use Rattle.arrow_flat.specs.Slots.{Slot, bytes}
use Rattle.arrow_flat.specs.Built.{Built}

-- What a contract sees of a builder of binary values or of strings: the type, and the bytes of each value.
pub record TypedStrings : Type 0 where
  pub dtype : ArrowDataType
  pub strings : List (List ℕ)

-- The values as they were pushed, after which R says what more are refused with.
abbrev pub built_strings : (List (List ℕ) → List Slot → Option PolarsError) → TypeData → List (List ℕ) → Built
built_strings R t xs = record {
  dtype = t;
  slots = map bytes xs;
  landing = λ ys. ys;
  refusal = R xs;
  whole = true;
  after_cut = λ n. record { landing = λ ys. ys; refusal = R (take n xs) };
  settled = true;
}
