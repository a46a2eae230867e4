-- What a builder of values that stand for one slot each stands for.
use Rattle.std.specs.Prelude.{true, ℤ, List, map, None}
use Rattle.std.specs.Option.{unwrap_or}
use Rattle.arrow_types.specs.Seen.{seen}
use Rattle.arrow_types.specs.TypeData.{TypeData}
use Rattle.arrow_types.specs.TypeData as T
use Rattle.arrow_types.specs.Types.{primitive_type}
use Rattle.arrow_types.specs.declared.datatype.ArrowDataType.{ArrowDataType}
use Rattle.arrow_types.specs.declared.datatype.PrimitiveType.{PrimitiveType}
use Rattle.arrow_flat.specs.Slots.{Slot, num}
use Rattle.arrow_flat.specs.Built.{Built}

-- What a contract sees of a builder of values without nulls: the type, and the values.
pub record TypedValues (A : Type 0) : Type 0 where
  pub dtype : ArrowDataType
  pub values : List A

module _ {A : Type 0} where
  -- Nothing is refused.
  abbrev pub built_of : (A → Slot) → TypedValues A → Built
  built_of f b = record {
    dtype = seen b.dtype;
    slots = map f b.values;
    landing = λ ys. ys;
    refusal = λ ys. None;
    whole = true;
    after_cut = λ n. record { landing = λ ys. ys; refusal = λ ys. None };
    settled = true;
  }

  -- The slot of a value by its numbers.
  abbrev pub number : (A → List ℤ) → A → Slot
  number parts x = num (parts x)

-- The type of values of one width, with no meaning beside their numbers.
abbrev pub plain_type_of : PrimitiveType → TypeData
plain_type_of p = unwrap_or (primitive_type p) T.null
