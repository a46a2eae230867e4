-- Growables of nulls.
use Rattle.std.specs.Prelude.{◌≡◌, ◌<◌, ◌^◌, ℕ, Bool, true, false, [], Some}
use Rattle.arrow_types.specs.TypeData.{TypeData}
use Rattle.arrow_types.specs.Types.{physical_of}
use Rattle.arrow_types.specs.declared.datatype.PhysicalType.TheVariants as physical
use Rattle.arrow_grow_flat.specs.Grown.{Grown, nulls_by}

-- One that has grown n nulls.
abbrev pub null_grown : TypeData → ℕ → Bool → Grown
null_grown t n failed = record { dtype = t; arrays = []; slots = nulls_by n; takes_nulls = true; failed = failed }

-- One as it is made.
abbrev pub fresh_nulls : TypeData → Grown
fresh_nulls t = record { dtype = t; arrays = []; slots = []; takes_nulls = true; failed = false }

-- What it keeps.
pub record AreNulls (t : TypeData) (n : ℕ) : Type 0 where
  pub stored : physical_of t ≡ Some physical.Null
  pub count : n < 2 ^ 64
