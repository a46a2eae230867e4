-- Null arrays, and what a builder of one stands for.
use Rattle.std.specs.Prelude.{ℕ, ◌+◌, ◌^◌, true, List, [], ◌∷◌, length, replicate, nat_lt, Option, Some, None, if◌then◌else◌, ⊤}
use Rattle.arrow_flat.specs.Built.{Built}
use Rattle.arrow_flat.specs.Slots.{Slot, null}
use Rattle.arrow_meaning.specs.Nodes.{IsStoredAs}
use Rattle.arrow_layout.specs.Layouts.{Layout}
use Rattle.arrow_types.specs.Seen.{seen}
use Rattle.arrow_types.specs.declared.datatype.ArrowDataType.{ArrowDataType}
use Rattle.arrow_types.specs.declared.datatype.PhysicalType.TheVariants as physical
use Rattle.arrow_types.specs.declared.error.PolarsError.{PolarsError}
use Rattle.arrow_types.specs.declared.error.PolarsError.TheVariants.{ComputeError, OutOfMemory}
use Rattle.arrow_types.specs.declared.error.Reason.TheVariants.{LengthOverflow, WrongLogicalType}

-- Why a null array of this layout is refused.
abbrev pub NullRefused : PolarsError → Layout → Type 0
NullRefused (ComputeError WrongLogicalType) l = IsStoredAs physical.Null l → ⊥
NullRefused OutOfMemory l = ⊤
NullRefused _ l = ⊥

-- What a contract sees of a builder of a null array: the type, and the count of slots.
pub record Nulls : Type 0 where
  pub dtype : ArrowDataType
  pub length : ℕ

-- Nulls are refused where with them the slots would be more than a usize counts.
abbrev pub nulls_refusal : ℕ → List Slot → Option PolarsError
nulls_refusal n [] = None
nulls_refusal n (y ∷ ys) =
    if nat_lt (n + length (y ∷ ys)) (2 ^ 64) then None else Some (ComputeError LengthOverflow)

abbrev pub nulls_built : Nulls → Built
nulls_built b = record {
  dtype = seen b.dtype;
  slots = replicate b.length null;
  landing = λ ys. ys;
  refusal = nulls_refusal b.length;
  whole = true;
  after_cut = λ n. record { landing = λ ys. ys; refusal = nulls_refusal n };
  settled = true;
}
