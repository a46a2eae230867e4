-- Null types, and the builder of nulls.
use Rattle.std.proofs.Common.{◌≡◌, ℕ, ◌<◌, ◌≤◌, ◌^◌, Some, refl, sym}
use Rattle.std.proofs.lemmas.List.{take-replicate}
use Rattle.arrow_flat.specs.Built.{IsCutTo}
use Rattle.arrow_flat.specs.Slots.{null}
use Rattle.arrow_layout.specs.Forms.{form_of, nulls_of}
use Rattle.arrow_layout.specs.Layouts.{nulls}
use Rattle.arrow_layout.specs.WellFormed.{WellFormed}
use Rattle.arrow_nested.specs.Nulls.{nulls_built}
use Rattle.arrow_types.specs.Carried.{IsCarried}
use Rattle.arrow_types.specs.TypeData.{TypeData}
use Rattle.arrow_types.specs.declared.datatype.ArrowDataType.{ArrowDataType}
use Rattle.arrow_types.specs.TypeData as T
use Rattle.arrow_types.specs.Types.{physical_of}
use Rattle.arrow_types.specs.declared.datatype.IntervalUnit.TheVariants.{YearMonth, DayTime, MonthDayNano}
use Rattle.arrow_types.specs.declared.datatype.PhysicalType.TheVariants as physical

null_type : (t : TypeData) → physical_of t ≡ Some physical.Null → (form_of t ≡ nulls_of) × IsCarried t
null_type T.null e = (refl, tt)
null_type (T.extension n t m) e = null_type t e
null_type (T.interval YearMonth) e = cc
null_type (T.interval DayTime) e = cc
null_type (T.interval MonthDayNano) e = cc
null_type _ e = cc

pub nulls_fit : (t : TypeData) (n : ℕ) → physical_of t ≡ Some physical.Null → n < 2 ^ 64 → WellFormed (nulls t n)
nulls_fit t n e h = let known = null_type t e in record { carried = known.1; of_form = known.0; mask = tt; count = h }

pub cut_nulls : (t : ArrowDataType) (n k : ℕ) → k ≤ n → IsCutTo k (nulls_built record { dtype = t; length = n }) (nulls_built record { dtype = t; length = k })
cut_nulls t n k h = record {
  slots_are = sym (take-replicate k n null h);
  same_type = refl;
  still_whole = λ w. w;
  still_settled = λ w. w;
  later = record { same_landing = λ ys. refl; same_refusal = λ ys. refl };
  cuts = λ j q. record { same_landing = λ ys. refl; same_refusal = λ ys. refl };
}
