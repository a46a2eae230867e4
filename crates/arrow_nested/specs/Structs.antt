-- What contracts say of arrays of structs.
use Rattle.std.specs.Prelude.{◌≡◌, ℕ, Option, ⊤}
use Rattle.arrow_buffers.specs.Bits.{Bits}
use Rattle.arrow_types.specs.Carried.{count_fields}
use Rattle.arrow_types.specs.TypeData.{TypeData}
use Rattle.arrow_types.specs.declared.error.PolarsError.{PolarsError}
use Rattle.arrow_types.specs.declared.error.PolarsError.TheVariants.{ComputeError, OutOfMemory}
use Rattle.arrow_types.specs.declared.error.Reason.{Reason}
use Rattle.arrow_types.specs.declared.error.Reason.TheVariants.{ChildLength, ChildTypeDiffers, FieldCount, MaskLength, WrongLogicalType}
use Rattle.arrow_flat.specs.Primitives.{MaskHasLength}
use Rattle.arrow_layout.specs.FitsHere.{HaveLengths}
use Rattle.arrow_layout.specs.Forms.{Form, fields_by, form_of, structs_of}
use Rattle.arrow_layout.specs.Layouts.{Layouts, child_count}
use Rattle.arrow_layout.specs.WellFormed.{HaveTypes}

-- A type is one of structs.
abbrev pub AreStructs : Form → Type 0
AreStructs (structs_of fs) = ⊤
AreStructs _ = ⊥

-- What n structs over children keep: one child for each field, with the field's type and n slots,
-- and a mask has one bit a struct.
pub record PartsFit (t : TypeData) (n : ℕ) (ls : Layouts) (m : Option Bits) : Type 0 where
  pub kind : form_of t ≡ structs_of (fields_by (form_of t))
  pub types : HaveTypes (fields_by (form_of t)) ls
  pub lengths : HaveLengths (λ i. i ≡ n) ls
  pub fits : MaskHasLength m n

-- Why parts are refused: the first test that fails.
abbrev pub RefusedAt : Reason → Form → ℕ → Layouts → Option Bits → Type 0
RefusedAt WrongLogicalType (structs_of fs) n ls m = ⊥
RefusedAt WrongLogicalType f n ls m = ⊤
RefusedAt FieldCount (structs_of fs) n ls m = count_fields fs ≡ child_count ls → ⊥
RefusedAt ChildTypeDiffers (structs_of fs) n ls m =
    (count_fields fs ≡ child_count ls) × (HaveTypes fs ls → ⊥)
RefusedAt ChildLength (structs_of fs) n ls m =
    HaveTypes fs ls × (HaveLengths (λ i. i ≡ n) ls → ⊥)
RefusedAt MaskLength (structs_of fs) n ls m =
    HaveTypes fs ls × HaveLengths (λ i. i ≡ n) ls × (MaskHasLength m n → ⊥)
RefusedAt _ f n ls m = ⊥

abbrev pub Refused : PolarsError → TypeData → ℕ → Layouts → Option Bits → Type 0
Refused (ComputeError reason) t n ls m = RefusedAt reason (form_of t) n ls m
Refused OutOfMemory t n ls m = ⊤
Refused _ t n ls m = ⊥
