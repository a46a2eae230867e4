-- What contracts say of arrays of fixed-size lists.
use Rattle.arrow_meaning.specs.Nodes.{list_size}
use Rattle.std.specs.Prelude.{◌≡◌, ℕ, zero, suc, ◌+◌, ◌*◌, ◌/◌, ◌%◌, ◌<◌, List, [], ◌∷◌, Option, ⊤}
use Rattle.arrow_buffers.specs.Bits.{Bits}
use Rattle.arrow_types.specs.TypeData.{TypeData}
use Rattle.arrow_types.specs.declared.error.PolarsError.{PolarsError}
use Rattle.arrow_types.specs.declared.error.PolarsError.TheVariants.{ComputeError, OutOfMemory}
use Rattle.arrow_types.specs.declared.error.Reason.{Reason}
use Rattle.arrow_types.specs.declared.error.Reason.TheVariants.{ChildTypeDiffers, LengthDiffers, MaskLength, NotMultiple, WrongLogicalType, ZeroWidthValues}
use Rattle.arrow_flat.specs.Primitives.{MaskHasLength, masked_values}
use Rattle.arrow_layout.specs.Cut.{cut}
use Rattle.arrow_layout.specs.Denote.{validity_of}
use Rattle.arrow_layout.specs.Forms.{Form, fixed_size_lists_of, form_of}
use Rattle.arrow_layout.specs.Layouts.{Layout, fixed_size_lists, length_of, type_of}
use Rattle.arrow_layout.specs.Paths.{child_at}

-- The size of a list that a type of fixed-size lists declares, 0 for another type.
abbrev pub size_by : Form → ℕ
size_by (fixed_size_lists_of k u) = k
size_by _ = 0

-- n parts of k slots each, from slot o on.
abbrev pub cuts : Layout → ℕ → ℕ → ℕ → List Layout
cuts l k zero o = []
cuts l k (suc n) o = cut l o k ∷ cuts l k n (o + k)

-- The list of each slot with the mask left aside, as a part of the child.
abbrev pub values_of : Layout → List Layout
values_of l = cuts (child_at 0 l) (list_size l) (length_of l) 0

-- The same under the mask.
abbrev pub slots : Layout → List (Option Layout)
slots l = masked_values (validity_of l) (values_of l)

-- What n lists over a child keep: the type's items have the child's type, the child has the slots
-- of all lists, and a mask has one bit a list.
pub record PartsFit (t : TypeData) (n : ℕ) (l : Layout) (m : Option Bits) : Type 0 where
  pub items : form_of t ≡ fixed_size_lists_of (size_by (form_of t)) (type_of l)
  pub whole : length_of l ≡ n * size_by (form_of t)
  pub fits : MaskHasLength m n

-- Why parts are refused: the first test that fails.
abbrev pub RefusedAt : Reason → Form → ℕ → Layout → Option Bits → Type 0
RefusedAt WrongLogicalType (fixed_size_lists_of k u) n l m = ⊥
RefusedAt WrongLogicalType f n l m = ⊤
RefusedAt ChildTypeDiffers (fixed_size_lists_of k u) n l m = u ≡ type_of l → ⊥
RefusedAt NotMultiple (fixed_size_lists_of k u) n l m =
    (u ≡ type_of l) × (0 < k) × (length_of l % k ≡ 0 → ⊥)
RefusedAt LengthDiffers (fixed_size_lists_of k u) n l m =
    (u ≡ type_of l) × (0 < k) × (length_of l % k ≡ 0) × (length_of l / k ≡ n → ⊥)
RefusedAt ZeroWidthValues (fixed_size_lists_of k u) n l m =
    (u ≡ type_of l) × (k ≡ 0) × (0 < length_of l)
RefusedAt MaskLength (fixed_size_lists_of k u) n l m =
    (u ≡ type_of l) × (length_of l ≡ n * k) × (MaskHasLength m n → ⊥)
RefusedAt _ f n l m = ⊥

abbrev pub Refused : PolarsError → TypeData → ℕ → Layout → Option Bits → Type 0
Refused (ComputeError reason) t n l m = RefusedAt reason (form_of t) n l m
Refused OutOfMemory t n l m = ⊤
Refused _ t n l m = ⊥
