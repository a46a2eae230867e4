-- Which counts of slots that say nothing a type's arrays can have.
use Rattle.std.specs.Prelude.{ℕ, zero, suc, ◌*◌, ◌^◌, ◌<◌, ◌≤◌, ⊤}
use Rattle.arrow_types.specs.Select.{select, first_number}
use Rattle.arrow_types.specs.TypeData.{TypeData, FieldList, no_fields, and_field}
use Rattle.arrow_types.specs.TypeData as T
use Rattle.arrow_types.specs.declared.datatype.UnionMode.TheVariants.{Dense, Sparse}
use Rattle.arrow_layout.specs.NullLayout.{one_if_any}

-- At every depth a usize holds the length of a fixed-size list's child and the bytes of fixed-size values, and a dense
-- union has at most 2 ^ 31 slots.
abbrev mutual
  pub NullsFit : TypeData → ℕ → Type 0
  NullsFit (T.fixed_size_binary k) n = n * k < 2 ^ 64
  NullsFit (T.fixed_size_list (T.field a t b m) k) n = (n * k < 2 ^ 64) × NullsFit t (n * k)
  NullsFit (T.struct fs) n = AllNullsFit fs n
  NullsFit (T.union fs ids Sparse) n = AllNullsFit fs n
  NullsFit (T.union fs ids Dense) n = (n ≤ 2 ^ 31) × SelectedNullsFit fs (select ids (first_number ids)) n
  NullsFit (T.dictionary k t o) n = NullsFit t (one_if_any n)
  NullsFit (T.extension e t m) n = NullsFit t n
  NullsFit _ n = ⊤

  -- n slots of each field
  pub AllNullsFit : FieldList → ℕ → Type 0
  AllNullsFit no_fields n = ⊤
  AllNullsFit (and_field (T.field a t b m) fs) n = NullsFit t n × AllNullsFit fs n

  -- n slots of the field at the position
  pub SelectedNullsFit : FieldList → ℕ → ℕ → Type 0
  SelectedNullsFit no_fields i n = ⊤
  SelectedNullsFit (and_field (T.field a t b m) fs) zero n = NullsFit t n
  SelectedNullsFit (and_field (T.field a t b m) fs) (suc i) n = SelectedNullsFit fs i n
