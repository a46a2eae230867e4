-- Which types columns can store: none with a floating-point number, a decimal of 256 bits or an unknown type at any depth.
use Rattle.std.specs.Prelude.{⊤}
use Rattle.arrow_types.specs.TypeData.{TypeData, FieldList, no_fields, and_field}
use Rattle.arrow_types.specs.TypeData as T

abbrev mutual
  pub IsStorable : TypeData → Type 0
  IsStorable T.float16 = ⊥
  IsStorable T.float32 = ⊥
  IsStorable T.float64 = ⊥
  IsStorable (T.decimal256 p s) = ⊥
  IsStorable T.unknown = ⊥
  IsStorable (T.list (T.field n t b m)) = IsStorable t
  IsStorable (T.large_list (T.field n t b m)) = IsStorable t
  IsStorable (T.fixed_size_list (T.field n t b m) k) = IsStorable t
  IsStorable (T.struct fs) = AreStorable fs
  IsStorable (T.map (T.field n t b m) o) = IsStorable t
  IsStorable (T.union fs ids mode) = AreStorable fs
  IsStorable (T.dictionary k t o) = IsStorable t
  IsStorable (T.extension n t m) = IsStorable t
  IsStorable _ = ⊤

  pub AreStorable : FieldList → Type 0
  AreStorable no_fields = ⊤
  AreStorable (and_field (T.field n t b m) fs) = IsStorable t × AreStorable fs
