-- How deep a type is.
use Rattle.std.specs.Prelude.{ℕ, ◌+◌, max}
use Rattle.arrow_types.specs.TypeData.{TypeData, FieldData, FieldList, no_fields, and_field}
use Rattle.arrow_types.specs.TypeData as T

abbrev mutual
  -- 1 where nothing is inside, else one more than the deepest part
  pub depth_of : TypeData → ℕ
  depth_of (T.list f) = field_depth f + 1
  depth_of (T.large_list f) = field_depth f + 1
  depth_of (T.fixed_size_list f k) = field_depth f + 1
  depth_of (T.struct fs) = fields_depth fs + 1
  depth_of (T.map f o) = field_depth f + 1
  depth_of (T.union fs is d) = fields_depth fs + 1
  depth_of (T.dictionary k t o) = depth_of t + 1
  depth_of (T.extension n t m) = depth_of t + 1
  depth_of _ = 1

  pub field_depth : FieldData → ℕ
  field_depth (T.field n t b m) = depth_of t

  -- the greatest depth of a field, 0 without fields
  pub fields_depth : FieldList → ℕ
  fields_depth no_fields = 0
  fields_depth (and_field f fs) = max (field_depth f) (fields_depth fs)
