-- How many types stand in a type, itself counted, and extensions left aside.
use Rattle.std.specs.Prelude.{◌≡◌, ℕ, suc, ◌+◌, ◌≤◌, List, [], ◌∷◌}
use Rattle.std.proofs.Common.{arith}
use Rattle.arrow_types.specs.TypeData.{TypeData, FieldList, no_fields, and_field}
use Rattle.arrow_types.specs.TypeData as T
use Rattle.arrow_layout.specs.Forms.{form_of}
use Rattle.arrow_growable.specs.Columns.{child_types, field_types}

abbrev mutual
  pub type_nodes : TypeData → ℕ
  type_nodes (T.list (T.field n t b m)) = suc (type_nodes t)
  type_nodes (T.large_list (T.field n t b m)) = suc (type_nodes t)
  type_nodes (T.map (T.field n t b m) o) = suc (type_nodes t)
  type_nodes (T.fixed_size_list (T.field n t b m) k) = suc (type_nodes t)
  type_nodes (T.struct fs) = suc (field_nodes fs)
  type_nodes (T.union fs ids mode) = suc (field_nodes fs)
  type_nodes (T.dictionary k t o) = suc (type_nodes t)
  type_nodes (T.extension n t m) = type_nodes t
  type_nodes _ = 1

  pub field_nodes : FieldList → ℕ
  field_nodes no_fields = 0
  field_nodes (and_field (T.field n t b m) fs) = type_nodes t + field_nodes fs

abbrev pub types_nodes : List TypeData → ℕ
types_nodes [] = 0
types_nodes (t ∷ ts) = type_nodes t + types_nodes ts

fields_are : (fs : FieldList) → types_nodes (field_types fs) ≡ field_nodes fs
fields_are no_fields = omega arith
fields_are (and_field (T.field n t b m) fs) = omega (arith, fields_are fs)

pub types_fall : (t : TypeData) → types_nodes (child_types (form_of t)) + 1 ≤ type_nodes t
types_fall (T.list (T.field n t b m)) = omega arith
types_fall (T.large_list (T.field n t b m)) = omega arith
types_fall (T.map (T.field n t b m) o) = omega arith
types_fall (T.fixed_size_list (T.field n t b m) k) = omega arith
types_fall (T.struct fs) = omega (arith, fields_are fs)
types_fall (T.union fs ids mode) = omega (arith, fields_are fs)
types_fall (T.dictionary k t o) = omega arith
types_fall (T.extension n t m) = types_fall t
types_fall _ = omega arith
