-- How deep the spelling of a type nests.
use Rattle.std.proofs.Common.{◌≡◌, ◌<◌, ◌≤◌, ◌*◌, max, ℕ, List, [], ◌∷◌, refl, ap, suc, Option, Some, None, arith}
use Rattle.std.specs.Prelude.{ℤ, map}
use Rattle.serde_json.specs.Data.{number, object, depth, items_depth, members_depth}
use Rattle.serde_json.specs.Find.{of_integer}
use Rattle.serde_json.specs.View.{items_of}
use Rattle.arrow_types.specs.Depth.{depth_of, field_depth, fields_depth}
use Rattle.arrow_types.specs.TypeData.{TypeData, FieldData, FieldList, no_fields, and_field, Entries}
use Rattle.arrow_types.specs.TypeData as T
use Rattle.type_json.specs.TypeJson.{text_value, ids_value, metadata_value, type_value, field_value, fields_value, IsMap, IsSpelled, FieldIsSpelled, AreSpelled}
use Rattle.type_json.proofs.MapBack.{members_from, with_entries_sorted}
use Rattle.type_json.proofs.TypeWritten.{members_flat}

text_flat : (o : Option (List ℕ)) → depth (text_value o) ≡ 0
text_flat None = refl
text_flat (Some s) = refl

numbers_flat : (zs : List ℤ) → items_depth (items_of (map (λ z. number (of_integer z)) zs)) ≡ 0
numbers_flat [] = refl
numbers_flat (z ∷ zs) = ap (max 0) (numbers_flat zs)

ids_shallow : (o : Option (List ℤ)) → depth (ids_value o) ≤ 1
ids_shallow None = omega arith
ids_shallow (Some zs) = let flat = numbers_flat zs in omega (arith, flat)

metadata_shallow : (m : Option Entries) → IsMap m → depth (metadata_value m) ≤ 1
metadata_shallow None h = omega arith
metadata_shallow (Some es) h =
    let same : depth (metadata_value (Some es)) ≡ suc (members_depth (members_from es)) = ap (λ ms. depth (object ms)) (with_entries_sorted [] es h) in
    let flat = members_flat es in omega (arith, same, flat)

mutual
  -- less than three levels for each of the type's
  pub type_depth : (t : TypeData) → IsSpelled t → depth (type_value t) < 3 * depth_of t
  type_depth T.null h = omega arith
  type_depth T.boolean h = omega arith
  type_depth T.int8 h = omega arith
  type_depth T.int16 h = omega arith
  type_depth T.int32 h = omega arith
  type_depth T.int64 h = omega arith
  type_depth T.int128 h = omega arith
  type_depth T.uint8 h = omega arith
  type_depth T.uint16 h = omega arith
  type_depth T.uint32 h = omega arith
  type_depth T.uint64 h = omega arith
  type_depth T.float16 h = absurd h
  type_depth T.float32 h = absurd h
  type_depth T.float64 h = absurd h
  type_depth (T.timestamp u z) h = let flat = text_flat z in omega (arith, flat)
  type_depth T.date32 h = omega arith
  type_depth T.date64 h = omega arith
  type_depth (T.time32 u) h = omega arith
  type_depth (T.time64 u) h = omega arith
  type_depth (T.duration u) h = omega arith
  type_depth (T.interval i) h = omega arith
  type_depth T.binary h = omega arith
  type_depth (T.fixed_size_binary n) h = omega arith
  type_depth T.large_binary h = omega arith
  type_depth T.utf8 h = omega arith
  type_depth T.large_utf8 h = omega arith
  type_depth T.binary_view h = omega arith
  type_depth T.utf8_view h = omega arith
  type_depth (T.list f) h = let part = field_deep f h in omega (arith, part)
  type_depth (T.large_list f) h = let part = field_deep f h in omega (arith, part)
  type_depth (T.fixed_size_list f n) h = let part = field_deep f h.1 in omega (arith, part)
  type_depth (T.struct fs) h = let parts = fields_deep fs h in omega (arith, parts)
  type_depth (T.map f o) h = let part = field_deep f h in omega (arith, part)
  type_depth (T.union fs is m) h = let parts = fields_deep fs h.1 in let ids = ids_shallow is in omega (arith, parts, ids)
  type_depth (T.dictionary k t o) h = let part = type_depth t h in omega (arith, part)
  type_depth (T.decimal p s) h = omega arith
  type_depth (T.decimal256 p s) h = absurd h
  type_depth (T.extension n t m) h = let part = type_depth t h in let flat = text_flat m in omega (arith, part, flat)
  type_depth T.unknown h = absurd h

  field_deep : (f : FieldData) → FieldIsSpelled f → depth (field_value f) ≤ 3 * field_depth f
  field_deep (T.field n t b m) h = let part = type_depth t h.0 in let entries = metadata_shallow m h.1 in omega (arith, part, entries)

  fields_deep : (fs : FieldList) → AreSpelled fs → items_depth (fields_value fs) ≤ 3 * fields_depth fs
  fields_deep no_fields h = omega arith
  fields_deep (and_field f fs) h = let first = field_deep f h.0 in let rest = fields_deep fs h.1 in omega (arith, first, rest)
