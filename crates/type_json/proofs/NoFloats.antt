-- The spelling of a type has no float.
use Rattle.std.proofs.Common.{◌≡◌, ℕ, List, [], ◌∷◌, refl, ap, ◌∙◌, Option, Some, None, Ordering, Less, Equal, Greater, true, false}
use Rattle.std.specs.Prelude.{ℤ, pos, negsuc, map, Bool, ◌||◌}
use Rattle.std.proofs.lemmas.Bool.{true≢false}
use Rattle.std.specs.Ordering.{match_ordering, nat_cmp}
use Rattle.std.specs.Cmp.Lexicographic.{slice_cmp}
use Rattle.serde_json.specs.Data.{Data, number, string, Members, no_members, member, put}
use Rattle.serde_json.specs.Find.{is_float, of_integer}
use Rattle.serde_json.specs.View.{items_of}
use Rattle.serde_json.specs.Written.{has_float, items_have_float, members_have_float}
use Rattle.arrow_types.specs.TypeData.{TypeData, FieldData, FieldList, no_fields, and_field, Entries}
use Rattle.arrow_types.specs.TypeData as T
use Rattle.type_json.specs.TypeJson.{text_value, ids_value, with_entries, metadata_value, type_value, field_value, fields_value}

both : (a b : Bool) → a ≡ false → b ≡ false → (a || b) ≡ false
both a b h k = ap (λ x. x || b) h ∙ k

left : (a b : Bool) → (a || b) ≡ false → a ≡ false
left true b h = h
left false b h = refl

right : (a b : Bool) → (a || b) ≡ false → b ≡ false
right true b h = absurd (true≢false h)
right false b h = h

-- ---- texts at keys

put_at : (o : Ordering) (k s l : List ℕ) (e : Data) (ms : Members) → members_have_float (member l e ms) ≡ false → members_have_float (put k (string s) ms) ≡ false
    → members_have_float (match_ordering o (member k (string s) (member l e ms)) (member l (string s) ms) (member l e (put k (string s) ms))) ≡ false
put_at Less k s l e ms h r = h
put_at Equal k s l e ms h r = right (has_float e) (members_have_float ms) h
put_at Greater k s l e ms h r = both (has_float e) (members_have_float (put k (string s) ms)) (left (has_float e) (members_have_float ms) h) r

put_no_float : (k s : List ℕ) (ms : Members) → members_have_float ms ≡ false → members_have_float (put k (string s) ms) ≡ false
put_no_float k s no_members h = refl
put_no_float k s (member l e ms) h = put_at (slice_cmp nat_cmp k l) k s l e ms h (put_no_float k s ms (right (has_float e) (members_have_float ms) h))

entries_no_float : (es : Entries) (ms : Members) → members_have_float ms ≡ false → members_have_float (with_entries es ms) ≡ false
entries_no_float [] ms h = h
entries_no_float (e ∷ es) ms h = entries_no_float es (put e.0 (string e.1) ms) (put_no_float e.0 e.1 ms h)

metadata_no_float : (m : Option Entries) → has_float (metadata_value m) ≡ false
metadata_no_float None = refl
metadata_no_float (Some es) = entries_no_float es no_members refl

-- ---- ids and texts

id_no_float : (z : ℤ) → is_float (of_integer z) ≡ false
id_no_float (pos n) = refl
id_no_float (negsuc n) = refl

list_no_float : (zs : List ℤ) → items_have_float (items_of (map (λ z. number (of_integer z)) zs)) ≡ false
list_no_float [] = refl
list_no_float (z ∷ zs) = both (is_float (of_integer z)) (items_have_float (items_of (map (λ y. number (of_integer y)) zs))) (id_no_float z) (list_no_float zs)

ids_no_float : (is : Option (List ℤ)) → has_float (ids_value is) ≡ false
ids_no_float None = refl
ids_no_float (Some zs) = list_no_float zs

text_no_float : (s : Option (List ℕ)) → has_float (text_value s) ≡ false
text_no_float None = refl
text_no_float (Some s) = refl

-- ---- all levels

last : (a : Bool) → a ≡ false → (a || false) ≡ false
last a h = both a false h refl

mutual
  pub type_no_float : (t : TypeData) → has_float (type_value t) ≡ false
  type_no_float (T.timestamp u z) = last (has_float (text_value z)) (text_no_float z)
  type_no_float (T.list f) = last (has_float (field_value f)) (field_no_float f)
  type_no_float (T.large_list f) = last (has_float (field_value f)) (field_no_float f)
  type_no_float (T.fixed_size_list f n) = both (has_float (field_value f)) false (field_no_float f) refl
  type_no_float (T.struct fs) = last (items_have_float (fields_value fs)) (fields_no_float fs)
  type_no_float (T.map f o) = both (has_float (field_value f)) false (field_no_float f) refl
  type_no_float (T.union fs is m) =
      both (has_float (ids_value is)) (items_have_float (fields_value fs) || false) (ids_no_float is) (last (items_have_float (fields_value fs)) (fields_no_float fs))
  type_no_float (T.dictionary k t o) = both (has_float (type_value t)) false (type_no_float t) refl
  type_no_float (T.extension n t m) =
      both (has_float (type_value t)) (has_float (text_value m) || false) (type_no_float t) (last (has_float (text_value m)) (text_no_float m))
  type_no_float _ = refl

  field_no_float : (f : FieldData) → has_float (field_value f) ≡ false
  field_no_float (T.field n t b m) =
      both (has_float (type_value t)) (has_float (metadata_value m) || false) (type_no_float t) (last (has_float (metadata_value m)) (metadata_no_float m))

  fields_no_float : (fs : FieldList) → items_have_float (fields_value fs) ≡ false
  fields_no_float no_fields = refl
  fields_no_float (and_field f fs) = both (has_float (field_value f)) (items_have_float (fields_value fs)) (field_no_float f) (fields_no_float fs)
