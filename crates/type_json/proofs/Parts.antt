-- The items of a JSON array, as the reader of types takes them.
use Rattle.std.proofs.Common.{◌≡◌, ℕ, ◌+◌, ◌<◌, ◌≤◌, List, [], ◌∷◌, ◌++◌, length, get_or, drop, suc, zero, refl, ap, sym, ◌∙◌, arith, Option, Some, None, option_map, Vec, Global}
use Rattle.serde_json.specs.Data.{array, item, no_items, depth, items_depth}
use Rattle.std.specs.Prelude.{map}
use Rattle.serde_json.specs.View.{view, items_of, items_view}
use Rattle.serde_json.specs.declared.value.Value.{Value, Array}
use Rattle.serde_json.proofs.Views.{view-Array}
use Rattle.arrow_types.specs.TypeData.{FieldList, chained}
use Rattle.arrow_types.specs.Types.{more_fields}
use Rattle.arrow_types.specs.Seen.{seen_field, seen_fields}
use Rattle.arrow_types.specs.declared.datatype.Field.{Field}
use Rattle.arrow_types.proofs.Lists.{more_done, chained_none}
use Rattle.type_json.specs.TypeJson.{type_in, field_in, fields_list, field_value, fields_value}

-- an item is no deeper than the deepest
pub part_depth : (vs : List Value) (i : ℕ) (v : Value) → i < length vs → v ≡ get_or vs i v → depth (view v) ≤ items_depth (items_view vs)
part_depth [] i v h e = absurd (omega (arith, h))
part_depth (x ∷ vs) zero v h e = let same : depth (view v) ≡ depth (view x) = ap (λ y. depth (view y)) e in omega (arith, same)
part_depth (x ∷ vs) (suc i) v h e = let rest = part_depth vs i v (omega (arith, h)) e in omega (arith, rest)

pub four_items : (vs : List Value) (a b c d : Value) → 4 ≤ length vs → length vs < 5 → a ≡ get_or vs 0 a → b ≡ get_or vs 1 b → c ≡ get_or vs 2 c → d ≡ get_or vs 3 d
    → items_view vs ≡ item (view a) (item (view b) (item (view c) (item (view d) no_items)))
four_items [] a b c d some few ea eb ec ed = absurd (omega (arith, some))
four_items (x ∷ []) a b c d some few ea eb ec ed = absurd (omega (arith, some))
four_items (x ∷ y ∷ []) a b c d some few ea eb ec ed = absurd (omega (arith, some))
four_items (x ∷ y ∷ z ∷ []) a b c d some few ea eb ec ed = absurd (omega (arith, some))
four_items (x ∷ y ∷ z ∷ w ∷ []) a b c d some few ea eb ec ed = λ i. item (view (sym ea i)) (item (view (sym eb i)) (item (view (sym ec i)) (item (view (sym ed i)) no_items)))
four_items (x ∷ y ∷ z ∷ w ∷ u ∷ vs) a b c d some few ea eb ec ed = absurd (omega (arith, few))

-- fewer than two items, or more than four
pub too_few : (vs : List Value) → length vs < 2 → type_in (array (items_view vs)) ≡ None
too_few [] h = refl
too_few (x ∷ []) h = refl
too_few (x ∷ y ∷ vs) h = absurd (omega (arith, h))

pub too_many : (vs : List Value) → 5 ≤ length vs → type_in (array (items_view vs)) ≡ None
too_many [] h = absurd (omega (arith, h))
too_many (x ∷ []) h = absurd (omega (arith, h))
too_many (x ∷ y ∷ []) h = absurd (omega (arith, h))
too_many (x ∷ y ∷ z ∷ []) h = absurd (omega (arith, h))
too_many (x ∷ y ∷ z ∷ w ∷ []) h = absurd (omega (arith, h))
too_many (x ∷ y ∷ z ∷ w ∷ u ∷ vs) h = refl

-- a field of fewer than four items, or more
pub short_field : (vs : List Value) → length vs < 4 → field_in (array (items_view vs)) ≡ None
short_field [] h = refl
short_field (x ∷ []) h = refl
short_field (x ∷ y ∷ []) h = refl
short_field (x ∷ y ∷ z ∷ []) h = refl
short_field (x ∷ y ∷ z ∷ w ∷ vs) h = absurd (omega (arith, h))

pub long_field : (vs : List Value) → 5 ≤ length vs → field_in (array (items_view vs)) ≡ None
long_field [] h = absurd (omega (arith, h))
long_field (x ∷ []) h = absurd (omega (arith, h))
long_field (x ∷ y ∷ []) h = absurd (omega (arith, h))
long_field (x ∷ y ∷ z ∷ []) h = absurd (omega (arith, h))
long_field (x ∷ y ∷ z ∷ w ∷ []) h = absurd (omega (arith, h))
long_field (x ∷ y ∷ z ∷ w ∷ u ∷ vs) h = refl

-- ---- a list of fields, behind those read

abbrev pub behind : List Field → Option FieldList → Option FieldList
behind all o = option_map (λ rest. chained (seen_fields all) rest) o

module _ (U : Option FieldList) (vs : List Value) (all : List Field) (i : ℕ) (h : U ≡ behind all (fields_list (items_view (drop i vs)))) where
  pub kept : (v : Value) (f : Field) → drop i vs ≡ v ∷ drop (i + 1) vs → field_in (view v) ≡ Some (seen_field f) → U ≡ behind (all ++ f ∷ []) (fields_list (items_view (drop (i + 1) vs)))
  kept v f d e =
      h ∙ ap (λ l. behind all (fields_list (items_view l))) d
      ∙ ap (λ o. behind all (more_fields o (fields_list (items_view (drop (i + 1) vs))))) e
      ∙ more_done all f (fields_list (items_view (drop (i + 1) vs)))

  pub failed : (v : Value) → drop i vs ≡ v ∷ drop (i + 1) vs → field_in (view v) ≡ None → U ≡ None
  failed v d e =
      h ∙ ap (λ l. behind all (fields_list (items_view l))) d
      ∙ ap (λ o. behind all (more_fields o (fields_list (items_view (drop (i + 1) vs))))) e

  pub done : drop i vs ≡ [] → U ≡ Some (seen_fields all)
  done d = h ∙ ap (λ l. behind all (fields_list (items_view l))) d ∙ ap (λ l. Some l) (chained_none (seen_fields all))

-- ---- a value that is an array

pub array_value : (value : Value) (list : Vec Value Global) (vs : List Value) → value ≡ Array list → vs ≡ list.items → view value ≡ array (items_view vs)
array_value value list vs is e = ap view is ∙ view-Array list ∙ ap (λ l. array (items_view l)) (sym e)

pub fields_mapped : (fs : List Field) → fields_value (seen_fields fs) ≡ items_of (map (λ f. field_value (seen_field f)) fs)
fields_mapped [] = refl
fields_mapped (f ∷ fs) = ap (item (field_value (seen_field f))) (fields_mapped fs)
