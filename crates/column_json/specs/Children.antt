-- What is written of a layout before its children, and after them.
use Rattle.std.specs.Prelude.{ℕ, List, [], ◌∷◌, ◌++◌, map, flat_map, None, Some, codes}
use Rattle.json.specs.Token.{Token, begin_object, end_object, begin_array, end_array, key}
use Rattle.serde_json.specs.Data.{Data}
use Rattle.type_json.specs.TypeJson.{whole_value}
use Rattle.arrow_layout.specs.Forms.{form_of, primitive_by}
use Rattle.arrow_layout.specs.Layouts.{Layout, primitives, lists, fixed_size_lists, structs, sparse_unions, dense_unions, dictionaries}
use Rattle.column_grammar.specs.Values.{mask_value, integer_value, list_value, number_value}
use Rattle.column_grammar.specs.Writes.{data_value, single_value, union_offsets_value}
use Rattle.column_json.specs.Puts.{value_tokens}

abbrev pub each_tokens : List Data → List Token
each_tokens ds = flat_map value_tokens ds

-- the values of an array of numbers, none of another
abbrev pub rows_value : Layout → Data
rows_value (primitives t m rows) = list_value (map (number_value (primitive_by (form_of t))) rows)
rows_value _ = list_value []

-- two members, and the end of their object
abbrev pub two_tokens : List ℕ → Data → List ℕ → Data → List Token
two_tokens k d l e = key k ∷ (value_tokens d ++ key l ∷ (value_tokens e ++ end_object ∷ []))

abbrev pub child_start : List Token
child_start = begin_object ∷ key (codes "child") ∷ []

abbrev pub children_start : List Token
children_start = begin_object ∷ key (codes "children") ∷ begin_array ∷ []

-- the keys and the mask of a dictionary
abbrev pub keys_start : Data → Data → List Token
keys_start ks m = begin_object ∷ key (codes "keys") ∷ (value_tokens ks ++ key (codes "mask") ∷ (value_tokens m ++ key (codes "values") ∷ []))

abbrev pub head_tokens : Layout → List Token
head_tokens (lists t m os l) = child_start
head_tokens (fixed_size_lists t m k n l) = child_start
head_tokens (structs t m n ls) = children_start
head_tokens (sparse_unions t o ts ls) = children_start
head_tokens (dense_unions t o ts os ls) = children_start
head_tokens (dictionaries t u m ks l) = keys_start (list_value (map (single_value (primitive_by (form_of u))) ks)) (mask_value m)
head_tokens l = value_tokens (data_value l)

abbrev pub tail_tokens : Layout → List Token
tail_tokens (lists t m os l) = two_tokens (codes "mask") (mask_value m) (codes "offsets") (list_value (map integer_value os))
tail_tokens (fixed_size_lists t m k n l) = two_tokens (codes "length") (whole_value n) (codes "mask") (mask_value m)
tail_tokens (structs t m n ls) = end_array ∷ two_tokens (codes "length") (whole_value n) (codes "mask") (mask_value m)
tail_tokens (sparse_unions t o ts ls) = end_array ∷ two_tokens (codes "offsets") (union_offsets_value None) (codes "types") (list_value (map integer_value ts))
tail_tokens (dense_unions t o ts os ls) = end_array ∷ two_tokens (codes "offsets") (union_offsets_value (Some os)) (codes "types") (list_value (map integer_value ts))
tail_tokens (dictionaries t u m ks l) = end_object ∷ []
tail_tokens _ = []
