-- What a JSON value is read as: lists item by item, objects of named members, texts, flags and numbers.
use Rattle.std.specs.Prelude.{ℕ, ◌^◌, List, [], ◌∷◌, ◌&&◌, ◌==◌, ℤ, pos, negsuc, int_le, nat_lt, if◌then◌else◌, Option, Some, None, unwrap_or, option_map, option_and_then}
use Rattle.std.specs.Option.{option_zip}
use Rattle.serde_json.specs.Data.{Data, null, boolean, number, string, array, object, Items, no_items, item}
use Rattle.serde_json.specs.Find.{as_i64, as_u64, as_number, as_object, get}
use Rattle.serde_json.specs.Events.{members_len}

-- what f gives of each, where it gives something of all
abbrev pub traverse : {A B : Type 0} → (A → Option B) → List A → Option (List B)
traverse f [] = Some []
traverse f (x ∷ xs) = option_and_then (λ y. option_map (λ ys. y ∷ ys) (traverse f xs)) (f x)

abbrev pub list_of : Items → List Data
list_of no_items = []
list_of (item d ds) = d ∷ list_of ds

-- the values at these two keys, of an object that has no other key
abbrev pub two_members : List ℕ → List ℕ → Data → Option (Data × Data)
two_members k l d = if unwrap_or (option_map members_len (as_object d)) 0 == 2 then option_zip (get k d) (get l d) else None

-- the values at these three keys, of an object that has no other key
abbrev pub three_members : List ℕ → List ℕ → List ℕ → Data → Option (Data × (Data × Data))
three_members k l m d =
    if unwrap_or (option_map members_len (as_object d)) 0 == 3 then option_zip (get k d) (option_zip (get l d) (get m d)) else None

-- null, or a text
abbrev pub text_or_null : Data → Option (Option (List ℕ))
text_or_null null = Some None
text_or_null (boolean b) = None
text_or_null (number n) = None
text_or_null (string s) = Some (Some s)
text_or_null (array ds) = None
text_or_null (object ms) = None

abbrev pub within_whole : ℕ → Option ℕ
within_whole n = if nat_lt n (2 ^ 64) then Some n else None

-- a number from 0 to 18446744073709551615
unfoldable pub whole_in : Data → Option ℕ
whole_in d = option_and_then within_whole (option_and_then as_u64 (as_number d))

abbrev pub within_int32 : ℤ → Option ℤ
within_int32 z = if int_le (negsuc 2147483647) z && int_le z (pos 2147483647) then Some z else None

-- a number from -2147483648 to 2147483647
unfoldable pub int32_in : Data → Option ℤ
int32_in d = option_and_then within_int32 (option_and_then as_i64 (as_number d))
