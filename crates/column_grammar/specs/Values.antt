-- What the data of a column is made of: bits, bytes in hexadecimal, and numbers in the ranges of their places.
use Rattle.std.specs.Prelude.{ℕ, List, [], ◌∷◌, Bool, true, false, ◌==◌, ℤ, pos, negsuc, nat_lt, if◌then◌else◌, Option, Some, None, Result, Ok, Err, unwrap_or, option_map, option_and_then, length, map, is_some}
use Rattle.std.specs.Int.{w128, cast_signed, cast_unsigned, from_be_bytes, to_be_bytes}
use Rattle.std.specs.Option.{option_zip}
use Rattle.serde_json.specs.Data.{Data, null, number, string, array}
use Rattle.serde_json.specs.Find.{as_i64, as_u64, as_number, as_null, as_str, as_array, as_object, get, of_integer}
use Rattle.serde_json.specs.Events.{members_len}
use Rattle.serde_json.specs.View.{items_of}
use Rattle.hex.specs.Hex.{decode_of, encode_lower}
use Rattle.hex.specs.declared.error.FromHexError.{FromHexError}
use Rattle.arrow_buffers.specs.Bits.{Bits, plain}
use Rattle.arrow_types.specs.declared.datatype.PrimitiveType.{PrimitiveType}
use Rattle.arrow_types.specs.declared.datatype.PrimitiveType.TheVariants as primitive
use Rattle.arrow_flat.specs.Numbers.{Range, signed_range, unsigned_range}
use Rattle.type_json.specs.Values.{traverse, list_of}

-- ---- bits: a text of 0 and 1, in slot order

abbrev pub bit_of_digit : ℕ → Option Bool
bit_of_digit c = if c == 49 then Some true else (if c == 48 then Some false else None)

abbrev pub bits_of_text : List ℕ → Option Bits
bits_of_text text = option_map plain (traverse bit_of_digit text)

unfoldable pub bits_in_json : Data → Option Bits
bits_in_json d = option_and_then bits_of_text (as_str d)

-- null, or the bits of the slots
unfoldable pub mask_in : Data → Option (Option Bits)
mask_in d = if is_some (as_null d) then Some None else option_map Some (bits_in_json d)

abbrev pub bit_char : Bool → ℕ
bit_char bit = if bit then 49 else 48

abbrev pub bits_value : Bits → Data
bits_value b = string (map bit_char b.bits)

abbrev pub mask_value : Option Bits → Data
mask_value None = null
mask_value (Some b) = bits_value b

-- ---- bytes: a text of two hexadecimal digits a byte, read in both cases and written in lower case

abbrev pub decoded : Result (List ℕ) FromHexError → Option (List ℕ)
decoded (Ok bs) = Some bs
decoded (Err e) = None

unfoldable pub bytes_in : Data → Option (List ℕ)
bytes_in d = option_and_then (λ text. decoded (decode_of text)) (as_str d)

abbrev pub bytes_value : List ℕ → Data
bytes_value bs = string (encode_lower bs)

-- ---- numbers

abbrev pub is_in : Range → ℤ → Bool
is_in r (pos n) = nat_lt n r.others
is_in r (negsuc n) = nat_lt n r.negative

abbrev pub within : Range → ℤ → Option ℤ
within r z = if is_in r z then Some z else None

-- a number of so many bits and a sign
unfoldable pub signed_in : ℕ → Data → Option ℤ
signed_in n d = option_and_then (within (signed_range n)) (option_and_then as_i64 (as_number d))

-- a number of so many bits without a sign
unfoldable pub unsigned_in : ℕ → Data → Option ℤ
unsigned_in n d = option_and_then (λ k. within (unsigned_range n) (pos k)) (option_and_then as_u64 (as_number d))

abbrev pub one : Option ℤ → Option (List ℤ)
one z = option_map (λ x. x ∷ []) z

-- the number of sixteen bytes in two's complement, the highest byte first
abbrev pub int128_of : List ℕ → Option (List ℤ)
int128_of bs = if length bs == 16 then Some (cast_signed w128 (from_be_bytes w128 bs) ∷ []) else None

-- exactly two values, or three
abbrev pub pair_of : List Data → Option (Data × Data)
pair_of (a ∷ b ∷ []) = Some (a, b)
pair_of _ = None

abbrev pub triple_of : List Data → Option (Data × (Data × Data))
triple_of (a ∷ b ∷ c ∷ []) = Some (a, (b, c))
triple_of _ = None

abbrev pub items_in : Data → Option (List Data)
items_in d = option_map list_of (as_array d)

abbrev pub days_ms_of : Data × Data → Option (List ℤ)
days_ms_of d = option_map (λ p. p.0 ∷ p.1 ∷ []) (option_zip (signed_in 31 d.0) (signed_in 31 d.1))

abbrev pub month_day_nano_of : Data × (Data × Data) → Option (List ℤ)
month_day_nano_of d = option_map (λ p. p.0 ∷ p.1.0 ∷ p.1.1 ∷ []) (option_zip (signed_in 31 d.0) (option_zip (signed_in 31 d.1.0) (signed_in 63 d.1.1)))

-- the numbers of a value of the physical type: a number in its range; of 128 bits a text of bytes; of days and milliseconds,
-- or months, days and nanoseconds, a list
unfoldable pub number_in : PrimitiveType → Data → Option (List ℤ)
number_in primitive.Int8 d = one (signed_in 7 d)
number_in primitive.Int16 d = one (signed_in 15 d)
number_in primitive.Int32 d = one (signed_in 31 d)
number_in primitive.Int64 d = one (signed_in 63 d)
number_in primitive.Int128 d = option_and_then int128_of (bytes_in d)
number_in primitive.UInt8 d = one (unsigned_in 8 d)
number_in primitive.UInt16 d = one (unsigned_in 16 d)
number_in primitive.UInt32 d = one (unsigned_in 32 d)
number_in primitive.UInt64 d = one (unsigned_in 64 d)
number_in primitive.DaysMs d = option_and_then days_ms_of (option_and_then pair_of (items_in d))
number_in primitive.MonthDayNano d = option_and_then month_day_nano_of (option_and_then triple_of (items_in d))
number_in _ d = None

-- the value at this key, of an object that has no other key
abbrev pub one_member : List ℕ → Data → Option Data
one_member k d = if unwrap_or (option_map members_len (as_object d)) 0 == 1 then get k d else None

-- what f reads of each value of a list
unfoldable pub list_in : {A : Type 0} → (Data → Option A) → Data → Option (List A)
list_in f d = option_and_then (traverse f) (items_in d)

abbrev pub integer_value : ℤ → Data
integer_value z = number (of_integer z)

abbrev pub list_value : List Data → Data
list_value ds = array (items_of ds)

abbrev pub first_integer : List ℤ → ℤ
first_integer [] = pos 0
first_integer (z ∷ zs) = z

abbrev pub number_value : PrimitiveType → List ℤ → Data
number_value primitive.Int128 zs = bytes_value (to_be_bytes w128 (cast_unsigned w128 (first_integer zs)))
number_value primitive.DaysMs zs = list_value (map integer_value zs)
number_value primitive.MonthDayNano zs = list_value (map integer_value zs)
number_value _ zs = integer_value (first_integer zs)
