-- Worked examples: what values are read as.
use Rattle.std.specs.Prelude.{◌≡◌, ℕ, pos, negsuc, true, false, List, [], ◌∷◌, Some, None, codes, refl}
use Rattle.serde_json.specs.Data.{Data, null, string, object, no_members, member, put}
use Rattle.hex.proofs.OnLiterals.{hex_on_literals}
use Rattle.arrow_buffers.specs.Bits.{plain}
use Rattle.arrow_types.specs.TypeData as T
use Rattle.arrow_types.specs.declared.datatype.PrimitiveType.TheVariants as primitive
use Rattle.arrow_flat.specs.Views.{long, inline}
use Rattle.type_json.specs.Values.{whole_in}
use Rattle.type_json.specs.TypeJson.{named, plain_named, integer_named}
use Rattle.arrow_layout.specs.Layouts.{booleans, binaries}
use Rattle.column_grammar.specs.Values.{bits_in_json, mask_in, bytes_in, signed_in, unsigned_in, number_in, list_in, integer_value, list_value}
use Rattle.column_grammar.specs.Reads.{booleans_in, binaries_in, view_in, slice_in, column_of}
use Rattle.column_grammar.specs.Writes.{object2, object3}

-- `{"mask":null,"values":"110"}`
abbrev three_bits : Data
three_bits = object2 (codes "mask") null (codes "values") (string (codes "110"))

-- `[1,2]`
abbrev one_two : Data
one_two = list_value (integer_value (pos 1) ∷ integer_value (pos 2) ∷ [])

sliced_booleans : column_of (object3 (codes "data") three_bits (codes "slice") one_two (codes "type") (string (codes "boolean")))
    ≡ Some record { layout = booleans T.boolean None (plain (true ∷ true ∷ false ∷ [])); slice = Some (1, 2) }
unfolding column_of slice_in whole_in booleans_in bits_in_json mask_in named plain_named integer_named
sliced_booleans = refl

-- The order in which keys stand is no matter: members are put in the order of their keys.
other_order : put (codes "data") three_bits (put (codes "type") (string (codes "boolean")) no_members)
    ≡ put (codes "type") (string (codes "boolean")) (put (codes "data") three_bits no_members)
other_order = refl

-- a fourth key
other_key : column_of (object (member (codes "data") three_bits (member (codes "name") null (member (codes "type") (string (codes "boolean")) no_members)))) ≡ None
unfolding column_of
other_key = refl

-- sixteen bytes, in lower case and in upper case
all_ones : number_in primitive.Int128 (string (codes "ffffffffffffffffffffffffffffffff")) ≡ Some (negsuc 0 ∷ [])
unfolding number_in bytes_in hex_on_literals
all_ones = refl

all_ones_upper : number_in primitive.Int128 (string (codes "FFFFFFFFFFFFFFFFFFFFFFFFFFFFFFFF")) ≡ Some (negsuc 0 ∷ [])
unfolding number_in bytes_in hex_on_literals
all_ones_upper = refl

-- the highest byte first
low_byte_last : number_in primitive.Int128 (string (codes "00000000000000000000000000000102")) ≡ Some (pos 258 ∷ [])
unfolding number_in bytes_in hex_on_literals
low_byte_last = refl

fifteen_bytes : number_in primitive.Int128 (string (codes "ffffffffffffffffffffffffffffff")) ≡ None
unfolding number_in bytes_in hex_on_literals
fifteen_bytes = refl

-- days and milliseconds
days_and_milliseconds : number_in primitive.DaysMs (list_value (integer_value (negsuc 0) ∷ integer_value (pos 5) ∷ [])) ≡ Some (negsuc 0 ∷ pos 5 ∷ [])
unfolding number_in signed_in
days_and_milliseconds = refl

-- the ends of ranges
lowest_int8 : number_in primitive.Int8 (integer_value (negsuc 127)) ≡ Some (negsuc 127 ∷ [])
unfolding number_in signed_in
lowest_int8 = refl

below_int8 : number_in primitive.Int8 (integer_value (negsuc 128)) ≡ None
unfolding number_in signed_in
below_int8 = refl

greatest_uint64 : number_in primitive.UInt64 (integer_value (pos 18446744073709551615)) ≡ Some (pos 18446744073709551615 ∷ [])
unfolding number_in unsigned_in
greatest_uint64 = refl

negative_uint64 : number_in primitive.UInt64 (integer_value (negsuc 0)) ≡ None
unfolding number_in unsigned_in
negative_uint64 = refl

-- `"2D00ff"`: three bytes, and zeros behind them
inline_in : (buffers : List (List ℕ)) → view_in buffers (string (codes "2D00ff"))
    ≡ Some (inline 3 (45 ∷ 0 ∷ 255 ∷ 0 ∷ 0 ∷ 0 ∷ 0 ∷ 0 ∷ 0 ∷ 0 ∷ 0 ∷ 0 ∷ []))
unfolding view_in bytes_in hex_on_literals
inline_in buffers = refl

thirteen_bytes : (buffers : List (List ℕ)) → view_in buffers (string (codes "00000000000000000000000000")) ≡ None
unfolding view_in bytes_in hex_on_literals
thirteen_bytes buffers = refl

abbrev ten : List ℕ
ten = 48 ∷ 49 ∷ 50 ∷ 51 ∷ 52 ∷ 53 ∷ 54 ∷ 55 ∷ 56 ∷ 57 ∷ []

-- `[13,0,2]` in a buffer of ten bytes and of fifteen: where the range isn't there, zeros stand for the first four bytes
long_without_range : view_in (ten ∷ []) (list_value (integer_value (pos 13) ∷ integer_value (pos 0) ∷ integer_value (pos 2) ∷ []))
    ≡ Some (long 13 (0 ∷ 0 ∷ 0 ∷ 0 ∷ []) 0 2)
unfolding view_in unsigned_in
long_without_range = refl

long_in_range : view_in ((48 ∷ 49 ∷ 50 ∷ 51 ∷ 52 ∷ 53 ∷ ten) ∷ []) (list_value (integer_value (pos 13) ∷ integer_value (pos 0) ∷ integer_value (pos 2) ∷ []))
    ≡ Some (long 13 (50 ∷ 51 ∷ 52 ∷ 53 ∷ []) 0 2)
unfolding view_in unsigned_in
long_in_range = refl

long_of_twelve : view_in (ten ∷ []) (list_value (integer_value (pos 12) ∷ integer_value (pos 0) ∷ integer_value (pos 0) ∷ [])) ≡ None
unfolding view_in unsigned_in
long_of_twelve = refl

-- offsets of 32 bits and of 64
wide_offset : binaries_in T.binary false (object3 (codes "bytes") (string (codes "")) (codes "mask") null (codes "offsets") (list_value (integer_value (pos 2147483648) ∷ []))) ≡ None
unfolding binaries_in bytes_in mask_in list_in signed_in hex_on_literals
wide_offset = refl

wide_large_offset : binaries_in T.large_binary true (object3 (codes "bytes") (string (codes "")) (codes "mask") null (codes "offsets") (list_value (integer_value (pos 2147483648) ∷ [])))
    ≡ Some (binaries T.large_binary None (pos 2147483648 ∷ []) [])
unfolding binaries_in bytes_in mask_in list_in signed_in hex_on_literals
wide_large_offset = refl
