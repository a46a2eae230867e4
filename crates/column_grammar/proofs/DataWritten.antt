-- The text of a column's data is read back as the data.
use Rattle.std.proofs.Common.{◌≡◌, ◌≤◌, ◌<◌, ◌^◌, ℕ, suc, List, [], ◌∷◌, take, refl, ap, ◌∙◌, Option, Some, None, true, false, arith, ltb-true, Greater}
use Rattle.std.specs.Prelude.{ℤ, pos, negsuc, Bool, ◌||◌, IsUtf8, map}
use Rattle.std.specs.List.{AllByRecursion}
use Rattle.std.specs.Str.{IsAscii}
use Rattle.std.specs.Ordering.{nat_cmp}
use Rattle.std.specs.Cmp.Lexicographic.{slice_cmp}
use Rattle.std.proofs.lemmas.Bool.{and_parts}
use Rattle.std.proofs.lemmas.Str.{IsUtf8-from_ascii, IsUtf8-nil}
use Rattle.std.proofs.lemmas.Str.Ascii.{IsAscii-nil, IsAscii-cons}
use Rattle.std.proofs.lemmas.Fmt.{IsAscii-signed}
use Rattle.json.proofs.Printed.Decimals.{IsNumber-signed_decimal}
use Rattle.json.proofs.Printed.Utf8.{IsUtf8-are_ascii, are_ascii}
use Rattle.serde_json.specs.Data.{Data, depth, items_depth}
use Rattle.serde_json.specs.View.{items_of}
use Rattle.serde_json.specs.Written.{has_float}
use Rattle.serde_json.proofs.Numbers.{number_of-negative}
use Rattle.hex.specs.Hex.{lower_digits}
use Rattle.hex.proofs.HexLemmas.{IsAscii-encode_with}
use Rattle.arrow_buffers.specs.Bits.{Bits}
use Rattle.arrow_types.specs.Carried.{IsBelow}
use Rattle.arrow_types.specs.declared.datatype.PrimitiveType.{PrimitiveType}
use Rattle.arrow_types.specs.declared.datatype.PrimitiveType.TheVariants as primitive
use Rattle.arrow_flat.specs.Numbers.{Range, InRange, signed_range, unsigned_range, no_range, AreInRange, IsNumber}
use Rattle.arrow_flat.specs.Views.{View, inline, long, IsView}
use Rattle.type_json.proofs.Utf8.{one}
use Rattle.type_json.proofs.Written.{IsWritten, AreWritten, null_written, string_written, whole_written, none_written, item_written, array_written}
use Rattle.column_grammar.specs.Values.{bit_char, bits_value, mask_value, bytes_value, integer_value, list_value, first_integer, number_value}
use Rattle.column_grammar.specs.Writes.{object1, object2, object3, view_value}

-- ---- what is written, and how deep it nests

pub record IsWrittenIn (n : ℕ) (d : Data) : Type 0 where
  pub written : IsWritten d
  pub shallow : depth d ≤ n

-- ---- texts

bits_utf8 : (bits : List Bool) → IsUtf8 (map bit_char bits)
bits_utf8 [] = IsUtf8-nil
bits_utf8 (true ∷ bits) = one 49 _ (IsUtf8-are_ascii (49 ∷ []) refl) (bits_utf8 bits)
bits_utf8 (false ∷ bits) = one 48 _ (IsUtf8-are_ascii (48 ∷ []) refl) (bits_utf8 bits)

pub bits_written : (b : Bits) → IsWrittenIn 0 (bits_value b)
bits_written b = record { written = string_written _ (bits_utf8 b.bits); shallow = omega arith }

pub mask_written : (m : Option Bits) → IsWrittenIn 0 (mask_value m)
mask_written None = record { written = null_written; shallow = omega arith }
mask_written (Some b) = bits_written b

ascii_from : (s : List ℕ) → are_ascii s ≡ true → IsAscii s
ascii_from [] e = IsAscii-nil
ascii_from (x ∷ s) e = let p = and_parts _ _ e in IsAscii-cons x s (ltb-true _ _ p.0) (ascii_from s p.1)

pub bytes_written : (n : ℕ) (bs : List ℕ) → IsWrittenIn n (bytes_value bs)
bytes_written n bs = record {
  written = string_written _ (IsUtf8-from_ascii _ (IsAscii-encode_with lower_digits bs (ascii_from lower_digits refl)));
  shallow = omega arith;
}

-- ---- numbers

-- of 64 bits, with a sign where it is negative
abbrev IsWhole : ℤ → Type 0
IsWhole (pos n) = n < 2 ^ 64
IsWhole (negsuc n) = n < 2 ^ 63

integer_written : (n : ℕ) (z : ℤ) → IsWhole z → IsWrittenIn n (integer_value z)
integer_written n (pos k) h = record { written = whole_written k h; shallow = omega arith }
integer_written n (negsuc k) h = record {
  written = record {
    no_float = refl;
    sound = number_of-negative k h;
    numbers = IsNumber-signed_decimal (negsuc k) (omega (arith, h));
    utf8 = IsUtf8-from_ascii _ (IsAscii-signed (negsuc k) (omega (arith, h)));
  };
  shallow = omega arith;
}

abbrev AreWhole : Range → Type 0
AreWhole r = (r.others ≤ 2 ^ 64) × (r.negative ≤ 2 ^ 63)

whole_from : (r : Range) → AreWhole r → (z : ℤ) → InRange r z → IsWhole z
whole_from r h (pos n) k = let top = h.0 in omega (arith, top, k)
whole_from r h (negsuc n) k = let low = h.1 in omega (arith, low, k)

-- ---- lists

item_in : (n : ℕ) (d : Data) (ds : List Data) → IsWrittenIn n d → AreWritten (items_of ds) × (items_depth (items_of ds) ≤ n)
    → AreWritten (items_of (d ∷ ds)) × (items_depth (items_of (d ∷ ds)) ≤ n)
item_in n d ds h hs = let first = h.shallow in let rest = hs.1 in (item_written d (items_of ds) h.written hs.0, omega (arith, first, rest))

none_in : (n : ℕ) → AreWritten (items_of []) × (items_depth (items_of []) ≤ n)
none_in n = (none_written, omega arith)

pub items_in_list : (n : ℕ) (ds : List Data) → AreWritten (items_of ds) × (items_depth (items_of ds) ≤ n) → IsWrittenIn (suc n) (list_value ds)
items_in_list n ds h = let flat = h.1 in record { written = array_written (items_of ds) h.0; shallow = omega (arith, flat) }

module _ {A : Type 0} (n : ℕ) (g : A → Data) (P : A → Type 0) (each : (x : A) → P x → IsWrittenIn n (g x)) where
  each_written : (xs : List A) → AllByRecursion P xs → AreWritten (items_of (map g xs)) × (items_depth (items_of (map g xs)) ≤ n)
  each_written [] h = none_in n
  each_written (x ∷ xs) h = item_in n (g x) (map g xs) (each x h.0) (each_written xs h.1)

  pub list_written : (xs : List A) → AllByRecursion P xs → IsWrittenIn (suc n) (list_value (map g xs))
  list_written xs h = items_in_list n (map g xs) (each_written xs h)

-- ---- the numbers of a value

first_written : (r : Range) → AreWhole r → (zs : List ℤ) → AreInRange (r ∷ []) zs → IsWrittenIn 1 (integer_value (first_integer zs))
first_written r h [] k = absurd k
first_written r h (z ∷ zs) k = integer_written 1 z (whole_from r h z k.0)

pair_written : (zs : List ℤ) → AllByRecursion IsWhole zs → IsWrittenIn 1 (list_value (map integer_value zs))
pair_written zs h = list_written 0 integer_value IsWhole (integer_written 0) zs h

wholes_from : (rs : List Range) → AllByRecursion AreWhole rs → (zs : List ℤ) → AreInRange rs zs → AllByRecursion IsWhole zs
wholes_from [] h [] k = tt
wholes_from [] h (z ∷ zs) k = absurd k
wholes_from (r ∷ rs) h [] k = absurd k
wholes_from (r ∷ rs) h (z ∷ zs) k = (whole_from r h.0 z k.0, wholes_from rs h.1 zs k.1)

signed_whole : (n : ℕ) → 2 ^ n ≤ 2 ^ 63 → AreWhole (signed_range n)
signed_whole n h = (omega (arith, h), h)

unsigned_whole : (n : ℕ) → 2 ^ n ≤ 2 ^ 64 → AreWhole (unsigned_range n)
unsigned_whole n h = (h, omega arith)

no_whole : AreWhole no_range
no_whole = (omega arith, omega arith)

pub number_written : (p : PrimitiveType) (zs : List ℤ) → IsNumber p zs → IsWrittenIn 1 (number_value p zs)
number_written primitive.Int8 zs h = first_written (signed_range 7) (signed_whole 7 (omega arith)) zs h
number_written primitive.Int16 zs h = first_written (signed_range 15) (signed_whole 15 (omega arith)) zs h
number_written primitive.Int32 zs h = first_written (signed_range 31) (signed_whole 31 (omega arith)) zs h
number_written primitive.Int64 zs h = first_written (signed_range 63) (signed_whole 63 (omega arith)) zs h
number_written primitive.Int128 zs h = bytes_written 1 _
number_written primitive.Int256 zs h = first_written no_range no_whole zs h
number_written primitive.UInt8 zs h = first_written (unsigned_range 8) (unsigned_whole 8 (omega arith)) zs h
number_written primitive.UInt16 zs h = first_written (unsigned_range 16) (unsigned_whole 16 (omega arith)) zs h
number_written primitive.UInt32 zs h = first_written (unsigned_range 32) (unsigned_whole 32 (omega arith)) zs h
number_written primitive.UInt64 zs h = first_written (unsigned_range 64) (unsigned_whole 64 (omega arith)) zs h
number_written primitive.UInt128 zs h = first_written no_range no_whole zs h
number_written primitive.Float16 zs h = first_written no_range no_whole zs h
number_written primitive.Float32 zs h = first_written no_range no_whole zs h
number_written primitive.Float64 zs h = first_written no_range no_whole zs h
number_written primitive.DaysMs zs h =
    pair_written zs (wholes_from (signed_range 31 ∷ signed_range 31 ∷ []) (signed_whole 31 (omega arith), (signed_whole 31 (omega arith), tt)) zs h)
number_written primitive.MonthDayNano zs h =
    pair_written zs
    (wholes_from (signed_range 31 ∷ signed_range 31 ∷ signed_range 63 ∷ []) (signed_whole 31 (omega arith), (signed_whole 31 (omega arith), (signed_whole 63 (omega arith), tt))) zs h)

offset_whole : (limit : ℕ) (z : ℤ) → limit ≤ 2 ^ 63 → IsBelow limit z → IsWhole z
offset_whole limit (pos n) le h = omega (arith, le, h)
offset_whole limit (negsuc n) le h = absurd h

pub offset_written : (limit : ℕ) → limit ≤ 2 ^ 63 → (z : ℤ) → IsBelow limit z → IsWrittenIn 1 (integer_value z)
offset_written limit le z h = integer_written 1 z (offset_whole limit z le h)

pub view_written : (buffers : List (List ℕ)) (v : View) → IsView buffers v → IsWrittenIn 1 (view_value v)
view_written buffers (inline n bs) h = bytes_written 1 (take n bs)
view_written buffers (long n p b o) h =
    let count = h.4 in let named = h.5 in let from = h.6 in
    pair_written (pos n ∷ pos b ∷ pos o ∷ []) (omega (arith, count), (omega (arith, named), (omega (arith, from), tt)))

-- ---- objects

both : (a b : Bool) → a ≡ false → b ≡ false → (a || b) ≡ false
both a b h k = ap (λ x. x || b) h ∙ k

pub object1_written : (n : ℕ) (k : List ℕ) (d : Data) → are_ascii k ≡ true → IsWrittenIn n d → IsWrittenIn (suc n) (object1 k d)
object1_written n k d hk hd =
    let a = hd.shallow in
    record {
      written = record {
        no_float = both (has_float d) false hd.written.no_float refl;
        sound = (tt, hd.written.sound, tt);
        numbers = (hd.written.numbers, tt);
        utf8 = (IsUtf8-are_ascii k hk, hd.written.utf8, tt);
      };
      shallow = omega (arith, a);
    }

pub object2_written : (n : ℕ) (k l : List ℕ) (d e : Data) → are_ascii k ≡ true → are_ascii l ≡ true → slice_cmp nat_cmp l k ≡ Greater
    → IsWrittenIn n d → IsWrittenIn n e → IsWrittenIn (suc n) (object2 k d l e)
object2_written n k l d e hk hl less hd he =
    let a = hd.shallow in let b = he.shallow in
    record {
      written = record {
        no_float = both (has_float d) (has_float e || false) hd.written.no_float (both (has_float e) false he.written.no_float refl);
        sound = (tt, hd.written.sound, ((less, tt), he.written.sound, tt));
        numbers = (hd.written.numbers, (he.written.numbers, tt));
        utf8 = (IsUtf8-are_ascii k hk, hd.written.utf8, (IsUtf8-are_ascii l hl, he.written.utf8, tt));
      };
      shallow = omega (arith, a, b);
    }

pub object3_written : (n : ℕ) (k l m : List ℕ) (d e f : Data) → are_ascii k ≡ true → are_ascii l ≡ true → are_ascii m ≡ true
    → slice_cmp nat_cmp l k ≡ Greater → slice_cmp nat_cmp m k ≡ Greater → slice_cmp nat_cmp m l ≡ Greater
    → IsWrittenIn n d → IsWrittenIn n e → IsWrittenIn n f → IsWrittenIn (suc n) (object3 k d l e m f)
object3_written n k l m d e f hk hl hm less last_k last_l hd he hf =
    let a = hd.shallow in let b = he.shallow in let c = hf.shallow in
    record {
      written = record {
        no_float =
            both (has_float d) (has_float e || (has_float f || false)) hd.written.no_float
            (both (has_float e) (has_float f || false) he.written.no_float (both (has_float f) false hf.written.no_float refl));
        sound = (tt, hd.written.sound, ((less, tt), he.written.sound, ((last_k, (last_l, tt)), hf.written.sound, tt)));
        numbers = (hd.written.numbers, (he.written.numbers, (hf.written.numbers, tt)));
        utf8 = (IsUtf8-are_ascii k hk, hd.written.utf8, (IsUtf8-are_ascii l hl, he.written.utf8, (IsUtf8-are_ascii m hm, hf.written.utf8, tt)));
      };
      shallow = omega (arith, a, b, c);
    }

pub deeper : (n m : ℕ) (d : Data) → n ≤ m → IsWrittenIn n d → IsWrittenIn m d
deeper n m d le h = let deep = h.shallow in record { written = h.written; shallow = omega (arith, le, deep) }
