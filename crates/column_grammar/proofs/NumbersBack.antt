-- Numbers that are written are read again.
use Rattle.std.proofs.Common.{◌≡◌, ◌≤◌, ◌<◌, ◌^◌, ◌+◌, ◌*◌, ◌/◌, ◌%◌, ℕ, zero, suc, List, [], ◌∷◌, refl, ap, sym, ◌∙◌, Option, Some, arith, lt-ltb}
use Rattle.std.specs.Prelude.{ℤ, pos, negsuc, option_map, option_and_then}
use Rattle.std.specs.Option.{option_zip}
use Rattle.std.specs.Int.{w128, cast_signed, cast_unsigned, from_be_bytes, to_be_bytes, byte_at, byte_worth, sum_through, bytes_high_first}
use Rattle.std.proofs.lemmas.Int.{to_z-of_z}
use Rattle.std.proofs.Math.Arith.{mod-mul}
use Rattle.std.proofs.Math.Nat.{one-le-pow, pow-succ', add_comm}
use Rattle.std.specs.Int.RustNames.{FitsSigned}
use Rattle.hex.specs.Hex.{IsBytes}
use Rattle.hex.proofs.HexLemmas.{decode_of-encode_lower}
use Rattle.arrow_flat.specs.Numbers.{Range, InRange, signed_range, unsigned_range, no_range, AreInRange, IsNumber}
use Rattle.arrow_types.specs.declared.datatype.PrimitiveType.{PrimitiveType}
use Rattle.arrow_types.specs.declared.datatype.PrimitiveType.TheVariants as primitive
use Rattle.arrow_flat.specs.Natives.{AreBytes}
use Rattle.column_grammar.specs.Values.{bytes_in, bytes_value, decoded, signed_in, unsigned_in, one, int128_of, days_ms_of, month_day_nano_of, integer_value, first_integer, number_in, number_value}

-- ---- one number

pub signed_back : (n : ℕ) (z : ℤ) → 2 ^ n ≤ 2 ^ 63 → InRange (signed_range n) z → signed_in n (integer_value z) ≡ Some z
unfolding signed_in
signed_back n (pos k) le h = let wide : k < 2 ^ 63 = omega (arith, le, h) in rw (lt-ltb _ _ wide) (rw (lt-ltb _ _ h) refl)
signed_back n (negsuc k) le h = rw (lt-ltb _ _ h) refl

pub unsigned_back : (n : ℕ) (z : ℤ) → InRange (unsigned_range n) z → unsigned_in n (integer_value z) ≡ Some z
unfolding unsigned_in
unsigned_back n (pos k) h = rw (lt-ltb _ _ h) refl
unsigned_back n (negsuc k) h = absurd (omega (arith, h))

-- ---- bytes

pub bytes_are : (bs : List ℕ) → AreBytes bs → IsBytes bs
bytes_are [] h i = omega arith
bytes_are (b ∷ bs) h zero = h.0
bytes_are (b ∷ bs) h (suc i) = bytes_are bs h.1 i

pub bytes_back : (bs : List ℕ) → AreBytes bs → bytes_in (bytes_value bs) ≡ Some bs
unfolding bytes_in
bytes_back bs h = ap decoded (decode_of-encode_lower bs (bytes_are bs h))

-- ---- sixteen bytes

byte_small : (i n : ℕ) → byte_at i n < 256
byte_small zero n = omega arith
byte_small (suc i) n = omega arith

pub high_are : (k n : ℕ) → AreBytes (bytes_high_first k n)
high_are zero n = tt
high_are (suc k) n = (byte_small k n, high_are k n)

-- the bytes of a number, each at its worth, are what is left of it in their bits
sum_low : (k n : ℕ) → sum_through (λ i. byte_worth i (byte_at i n)) k ≡ n % 256 ^ suc k
sum_low zero n = omega arith
sum_low (suc k) n =
    let split : n % (256 * 256 ^ suc k) ≡ (n / 256 ^ suc k % 256) * 256 ^ suc k + n % 256 ^ suc k = mod-mul n (omega arith) (one-le-pow (suc k) 256 (omega arith)) in
    let power : 256 * 256 ^ suc k ≡ 256 ^ suc (suc k) = sym (pow-succ' 256 (suc k)) in
    let low = sum_low k n in
    ap (λ m. m + n / 256 ^ suc k % 256 * 256 ^ suc k) low ∙ add_comm (n % 256 ^ suc k) (n / 256 ^ suc k % 256 * 256 ^ suc k) ∙ sym split ∙ ap (λ m. n % m) power

turned : (a b c d e f g h i j k l m n o p : ℕ) → p + o + n + m + l + k + j + i + h + g + f + e + d + c + b + a ≡ a + b + c + d + e + f + g + h + i + j + k + l + m + n + o + p
turned a b c d e f g h i j k l m n o p = omega arith

whole_128 : (n : ℕ) → n < 2 ^ 128 → n % 256 ^ 16 ≡ n
whole_128 n h = omega (arith, h)

from_be_bytes-to_be_bytes_16 : (n : ℕ) → n < 2 ^ 128 → from_be_bytes w128 (to_be_bytes w128 n) ≡ n
from_be_bytes-to_be_bytes_16 n h =
    turned (byte_worth 0 (byte_at 0 n)) (byte_worth 1 (byte_at 1 n)) (byte_worth 2 (byte_at 2 n)) (byte_worth 3 (byte_at 3 n)) (byte_worth 4 (byte_at 4 n)) (byte_worth 5 (byte_at 5 n)) (byte_worth 6 (byte_at 6 n)) (byte_worth 7 (byte_at 7 n)) (byte_worth 8 (byte_at 8 n)) (byte_worth 9 (byte_at 9 n)) (byte_worth 10 (byte_at 10 n)) (byte_worth 11 (byte_at 11 n)) (byte_worth 12 (byte_at 12 n)) (byte_worth 13 (byte_at 13 n)) (byte_worth 14 (byte_at 14 n)) (byte_worth 15 (byte_at 15 n))
    ∙ sum_low 15 n
    ∙ whole_128 n h

abbrev pub bytes_of : ℤ → List ℕ
bytes_of z = to_be_bytes w128 (cast_unsigned w128 z)

unsigned_small : (z : ℤ) → InRange (signed_range 127) z → cast_unsigned w128 z < 2 ^ 128
unsigned_small (pos n) h = omega (arith, h)
unsigned_small (negsuc n) h = omega (arith, h)

fits_128 : (z : ℤ) → InRange (signed_range 127) z → FitsSigned w128 z
fits_128 (pos n) h = record { sfits = h }
fits_128 (negsuc n) h = record { sfits = h }

int128_back : (z : ℤ) → InRange (signed_range 127) z → option_and_then int128_of (bytes_in (bytes_value (bytes_of z))) ≡ Some (z ∷ [])
int128_back z h =
    ap (option_and_then int128_of) (bytes_back (bytes_of z) (high_are 16 (cast_unsigned w128 z)))
    ∙ ap (λ n. Some (cast_signed w128 n ∷ [])) (from_be_bytes-to_be_bytes_16 (cast_unsigned w128 z) (unsigned_small z h))
    ∙ ap (λ y. Some (y ∷ [])) (to_z-of_z w128 z (fits_128 z h))

-- ---- the numbers of a value

signed_one : (n : ℕ) (z : ℤ) → 2 ^ n ≤ 2 ^ 63 → InRange (signed_range n) z → one (signed_in n (integer_value z)) ≡ Some (z ∷ [])
signed_one n z le h = ap one (signed_back n z le h)

unsigned_one : (n : ℕ) (z : ℤ) → InRange (unsigned_range n) z → one (unsigned_in n (integer_value z)) ≡ Some (z ∷ [])
unsigned_one n z h = ap one (unsigned_back n z h)

pair_back : (a b : ℤ) → InRange (signed_range 31) a → InRange (signed_range 31) b → days_ms_of (integer_value a, integer_value b) ≡ Some (a ∷ b ∷ [])
pair_back a b ha hb =
    ap (λ o. option_map (λ p. p.0 ∷ p.1 ∷ []) (option_zip o (signed_in 31 (integer_value b)))) (signed_back 31 a (omega arith) ha)
    ∙ ap (λ o. option_map (λ p. p.0 ∷ p.1 ∷ []) (option_zip (Some a) o)) (signed_back 31 b (omega arith) hb)

triple_back : (a b c : ℤ) → InRange (signed_range 31) a → InRange (signed_range 31) b → InRange (signed_range 63) c
    → month_day_nano_of (integer_value a, (integer_value b, integer_value c)) ≡ Some (a ∷ b ∷ c ∷ [])
triple_back a b c ha hb hc =
    ap (λ o. option_map (λ p. p.0 ∷ p.1.0 ∷ p.1.1 ∷ []) (option_zip o (option_zip (signed_in 31 (integer_value b)) (signed_in 63 (integer_value c))))) (signed_back 31 a (omega arith) ha)
    ∙ ap (λ o. option_map (λ p. p.0 ∷ p.1.0 ∷ p.1.1 ∷ []) (option_zip (Some a) (option_zip o (signed_in 63 (integer_value c))))) (signed_back 31 b (omega arith) hb)
    ∙ ap (λ o. option_map (λ p. p.0 ∷ p.1.0 ∷ p.1.1 ∷ []) (option_zip (Some a) (option_zip (Some b) o))) (signed_back 63 c (omega arith) hc)

not_below_zero : (z : ℤ) → InRange no_range z → ⊥
not_below_zero (pos n) h = omega (arith, h)
not_below_zero (negsuc n) h = omega (arith, h)

-- one number that is read again, for each value that has one number
by_one : (r : Range) (f : ℤ → Option (List ℤ)) → ((z : ℤ) → InRange r z → f z ≡ Some (z ∷ [])) → (zs : List ℤ) → AreInRange (r ∷ []) zs → f (first_integer zs) ≡ Some zs
by_one r f back [] h = absurd h
by_one r f back (z ∷ []) h = back z h.0
by_one r f back (z ∷ y ∷ zs) h = absurd h.1

none_of : (d : Option (List ℤ)) (zs : List ℤ) → AreInRange (no_range ∷ []) zs → d ≡ Some zs
none_of d [] h = absurd h
none_of d (z ∷ zs) h = absurd (not_below_zero z h.0)

pub number_back : (p : PrimitiveType) (zs : List ℤ) → IsNumber p zs → number_in p (number_value p zs) ≡ Some zs
unfolding number_in
number_back primitive.Int8 zs h = by_one (signed_range 7) (λ z. one (signed_in 7 (integer_value z))) (λ z k. signed_one 7 z (omega arith) k) zs h
number_back primitive.Int16 zs h = by_one (signed_range 15) (λ z. one (signed_in 15 (integer_value z))) (λ z k. signed_one 15 z (omega arith) k) zs h
number_back primitive.Int32 zs h = by_one (signed_range 31) (λ z. one (signed_in 31 (integer_value z))) (λ z k. signed_one 31 z (omega arith) k) zs h
number_back primitive.Int64 zs h = by_one (signed_range 63) (λ z. one (signed_in 63 (integer_value z))) (λ z k. signed_one 63 z (omega arith) k) zs h
number_back primitive.Int128 zs h = by_one (signed_range 127) (λ z. option_and_then int128_of (bytes_in (bytes_value (bytes_of z)))) int128_back zs h
number_back primitive.UInt8 zs h = by_one (unsigned_range 8) (λ z. one (unsigned_in 8 (integer_value z))) (unsigned_one 8) zs h
number_back primitive.UInt16 zs h = by_one (unsigned_range 16) (λ z. one (unsigned_in 16 (integer_value z))) (unsigned_one 16) zs h
number_back primitive.UInt32 zs h = by_one (unsigned_range 32) (λ z. one (unsigned_in 32 (integer_value z))) (unsigned_one 32) zs h
number_back primitive.UInt64 zs h = by_one (unsigned_range 64) (λ z. one (unsigned_in 64 (integer_value z))) (unsigned_one 64) zs h
number_back primitive.DaysMs [] h = absurd h
number_back primitive.DaysMs (a ∷ []) h = absurd h.1
number_back primitive.DaysMs (a ∷ b ∷ []) h = pair_back a b h.0 h.1.0
number_back primitive.DaysMs (a ∷ b ∷ c ∷ zs) h = absurd h.1.1
number_back primitive.MonthDayNano [] h = absurd h
number_back primitive.MonthDayNano (a ∷ []) h = absurd h.1
number_back primitive.MonthDayNano (a ∷ b ∷ []) h = absurd h.1.1
number_back primitive.MonthDayNano (a ∷ b ∷ c ∷ []) h = triple_back a b c h.0 h.1.0 h.1.1.0
number_back primitive.MonthDayNano (a ∷ b ∷ c ∷ d ∷ zs) h = absurd h.1.1.1
number_back primitive.Int256 zs h = none_of _ zs h
number_back primitive.UInt128 zs h = none_of _ zs h
number_back primitive.Float16 zs h = none_of _ zs h
number_back primitive.Float32 zs h = none_of _ zs h
number_back primitive.Float64 zs h = none_of _ zs h
