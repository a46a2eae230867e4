-- The parts of spellings as the program writes them.
use Rattle.std.proofs.Common.{◌≡◌, ℕ, zero, suc, ◌+◌, ◌/◌, ◌%◌, ◌^◌, List, [], ◌∷◌, ◌++◌, length, replicate, refl, ap, ap₂, sym, ◌∙◌, arith}
use Rattle.std.specs.Prelude.{ℤ, pos, negsuc}
use Rattle.std.specs.Int.{w64, w128, byte_at, bytes_low_first, to_le_bytes, cast_unsigned}
use Rattle.std.proofs.Math.Nat.{div-div-eq-div-mul, div-one, pow-suc}
use Rattle.arrow_layout.specs.Spelling.{bits_128, low_bytes, number_bytes, length_bytes}

byte-at : (i n : ℕ) → byte_at i n ≡ n / 256 ^ i % 256
byte-at zero n = ap (λ m. m % 256) (sym (div-one n))
byte-at (suc i) n = refl

next_power : (i n : ℕ) → n / 256 ^ i / 256 ≡ n / 256 ^ suc i
next_power i n = div-div-eq-div-mul n (256 ^ i) 256 ∙ ap (λ m. n / m) (sym (pow-suc 256 i))

low_first : (i k n : ℕ) → bytes_low_first i k n ≡ low_bytes k (n / 256 ^ i)
low_first i zero n = refl
low_first i (suc k) n = ap₂ (λ b bs. b ∷ bs) (byte-at i n) (low_first (suc i) k n ∙ ap (low_bytes k) (sym (next_power i n)))

pub length-bytes : (n : ℕ) → to_le_bytes w64 n ≡ length_bytes n
unfolding length_bytes
length-bytes n = low_first 0 8 n ∙ ap (low_bytes 8) (div-one n)

cast-bits : (z : ℤ) → cast_unsigned w128 z ≡ bits_128 z
unfolding bits_128
cast-bits (pos n) = refl
cast-bits (negsuc n) = refl

pub number-bytes : (z : ℤ) → to_le_bytes w128 (cast_unsigned w128 z) ≡ number_bytes z
unfolding number_bytes
number-bytes z = low_first 0 16 (cast_unsigned w128 z) ∙ ap (low_bytes 16) (div-one (cast_unsigned w128 z) ∙ cast-bits z)

low_count : (k n : ℕ) → length (low_bytes k n) ≡ k
low_count zero n = refl
low_count (suc k) n = ap suc (low_count k (n / 256))

pub length_count : (n : ℕ) → length (length_bytes n) ≡ 8
unfolding length_bytes
length_count n = low_count 8 n

pub number_count : (z : ℤ) → length (number_bytes z) ≡ 16
unfolding number_bytes
number_count z = low_count 16 (bits_128 z)

zeros : ℕ → List ℕ
zeros n = replicate n 0

more_zeros : (n : ℕ) → zeros (suc n) ≡ zeros n ++ 0 ∷ []
unfolding zeros
more_zeros zero = refl
more_zeros (suc n) = ap (λ bs. 0 ∷ bs) (more_zeros n)

pub one_more_zero : (n : ℕ) → replicate {A = ℕ} (n + 1) 0 ≡ replicate n 0 ++ 0 ∷ []
unfolding zeros
one_more_zero n = let e : n + 1 ≡ suc n = omega arith in ap zeros e ∙ more_zeros n
