-- Bytes that the program holds are their own numbers.
use Rattle.std.proofs.Common.{◌≡◌, ◌<◌, ◌%◌, ℕ, zero, suc, List, [], ◌∷◌, get_or, refl, ap, sym, ◌∙◌, arith}
use Rattle.std.specs.Prelude.{ℤ}
use Rattle.std.specs.Int.{w128, cast_unsigned, to_be_bytes}
use Rattle.std.specs.Int.RustNames.{FitsSigned}
use Rattle.std.proofs.lemmas.Int.{int_wrap_fits}
use Rattle.arrow_flat.specs.Natives.{octets, signed}
use Rattle.arrow_types.specs.declared.datatype.PrimitiveType.TheVariants as primitive
use Rattle.arrow_flat.specs.Natives.{AreBytes}
use Rattle.column_grammar.specs.Values.{bytes_value, number_value}
use Rattle.column_grammar.proofs.NumbersBack.{bytes_of, high_are}

pub octets_bytes : (bs : List ℕ) → AreBytes bs → octets bs ≡ bs
octets_bytes [] h = refl
octets_bytes (b ∷ bs) h = let same : b % 256 ≡ b = omega (arith, h.0) in ap (λ x. x ∷ octets bs) same ∙ ap (λ xs. b ∷ xs) (octets_bytes bs h.1)

bytes_from : (bs : List ℕ) → ((i : ℕ) → get_or bs i 0 < 256) → AreBytes bs
bytes_from [] h = tt
bytes_from (b ∷ bs) h = (h zero, bytes_from bs (λ i. h (suc i)))

pub octets_same : (bs : List ℕ) → ((i : ℕ) → get_or bs i 0 < 256) → octets bs ≡ bs
octets_same bs h = octets_bytes bs (bytes_from bs h)

-- a number of 128 bits, by its bytes
pub written_128 : (z y : ℤ) (bs : List ℕ) → FitsSigned w128 z → y ≡ z → bs ≡ to_be_bytes w128 (cast_unsigned w128 y)
    → bytes_value (octets bs) ≡ number_value primitive.Int128 (signed w128 z)
written_128 z y bs h same e =
    ap (λ x. bytes_value (octets x)) (e ∙ ap bytes_of same) ∙ ap bytes_value (octets_bytes (bytes_of z) (high_are 16 (cast_unsigned w128 z)))
    ∙ ap (λ x. bytes_value (bytes_of x)) (sym (int_wrap_fits w128 z h))
