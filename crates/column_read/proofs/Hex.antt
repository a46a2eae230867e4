-- Bytes that are in range.
use Rattle.std.proofs.Common.{◌≡◌, ℕ, suc, List, [], ◌∷◌, refl, ap, ◌∙◌, Ok}
use Rattle.std.proofs.Math.Nat.{mod-eq_of_lt}
use Rattle.std.specs.Prelude.{List}
use Rattle.hex.specs.Hex.{IsBytes, decode_of}
use Rattle.hex.proofs.HexLemmas.{decode_of-ok}
use Rattle.arrow_flat.specs.Natives.{octets}

pub octets-bytes : (bs : List ℕ) → IsBytes bs → octets bs ≡ bs
octets-bytes [] h = refl
octets-bytes (b ∷ bs) h =
    ap (λ n. n ∷ octets bs) (mod-eq_of_lt (h 0)) ∙ ap (λ l. b ∷ l) (octets-bytes bs (λ i. h (suc i)))

-- what decodes fits into bytes
pub fits : (text bs : List ℕ) → decode_of text ≡ Ok bs → octets bs ≡ bs
fits text bs e = octets-bytes bs (decode_of-ok text bs e).3
