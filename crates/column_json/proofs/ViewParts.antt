-- What a view's bytes say.
use Rattle.std.proofs.Common.{◌≡◌, ◌<◌, ◌≤◌, ℕ, List, [], ◌∷◌, take, drop, ap, ◌∙◌, arith}
use Rattle.std.specs.Prelude.{pos}
use Rattle.arrow_flat.specs.Natives.{octets}
use Rattle.arrow_flat.specs.Views.{View, inline, long, view_length}
use Rattle.arrow_views.specs.ViewParts.{bytes_of, buffer_of, offset_of, IsPlaced}
use Rattle.arrow_flat.proofs.Lists.{all_take}
use Rattle.column_grammar.specs.Values.{bytes_value, integer_value, list_value}
use Rattle.column_grammar.specs.Writes.{view_value}
use Rattle.column_json.proofs.Octets.{octets_bytes}

-- the bytes of a short value, and how they are written
pub inline_value : (w : View) (n : ℕ) (all value : List ℕ) → view_length w ≤ 12 → IsPlaced w → n ≡ view_length w → all ≡ bytes_of w → value ≡ take n (drop 4 all)
    → bytes_value (octets value) ≡ view_value w
inline_value (inline k bs) n all value few placed count is from =
    let whole : value ≡ take k bs = from ∙ ap (λ xs. take n (drop 4 xs)) is ∙ ap (λ c. take c bs) count in
    ap (λ xs. bytes_value (octets xs)) whole ∙ ap bytes_value (octets_bytes (take k bs) (all_take (λ b. b < 256) k bs placed.2))
inline_value (long k p b o) n all value few placed count is from = let many = placed.0 in absurd (omega (arith, few, many))

-- the numbers of a long value
pub long_value : (w : View) (n b o : ℕ) → 12 < view_length w → IsPlaced w → n ≡ view_length w → b ≡ buffer_of w → o ≡ offset_of w
    → list_value (integer_value (pos n) ∷ integer_value (pos b) ∷ integer_value (pos o) ∷ []) ≡ view_value w
long_value (inline k bs) n b o many placed en eb eo = let few = placed.0 in absurd (omega (arith, many, few))
long_value (long k p c d) n b o many placed en eb eo = λ i. list_value (integer_value (pos (en i)) ∷ integer_value (pos (eb i)) ∷ integer_value (pos (eo i)) ∷ [])
