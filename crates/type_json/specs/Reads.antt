-- What a reader answers, and what a maker of arrays does.
use Rattle.std.specs.Prelude.{◌≡◌, Option, Some, None, Result, MatchResult}

-- The result is what was found, seen so, or the refusal where nothing is found. It may also be another error, as for memory.
abbrev pub Reads : {A B E : Type 0} → E → (A → B) → Option B → Result A E → Type 0
Reads bad seen found result = MatchResult result (λ x. found ≡ Some (seen x)) (λ e. e ≡ bad → found ≡ None)

-- The result is a value that is seen so, or the refusal where the condition fails. It may also be another error, as for memory.
abbrev pub Makes : {A B E : Type 0} → E → (A → B) → B → Type 0 → Result A E → Type 0
Makes bad seen wanted condition result = MatchResult result (λ x. seen x ≡ wanted) (λ e. e ≡ bad → condition → ⊥)
