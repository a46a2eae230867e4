-- Items that are made in memory, and an iterator over them.
use Rattle.std.specs.Prelude.{◌≡◌, ℕ, List, [], ◌∷◌, ◌++◌, slice_get, Option, Some, None, ⊤, Result, IfOk, MatchOption}

-- An optional item stands for an optional slot.
abbrev pub StandsIfValid : {A B : Type 0} → (A → B → Type 0) → Option A → Option B → Type 0
StandsIfValid stands None None = ⊤
StandsIfValid stands None (Some y) = ⊥
StandsIfValid stands (Some x) None = ⊥
StandsIfValid stands (Some x) (Some y) = stands x y

-- The item stands for what is at position i of the list.
abbrev pub StandsAt : {A B : Type 0} → (A → B → Type 0) → List B → ℕ → A → Type 0
StandsAt {B = B} stands ys i x = (y : B) × (slice_get ys i ≡ Some y) × stands x y

-- An item that could be made stands for what was wanted. Where it couldn't be, its position is
-- passed all the same.
abbrev pub StandsIfMade : {A B E : Type 0} → (A → B → Type 0) → Result A E → B → Type 0
StandsIfMade stands r y = IfOk r (λ x. stands x y)

abbrev pub MadeAt : {A B E : Type 0} → (A → B → Type 0) → List B → ℕ → Result A E → Type 0
MadeAt stands ys i r = StandsAt (StandsIfMade stands) ys i r

module _ {S A B : Type 0} (stands : A → B → Type 0) (rest : S → List B) where
  -- A call from s gave an item for the first of what was left and left the others, or gave `None`
  -- where nothing was left.
  abbrev pub YieldsFirstAs : S → Option A → S → Type 0
  YieldsFirstAs s r t =
      MatchOption r ((rest s ≡ []) × (rest t ≡ []))
      (λ x. (y : B) × (rest s ≡ y ∷ rest t) × stands x y)

  -- The same from the back.
  abbrev pub YieldsLastAs : S → Option A → S → Type 0
  YieldsLastAs s r t =
      MatchOption r ((rest s ≡ []) × (rest t ≡ []))
      (λ x. (y : B) × (rest s ≡ rest t ++ y ∷ []) × stands x y)
