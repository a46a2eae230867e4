-- The runs that the slots of dense unions are dealt to.
use Rattle.std.proofs.Common.{◌≡◌, ℕ, zero, suc, ◌+◌, ◌<◌, List, [], ◌∷◌, length, map, get_or, refl, ap, sym, ◌∙◌, subst, arith, Option}
use Rattle.std.specs.Global.{Vec}
use Rattle.std.specs.List.{range_with_len}
use Rattle.std.proofs.lemmas.List.{length-map}
use Rattle.arrow_canon.specs.Runs.{AreWithin, places}
use Rattle.arrow_canon.specs.declared.run.Run.{Run}

pub mapped_at : {A B : Type 0} (g : A → B) (xs : List A) (j : ℕ) (d : A) (e : B) → j < length xs → get_or (map g xs) j e ≡ g (get_or xs j d)
mapped_at g [] j d e h = absurd (omega (arith, h))
mapped_at g (x ∷ xs) zero d e h = refl
mapped_at g (x ∷ xs) (suc j) d e h = mapped_at g xs j d e (omega (arith, h))

module _ {A : Type 0} (f : ℕ → A) where
  range_at : (a n j : ℕ) (e : A) → j < n → get_or (map f (range_with_len a n)) j e ≡ f (a + j)
  range_at a zero j e h = absurd (omega (arith, h))
  range_at a (suc n) zero e h = let q : a ≡ a + 0 = omega arith in ap f q
  range_at a (suc n) (suc j) e h = let q : (a + 1) + j ≡ a + suc j = omega arith in range_at (a + 1) n j e (omega (arith, h)) ∙ ap f q

  range_count : (a n : ℕ) → length (map f (range_with_len a n)) ≡ n
  range_count a zero = refl
  range_count a (suc n) = ap suc (range_count (a + 1) n)

  module _ {B : Type 0} (g : B → A) (xs : List B) (n : ℕ) (same : map g xs ≡ map f (range_with_len 0 n)) where
    pub dealt_count : length xs ≡ n
    dealt_count = sym (length-map xs g) ∙ (ap length same ∙ range_count 0 n)

    pub dealt_at : (j : ℕ) (d : B) → j < n → g (get_or xs j d) ≡ f j
    dealt_at j d h =
        let q : 0 + j ≡ j = omega arith in
        sym (mapped_at g xs j d (g d) (omega (arith, h, dealt_count))) ∙ (ap (λ ys. get_or ys j (g d)) same ∙ (range_at 0 n j (g d) h ∙ ap f q))

-- ---- one of the lists of runs

module _ (f : ℕ → List (Option ℕ)) (xs : List (Vec Run)) (n : ℕ) (same : map (λ r. places r.items) xs ≡ map f (range_with_len 0 n)) (j : ℕ) (x : Vec Run) (h : j < n) (is : x ≡ get_or xs j x) where
  pub dealt_places : places x.items ≡ f j
  dealt_places = ap (λ r. places r.items) is ∙ dealt_at f (λ r. places r.items) xs n same j x h

  pub dealt_within : (k : ℕ) → AreWithin k (get_or (map (λ r. r.items) xs) j []) → AreWithin k x.items
  dealt_within k w =
      let long : j < length xs = omega (arith, h, dealt_count f (λ r. places r.items) xs n same) in
      let at : get_or (map (λ r. r.items) xs) j [] ≡ x.items = mapped_at (λ r. r.items) xs j x [] long ∙ ap (λ r. r.items) (sym is) in
      subst (AreWithin k) at w
