-- Spans and fillings that are joined, and runs within a count of slots.
use Rattle.std.proofs.Common.{◌≡◌, ℕ, zero, suc, ◌+◌, ◌≤◌, ◌<◌, List, [], ◌∷◌, ◌++◌, length, map, get_or, replicate, flat_map, length-append, ap, sym, ◌∙◌, arith, Option, Some}
use Rattle.std.specs.List.{range_with_len}
use Rattle.std.proofs.lemmas.Grind.{flat_map-append}
use Rattle.std.proofs.lemmas.List.{map-append}
use Rattle.arrow_canon.specs.Picks.{span}
use Rattle.arrow_canon.specs.Runs.{places, places_of, IsWithin, AreWithin}
use Rattle.arrow_canon.specs.declared.run.Run.{Run}

range_join : (a n b m : ℕ) → a + n ≡ b → range_with_len a n ++ range_with_len b m ≡ range_with_len a (n + m)
range_join a zero b m e = let f : b ≡ a = omega (arith, e) in let g : 0 + m ≡ m = omega arith in ap (λ c. range_with_len c m) f ∙ ap (range_with_len a) (sym g)
range_join a (suc n) b m e =
    let g : suc n + m ≡ suc (n + m) = omega arith in
    ap (λ ys. a ∷ ys) (range_join (a + 1) n b m (omega (arith, e))) ∙ ap (range_with_len a) (sym g)

pub span_join : (a n b m : ℕ) → a + n ≡ b → span a n ++ span b m ≡ span a (n + m)
span_join a n b m e = sym (map-append Some (range_with_len a n) (range_with_len b m)) ∙ ap (map Some) (range_join a n b m e)

pub replicate_join : {A : Type 0} (x : A) (n m : ℕ) → replicate n x ++ replicate m x ≡ replicate (n + m) x
replicate_join x zero m = let g : 0 + m ≡ m = omega arith in ap (λ k. replicate k x) (sym g)
replicate_join x (suc n) m = let g : suc n + m ≡ suc (n + m) = omega arith in ap (λ ys. x ∷ ys) (replicate_join x n m) ∙ ap (λ k. replicate k x) (sym g)

pub within_more : (n : ℕ) (rs : List Run) (r : Run) → AreWithin n rs → IsWithin n r → AreWithin n (rs ++ r ∷ [])
within_more n [] r h k = (k, tt)
within_more n (q ∷ rs) r h k = (h.0, within_more n rs r h.1 k)

pub within_front : (n : ℕ) (rs : List Run) (r : Run) → AreWithin n (rs ++ r ∷ []) → AreWithin n rs
within_front n [] r h = tt
within_front n (q ∷ rs) r h = (h.0, within_front n rs r h.1)

pub within_last : (n : ℕ) (rs : List Run) (r : Run) → AreWithin n (rs ++ r ∷ []) → IsWithin n r
within_last n [] r h = h.0
within_last n (q ∷ rs) r h = within_last n rs r h.1

-- what one of the runs is made into is part of what all are
pub joined_part : {A : Type 0} (f : Option ℕ → List A) (rs : List Run) (i : ℕ) (d : Run) → i < length rs
    → length (flat_map f (places_of (get_or rs i d))) ≤ length (flat_map f (places rs))
joined_part f [] i d h = absurd (omega (arith, h))
joined_part f (r ∷ rs) zero d h = omega (arith, ap length (flat_map-append f (places_of r) (places rs)), length-append (flat_map f (places_of r)) (flat_map f (places rs)))
joined_part f (r ∷ rs) (suc i) d h =
    omega (arith, joined_part f rs i d (omega (arith, h)), ap length (flat_map-append f (places_of r) (places rs)), length-append (flat_map f (places_of r)) (flat_map f (places rs)))
