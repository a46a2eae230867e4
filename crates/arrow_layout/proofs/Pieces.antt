-- Lists that are joined, and split again.
use Rattle.std.proofs.Common.{List, [], ap, append_assoc, ap₂, arith, drop, drop_at, flat_map, length, length-append, map, pos, refl, take, take_at, ℕ, ◌++◌, ◌+◌, ◌-◌, ◌∷◌, ◌≡◌}
use Rattle.std.specs.List.{AllByRecursion}
use Rattle.arrow_types.specs.Select.{nat_of}
use Rattle.arrow_layout.specs.Canon.{sums_from, offsets}
use Rattle.arrow_flat.specs.Pieces.{chunks, pieces, pieces_from}

pub to_nat-pos : (ns : List ℕ) → map nat_of (map pos ns) ≡ ns
to_nat-pos [] = refl
to_nat-pos (n ∷ ns) = ap (λ ms. n ∷ ms) (to_nat-pos ns)

one_piece : {A : Type 0} (front xs more : List A) (a : ℕ) → length front ≡ a → take ((a + length xs) - a) (drop a (front ++ (xs ++ more))) ≡ xs
one_piece front xs more a e =
    let n : (a + length xs) - a ≡ length xs = omega arith in
    rw (n, drop_at front (xs ++ more) a e, take_at xs more (length xs) refl)

pieces_after : {A B : Type 0} (g : B → List A) (s : List B) (front : List A) (a : ℕ) → length front ≡ a
    → pieces_from a (sums_from a (map (λ x. length (g x)) s)) (front ++ flat_map g s) ≡ map g s
pieces_after g [] front a e = refl
pieces_after g (x ∷ s) front a e =
    ap₂ (λ y ys. y ∷ ys) (one_piece front (g x) (flat_map g s) a e)
    (rw (← append_assoc front (g x) (flat_map g s)) (pieces_after g s (front ++ g x) (a + length (g x)) (omega (arith, length-append front (g x)))))

-- the prefix sums of the lengths split the joined list
pub pieces_joined : {A B : Type 0} (g : B → List A) (s : List B) → pieces (map nat_of (offsets (map (λ x. length (g x)) s))) (flat_map g s) ≡ map g s
pieces_joined g s = rw (to_nat-pos (sums_from 0 (map (λ x. length (g x)) s))) (pieces_after g s [] 0 refl)

pub chunks_joined : {A B : Type 0} (k : ℕ) (g : B → List A) (s : List B) → AllByRecursion (λ x. length (g x) ≡ k) s → chunks k (length s) (flat_map g s) ≡ map g s
chunks_joined k g [] h = refl
chunks_joined k g (x ∷ s) h =
    ap₂ (λ y ys. y ∷ ys) (take_at (g x) (flat_map g s) k h.0)
    (rw (drop_at (g x) (flat_map g s) k h.0) (chunks_joined k g s h.1))
