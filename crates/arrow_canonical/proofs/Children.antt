-- The children of an array by their position.
use Rattle.std.proofs.Common.{◌≡◌, ℕ, zero, suc, ◌<◌, List, [], ◌∷◌, length, get_or, ap, sym, ◌∙◌, subst, arith}
use Rattle.std.specs.Prelude.{IfOk, Result, Ok, Err}
use Rattle.arrow_layout.specs.Layouts.{Layout, layouts, length_of}
use Rattle.arrow_layout.specs.WellFormed.{AreWellFormed}

pub ok_then : {A E : Type 0} (r : Result A E) (P Q : A → Type 0) → ((a : A) → P a → Q a) → IfOk r P → IfOk r Q
ok_then (Ok a) P Q f h = f a h
ok_then (Err e) P Q f h = h

pub same_child : (ls : List Layout) (k : ℕ) (a b : Layout) → k < length ls → a ≡ get_or ls k a → b ≡ get_or ls k b → a ≡ b
same_child [] k a b h p q = absurd (omega (arith, h))
same_child (l ∷ ls) zero a b h p q = p ∙ sym q
same_child (l ∷ ls) (suc k) a b h p q = same_child ls k a b (omega (arith, h)) p q

-- what holds of the child that was read
pub of_child : (P : Layout → Type 0) (ls : List Layout) (k : ℕ) (a : Layout) → k < length ls → a ≡ get_or ls k a → P a → (b : Layout) → b ≡ get_or ls k b → P b
of_child P ls k a h p x b q = subst P (same_child ls k a b h p q) x

pub child_long : (n : ℕ) (ls : List Layout) (k : ℕ) (l : Layout) → AreWellFormed (λ i. i ≡ n) (layouts ls) → k < length ls → l ≡ get_or ls k l → length_of l ≡ n
child_long n [] k l w h e = absurd (omega (arith, h))
child_long n (c ∷ ls) zero l w h e = ap length_of e ∙ w.0
child_long n (c ∷ ls) (suc k) l w h e = child_long n ls k l w.2 (omega (arith, h)) e
