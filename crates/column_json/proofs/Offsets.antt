-- An offset of an array is not negative.
use Rattle.std.proofs.Common.{◌≡◌, ◌<◌, ℕ, List, length, get_or, map, ap, sym, ◌∙◌, subst, arith}
use Rattle.std.specs.Prelude.{ℤ, pos, ◌≤ℤ◌}
use Rattle.std.proofs.lemmas.Int.{ints}
use Rattle.std.proofs.lemmas.List.{get_or-map, length-map}
use Rattle.arrow_buffers.specs.Offsets.{AreOffsets, first_of}
use Rattle.arrow_buffers.proofs.Ascending.{offsets_at}

from_first : (a : ℕ) (z : ℤ) → pos a ≤ℤ z → pos 0 ≤ℤ z
from_first a z h = omega (arith, ints, h)

pub offset_positive : {O : Type 0} (number : O → ℤ) (limit : ℕ) (xs : List O) (i : ℕ) (x : O) → AreOffsets limit (map number xs) → i < length xs → x ≡ get_or xs i x
    → pos 0 ≤ℤ number x
offset_positive number limit xs i x h l e =
    let at : get_or (map number xs) i (number x) ≡ number x = get_or-map number xs i x (number x) l ∙ ap number (sym e) in
    from_first (first_of (map number xs)) (number x) (subst (λ z. pos (first_of (map number xs)) ≤ℤ z) at (offsets_at limit (map number xs) i (number x) h (omega (arith, l, length-map xs number))).0)

-- the same offsets, by another name
pub same_offsets : {O : Type 0} (number : O → ℤ) (limit : ℕ) (xs ys : List O) → ys ≡ xs → AreOffsets limit (map number xs) → AreOffsets limit (map number ys)
same_offsets number limit xs ys e h = subst (λ zs. AreOffsets limit (map number zs)) (sym e) h
