-- The bits of picked slots under a mask.
use Rattle.std.proofs.Common.{◌≡◌, ℕ, zero, suc, ◌+◌, ◌≤◌, ◌<◌, Bool, true, false, nat_eq, List, [], ◌∷◌, ◌++◌, length, map, take, drop, get_or, replicate, refl, ap, sym, ◌∙◌, arith, Option, Some, None}
use Rattle.std.specs.Prelude.{◌&&◌, if◌then◌else◌}
use Rattle.std.specs.List.{list_all}
use Rattle.std.proofs.Math.Dec.{eqb-suc-zero}
use Rattle.std.proofs.lemmas.Bool.{false≢true}
use Rattle.std.proofs.lemmas.List.{map-append}
use Rattle.std.proofs.lemmas.List.Folds.{list_all-append}
use Rattle.arrow_buffers.specs.Bits.{Bits, same, plain}
use Rattle.arrow_flat.proofs.Lists.{map-same}
use Rattle.arrow_canon.specs.Picks.{pick, span, valid_place, picked_mask}
use Rattle.arrow_canon.specs.Runs.{places, places_of}
use Rattle.arrow_canon.specs.declared.run.Run.{Run}
use Rattle.arrow_canon.proofs.Places.{map_replicate, picks_part, places_step}

pub bits_slots : (a n : ℕ) → replicate n true ≡ map (valid_place None) (span a n)
bits_slots a zero = refl
bits_slots a (suc n) = ap (λ bs. true ∷ bs) (bits_slots (a + 1) n)

pub bits_fill : (m : Option Bits) (n : ℕ) → replicate n false ≡ map (valid_place m) (replicate n None)
bits_fill m n = sym (map_replicate (valid_place m) None n)

one_bit : (b : Bits) (p : Option ℕ) → pick false b.bits p ≡ valid_place (Some b) p
one_bit b None = refl
one_bit b (Some i) = refl

pub bits_part : (b : Bits) (a n : ℕ) → a + n ≤ length b.bits → take n (drop a b.bits) ≡ map (valid_place (Some b)) (span a n)
bits_part b a n h = picks_part false b.bits a n h ∙ map-same (pick false b.bits) (valid_place (Some b)) (one_bit b) (span a n)

-- ---- whether each bit is set

abbrev all_set : List (Option ℕ) → Bool
all_set ps = list_all same (map (valid_place None) ps)

pub all_slots : (a n : ℕ) → all_set (span a n) ≡ true
all_slots a zero = refl
all_slots a (suc n) = all_slots (a + 1) n

pub all_fill : (n : ℕ) → all_set (replicate n None) ≡ nat_eq n 0
all_fill zero = refl
all_fill (suc n) = sym (eqb-suc-zero n)

all_more : (ps qs : List (Option ℕ)) → all_set (ps ++ qs) ≡ (all_set ps && all_set qs)
all_more ps qs = ap (list_all same) (map-append (valid_place None) ps qs) ∙ list_all-append same (map (valid_place None) ps) (map (valid_place None) qs)

both_true : (a b : Bool) → a ≡ true → b ≡ true → (a && b) ≡ true
both_true true b h k = k
both_true false b h k = absurd (false≢true h)

and_false : (a b : Bool) → b ≡ false → (a && b) ≡ false
and_false true b h = h
and_false false b h = refl

false_and : (a b : Bool) → a ≡ false → (a && b) ≡ false
false_and true b h = absurd (false≢true (sym h))
false_and false b h = refl

pub all_step : (rs : List Run) (i : ℕ) (d : Run) → i < length rs → all_set (places (take i rs)) ≡ true → all_set (places_of (get_or rs i d)) ≡ true → all_set (places (take (i + 1) rs)) ≡ true
all_step rs i d h e f =
    ap all_set (places_step rs i d h) ∙ all_more (places (take i rs)) (places_of (get_or rs i d)) ∙ both_true (all_set (places (take i rs))) (all_set (places_of (get_or rs i d))) e f

pub all_false : (rs : List Run) (i : ℕ) (d : Run) → i < length rs → all_set (places_of (get_or rs i d)) ≡ false → all_set (places rs) ≡ false
all_false [] i d h e = absurd (omega (arith, h))
all_false (r ∷ rs) zero d h e = all_more (places_of r) (places rs) ∙ false_and (all_set (places_of r)) (all_set (places rs)) e
all_false (r ∷ rs) (suc i) d h e = all_more (places_of r) (places rs) ∙ and_false (all_set (places_of r)) (all_set (places rs)) (all_false rs i d (omega (arith, h)) e)

-- no mask where each is
pub no_mask : (m : Option Bits) (ps : List (Option ℕ)) → m ≡ None → all_set ps ≡ true → None ≡ picked_mask m ps
no_mask m ps e h =
    let by_all : Bool → Option Bits = λ all. if all then None else Some (plain (map (valid_place None) ps)) in
    sym (ap (λ m. picked_mask m ps) e ∙ ap by_all h)
