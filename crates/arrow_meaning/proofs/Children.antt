-- The children of an array, one after the other.
use Rattle.std.proofs.Common.{◌≡◌, ℕ, zero, suc, ◌+◌, ◌*◌, ◌<◌, ◌≤◌, List, [], ◌∷◌, length, take, map, get_or, refl, ap, sym, subst, arith}
use denote.Param.Weighed.{most}
use Rattle.arrow_layout.specs.Cut.{cut, cut_each}
use Rattle.arrow_layout.specs.FitsHere.{AllWellFormed, HaveLengths}
use Rattle.arrow_layout.specs.Layouts.{Layout, layouts, child, length_of}
use Rattle.arrow_layout.specs.NodeCount.{node_count, node_counts}
use Rattle.arrow_layout.specs.WellFormed.{WellFormed}
use Rattle.arrow_meaning.specs.declared.array.ArrayRef.TheDeep.{size-ArrayRef}

pub all_well_formed_step : (ls : List Layout) (i : ℕ) (l : Layout) → i < length ls → AllWellFormed (layouts (take i ls)) → l ≡ get_or ls i l → WellFormed l → AllWellFormed (layouts (take (suc i) ls))
all_well_formed_step [] i l h a e w = tt
all_well_formed_step (k ∷ ls) zero l h a e w = (subst WellFormed e w, tt)
all_well_formed_step (k ∷ ls) (suc i) l h a e w = (a.0, all_well_formed_step ls i l (omega (arith, h)) a.1 e w)

pub layouts-map-cut : (ls : List Layout) (o n : ℕ) → layouts (map (λ l. cut l o n) ls) ≡ cut_each (layouts ls) o n
layouts-map-cut [] o n = refl
layouts-map-cut (l ∷ ls) o n = ap (child (cut l o n)) (layouts-map-cut ls o n)

pub least_at : (n : ℕ) (ls : List Layout) (i : ℕ) (d : Layout) → i < length ls → HaveLengths (λ k. n ≤ k) (layouts ls) → n ≤ length_of (get_or ls i d)
least_at n [] i d h w = absurd (omega (arith, h))
least_at n (l ∷ ls) zero d h w = w.0
least_at n (l ∷ ls) (suc i) d h w = least_at n ls i d (omega (arith, h)) w.1

size-node_count : (l : Layout) → size-ArrayRef l ≡ 2 * (node_count l + 1)
size-node_count l = omega arith

most-node_count : (ls : List Layout) → most size-ArrayRef ls ≤ 2 * (node_counts (layouts ls) + 1)
most-node_count [] = omega arith
most-node_count (l ∷ ls) = omega (arith, most-node_count ls, size-node_count l)

-- the children, passed on as `xs`, are smaller than their array
pub children_fall : (l : Layout) (ls xs : List Layout) → node_count l ≡ node_counts (layouts ls) + 1 → xs ≡ ls → most size-ArrayRef xs < size-ArrayRef l
children_fall l ls xs e s =
    omega (arith, e, subst (λ ys. most size-ArrayRef ys ≤ 2 * (node_counts (layouts ls) + 1)) (sym s) (most-node_count ls), size-node_count l)

pub most_at : (ls : List Layout) (i : ℕ) (d : Layout) → i < length ls → size-ArrayRef (get_or ls i d) ≤ most size-ArrayRef ls
most_at [] i d h = absurd (omega (arith, h))
most_at (l ∷ ls) zero d h = omega arith
most_at (l ∷ ls) (suc i) d h = omega (arith, most_at ls i d (omega (arith, h)))
