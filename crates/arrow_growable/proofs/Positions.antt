-- Places among which there is no filling.
use Rattle.std.proofs.Common.{◌≡◌, ℕ, zero, suc, pred, ◌+◌, ◌-◌, ◌*◌, ◌<◌, ◌≤◌, ℤ, Bool, true, false, not, cond, List, [], ◌∷◌, ◌++◌, length, map, sum, replicate, flat_map, get_or, refl, ap, ap₂, sym, ◌∙◌, subst, arith, Option, Some, None}
use Rattle.std.specs.Prelude.{⊤}
use Rattle.std.specs.List.{AllByRecursion, list_all, range_with_len}
use Rattle.std.specs.Prelude.{if◌then◌else◌}
use Rattle.std.proofs.lemmas.Bool.{false≢true}
use Rattle.std.proofs.lemmas.List.Sums.{sum_by-cons}
use Rattle.arrow_buffers.specs.Bits.{Bits, count_unset, plain, same}
use Rattle.arrow_flat.specs.Primitives.{unset_in, valid_at}
use Rattle.arrow_layout.specs.WellFormed.{MaskFits}
use Rattle.arrow_canon.specs.Picks.{ArePlaces, IsPlace, picked_mask, span, valid_place}
use Rattle.arrow_items.specs.Items.{chunk_places, item_places, kept_place, kept_places}
use Rattle.arrow_growable.specs.ChildRuns.{AreSlots, IsPosition}

pub slots_join : (ps qs : List (Option ℕ)) → AreSlots ps → AreSlots qs → AreSlots (ps ++ qs)
slots_join [] qs h k = k
slots_join (p ∷ ps) qs h k = (h.0, slots_join ps qs h.1 k)

range_slots : (a n : ℕ) → AreSlots (map Some (range_with_len a n))
range_slots a zero = tt
range_slots a (suc n) = (tt, range_slots (a + 1) n)

pub span_slots : (a n : ℕ) → AreSlots (span a n)
span_slots a n = range_slots a n

item_slots : (os : List ℕ) (p : Option ℕ) → AreSlots (item_places os p)
item_slots os None = tt
item_slots os (Some i) = span_slots (get_or os i 0) (get_or os (suc i) 0 - get_or os i 0)

-- lists have no fillings among their items
pub items_slots : (os : List ℕ) (ps : List (Option ℕ)) → AreSlots (flat_map (item_places os) ps)
items_slots os [] = tt
items_slots os (p ∷ ps) = slots_join (item_places os p) (flat_map (item_places os) ps) (item_slots os p) (items_slots os ps)

-- fixed-size lists and structs have none where no slot is null
one_chunk : (k : ℕ) (p : Option ℕ) → IsPosition p → AreSlots (chunk_places k p)
one_chunk k None h = absurd h
one_chunk k (Some i) h = span_slots (i * k) k

pub chunks_slots : (k : ℕ) (ps : List (Option ℕ)) → AreSlots ps → AreSlots (flat_map (chunk_places k) ps)
chunks_slots k [] h = tt
chunks_slots k (p ∷ ps) h = slots_join (chunk_places k p) (flat_map (chunk_places k) ps) (one_chunk k p h.0) (chunks_slots k ps h.1)

set_bit : (bits : List Bool) (i : ℕ) → count_unset bits ≡ 0 → i < length bits → get_or bits i false ≡ true
set_bit [] i z h = absurd (omega (arith, h))
set_bit (true ∷ bits) zero z h = refl
set_bit (true ∷ bits) (suc i) z h = let q = sum_by-cons (λ (b : Bool). cond (not b) 1 0) true bits in set_bit bits i (omega (arith, z, q)) (omega (arith, h))
set_bit (false ∷ bits) i z h = let q = sum_by-cons (λ (b : Bool). cond (not b) 1 0) false bits in absurd (omega (arith, z, q))

set_at : (m : Option Bits) (n i : ℕ) → unset_in m ≡ 0 → MaskFits m n → i < n → valid_at m i ≡ true
set_at None n i z f h = refl
set_at (Some b) n i z f h = set_bit b.bits i z (omega (arith, h, f.0))

one_kept : (m : Option Bits) (n : ℕ) (p : Option ℕ) → unset_in m ≡ 0 → MaskFits m n → IsPlace n p → IsPosition p → IsPosition (kept_place m p)
one_kept m n None z f w h = absurd h
one_kept m n (Some i) z f w h = subst (λ b. IsPosition (cond b (Some i) None)) (sym (set_at m n i z f w)) tt

pub kept_slots : (m : Option Bits) (n : ℕ) (ps : List (Option ℕ)) → unset_in m ≡ 0 → MaskFits m n → ArePlaces n ps → AreSlots ps → AreSlots (kept_places m ps)
kept_slots m n [] z f w h = tt
kept_slots m n (p ∷ ps) z f w h = (one_kept m n p z f w.0 h.0, kept_slots m n ps z f w.1 h.1)

-- and no mask
one_set : (m : Option Bits) (n : ℕ) (p : Option ℕ) → unset_in m ≡ 0 → MaskFits m n → IsPlace n p → IsPosition p → valid_place m p ≡ true
one_set m n None z f w h = absurd h
one_set m n (Some i) z f w h = set_at m n i z f w

all_set : (m : Option Bits) (n : ℕ) (ps : List (Option ℕ)) → unset_in m ≡ 0 → MaskFits m n → ArePlaces n ps → AreSlots ps → list_all same (map (valid_place m) ps) ≡ true
all_set m n [] z f w h = refl
all_set m n (p ∷ ps) z f w h = rw (one_set m n p z f w.0 h.0) (all_set m n ps z f w.1 h.1)

pub all_set_mask : (m : Option Bits) (n : ℕ) (ps : List (Option ℕ)) → unset_in m ≡ 0 → MaskFits m n → ArePlaces n ps → AreSlots ps → picked_mask m ps ≡ None
all_set_mask m n ps z f w h = ap (λ b. if b then None else Some (plain (map (valid_place m) ps))) (all_set m n ps z f w h)
