-- The filling of a type that columns have is one of its slots.
use Rattle.std.proofs.Common.{Bool, List, None, Option, Some, [], arith, cond, false, get_or, int_eq, length, negsuc, pos, suc, true, zero, ℕ, ℤ, ◌+◌, ◌<◌, ◌∷◌, ◌≡◌}
use Rattle.arrow_types.specs.Carried.{AreCarried, AreIds, IsBelow, IsCarried, count_fields}
use Rattle.arrow_types.specs.Select.{first_number, last_place, number_limit, select, nat_of}
use Rattle.arrow_types.specs.TypeData.{FieldList, TypeData, and_field, no_fields}
use Rattle.arrow_flat.specs.Slots.{null, list_of_slots}
use Rattle.arrow_layout.specs.SlotsOf.{AreParts, IsPart, IsSlot, fill, fills}
use Rattle.arrow_types.specs.TypeData as T

chosen_below : (b : Bool) (i found m : ℕ) → i < m → found < m → cond b i found < m
chosen_below true i found m h k = h
chosen_below false i found m h k = k

place_below_end : (found i m : ℕ) (ids : List ℤ) (z : ℤ) → i + length ids ≡ m → found < m → last_place found i ids z < m
place_below_end found i m [] z e h = h
place_below_end found i m (id ∷ ids) z e h =
    place_below_end (cond (int_eq id z) i found) (suc i) m ids z (omega arith) (chosen_below (int_eq id z) i found m (omega arith) h)

-- a legal number selects a field
pub select_below : (ids : Option (List ℤ)) (n t : ℕ) → 0 < n → AreIds ids n → t < number_limit ids n → select ids t < n
select_below None n t z a h = h
select_below (Some ids) n t z a h = place_below_end 0 0 n ids (pos t) (omega (arith, a.0)) z

below_nat : (n : ℕ) (z : ℤ) → IsBelow n z → nat_of z < n
below_nat n (pos k) h = h
below_nat n (negsuc k) h = absurd h

pub first_legal : (ids : Option (List ℤ)) (n : ℕ) → 0 < n → AreIds ids n → first_number ids < number_limit ids n
first_legal None n z a = z
first_legal (Some []) n z a = omega arith
first_legal (Some (id ∷ ids)) n z a = below_nat 128 id a.1.0

mutual
  pub fill_is_slot : (t : TypeData) → IsCarried t → IsSlot t (fill t)
  fill_is_slot (T.union fs ids mode) c =
      let legal : first_number ids < number_limit ids (count_fields fs) = first_legal ids (count_fields fs) c.0 c.2 in
      (legal, fill_is_part fs c.3 (select ids (first_number ids)) (select_below ids (count_fields fs) (first_number ids) c.0 c.2 legal))
  fill_is_slot (T.extension n t m) c = fill_is_slot t c
  fill_is_slot T.unknown c = absurd c
  fill_is_slot (T.list (T.field n t b m)) c = tt
  fill_is_slot (T.large_list (T.field n t b m)) c = tt
  fill_is_slot (T.map (T.field n t b m) o) c = tt
  fill_is_slot (T.fixed_size_list (T.field n t b m) k) c = tt
  fill_is_slot _ c = tt

  fill_is_part : (fs : FieldList) → AreCarried fs → (i : ℕ) → i < count_fields fs → IsPart fs i (get_or (list_of_slots (fills fs)) i null)
  fill_is_part no_fields c i h = absurd (omega arith)
  fill_is_part (and_field (T.field n t b m) fs) c zero h = fill_is_slot t c.0
  fill_is_part (and_field (T.field n t b m) fs) c (suc i) h = fill_is_part fs c.1 i (omega arith)

pub fills_are_parts : (fs : FieldList) → AreCarried fs → AreParts fs (fills fs)
fills_are_parts no_fields c = tt
fills_are_parts (and_field (T.field n t b m) fs) c = (fill_is_slot t c.0, fills_are_parts fs c.1)
