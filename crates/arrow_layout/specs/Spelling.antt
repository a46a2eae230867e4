-- The bytes that spell a slot: a tag for its kind, and its parts.
use Rattle.std.specs.Prelude.{ℕ, zero, suc, ◌-◌, ◌^◌, ◌/◌, ◌%◌, ◌<◌, ℤ, pos, negsuc, cond, List, [], ◌∷◌, ◌++◌, length, flat_map, ⊤}
use Rattle.arrow_flat.specs.Slots.{Slot, null, bool, num, bytes, items, parts, chosen, Slots, no_slots, slot, list_of_slots}

-- The k lowest bytes, lowest first.
abbrev pub low_bytes : ℕ → ℕ → List ℕ
low_bytes zero n = []
low_bytes (suc k) n = n % 256 ∷ low_bytes k (n / 256)

-- Two's complement at 128 bits.
unfoldable pub bits_128 : ℤ → ℕ
bits_128 (pos n) = n
bits_128 (negsuc n) = 2 ^ 128 - suc n

unfoldable pub number_bytes : ℤ → List ℕ
number_bytes z = low_bytes 16 (bits_128 z)

unfoldable pub length_bytes : ℕ → List ℕ
length_bytes n = low_bytes 8 n

-- A number takes 16 bytes, a length 8.
abbrev mutual
  pub slot_bytes : Slot → List ℕ
  slot_bytes null = 0 ∷ []
  slot_bytes (bool b) = 1 ∷ cond b 1 0 ∷ []
  slot_bytes (num zs) = 2 ∷ flat_map number_bytes zs
  slot_bytes (bytes bs) = 3 ∷ (length_bytes (length bs) ++ bs)
  slot_bytes (items xs) = 4 ∷ (length_bytes (length (list_of_slots xs)) ++ slots_bytes xs)
  slot_bytes (parts xs) = 5 ∷ slots_bytes xs
  slot_bytes (chosen t x) = 6 ∷ t ∷ slot_bytes x

  pub slots_bytes : Slots → List ℕ
  slots_bytes no_slots = []
  slots_bytes (slot x xs) = slot_bytes x ++ slots_bytes xs

-- Each length in the slot is one of a usize.
abbrev mutual
  pub IsShort : Slot → Type 0
  IsShort null = ⊤
  IsShort (bool b) = ⊤
  IsShort (num zs) = ⊤
  IsShort (bytes bs) = length bs < 2 ^ 64
  IsShort (items xs) = (length (list_of_slots xs) < 2 ^ 64) × AreShort xs
  IsShort (parts xs) = AreShort xs
  IsShort (chosen t x) = IsShort x

  pub AreShort : Slots → Type 0
  AreShort no_slots = ⊤
  AreShort (slot x xs) = IsShort x × AreShort xs
