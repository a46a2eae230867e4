-- Which slots a type has, and the slot that says nothing.
use Rattle.arrow_flat.specs.Natives.{AreBytes}
use Rattle.std.specs.Prelude.{◌≡◌, ℕ, zero, suc, ◌^◌, ◌<◌, Bool, true, false, List, length, get_or, IsUtf8, ⊤}
use Rattle.std.specs.List.{AllByRecursion}
use Rattle.arrow_types.specs.TypeData.{TypeData, FieldList, no_fields, and_field}
use Rattle.arrow_types.specs.TypeData as T
use Rattle.arrow_types.specs.Carried.{count_fields}
use Rattle.arrow_types.specs.Select.{select, number_limit, first_number}
use Rattle.arrow_types.specs.declared.datatype.PrimitiveType.{PrimitiveType}
use Rattle.arrow_flat.specs.Slots.{Slot, null, bool, num, bytes, items, parts, chosen, Slots, no_slots, slot, list_of_slots}
use Rattle.arrow_flat.specs.Numbers.{IsNumber}
use Rattle.arrow_layout.specs.Forms.{Form, nulls_of, booleans_of, primitives_of, binaries_of, fixed_size_binaries_of, views_of, form_of}

-- A union is filled with the slot of its first number, any other type with null.
abbrev mutual
  pub fill : TypeData → Slot
  fill (T.union fs ids mode) = chosen (first_number ids) (get_or (list_of_slots (fills fs)) (select ids (first_number ids)) null)
  fill (T.extension n t m) = fill t
  fill _ = null

  pub fills : FieldList → Slots
  fills no_fields = no_slots
  fills (and_field (T.field n t b m) fs) = slot (fill t) (fills fs)

-- The bytes are text, where text is wanted.
abbrev pub IsTextIf : Bool → List ℕ → Type 0
IsTextIf true bs = IsUtf8 bs
IsTextIf false bs = ⊤

-- The slots of each kind, from those of the parts. A null is a slot of each kind but a union.
abbrev pub IsNullSlot : Slot → Type 0
IsNullSlot null = ⊤
IsNullSlot _ = ⊥

abbrev pub IsBooleanSlot : Slot → Type 0
IsBooleanSlot null = ⊤
IsBooleanSlot (bool b) = ⊤
IsBooleanSlot _ = ⊥

abbrev pub IsNumberSlot : PrimitiveType → Slot → Type 0
IsNumberSlot p null = ⊤
IsNumberSlot p (num zs) = IsNumber p zs
IsNumberSlot p _ = ⊥

abbrev pub IsBinarySlot : Bool → Slot → Type 0
IsBinarySlot text null = ⊤
IsBinarySlot text (bytes bs) = AreBytes bs × IsTextIf text bs
IsBinarySlot text _ = ⊥

abbrev pub IsFixedBinarySlot : ℕ → Slot → Type 0
IsFixedBinarySlot k null = ⊤
IsFixedBinarySlot k (bytes bs) = AreBytes bs × (length bs ≡ k)
IsFixedBinarySlot k _ = ⊥

abbrev pub IsViewSlot : Bool → Slot → Type 0
IsViewSlot text null = ⊤
IsViewSlot text (bytes bs) = AreBytes bs × IsTextIf text bs × (length bs < 2 ^ 32)
IsViewSlot text _ = ⊥

abbrev pub IsFlatSlot : Form → Slot → Type 0
IsFlatSlot nulls_of = IsNullSlot
IsFlatSlot booleans_of = IsBooleanSlot
IsFlatSlot (primitives_of p) = IsNumberSlot p
IsFlatSlot (binaries_of large text) = IsBinarySlot text
IsFlatSlot (fixed_size_binaries_of k) = IsFixedBinarySlot k
IsFlatSlot (views_of text) = IsViewSlot text
IsFlatSlot _ = λ x. ⊥

abbrev pub IsListSlot : (Slot → Type 0) → Slot → Type 0
IsListSlot P null = ⊤
IsListSlot P (items xs) = AllByRecursion P (list_of_slots xs)
IsListSlot P _ = ⊥

abbrev pub IsFixedListSlot : ℕ → (Slot → Type 0) → Slot → Type 0
IsFixedListSlot k P null = ⊤
IsFixedListSlot k P (items xs) = (length (list_of_slots xs) ≡ k) × AllByRecursion P (list_of_slots xs)
IsFixedListSlot k P _ = ⊥

abbrev pub IsStructSlot : (Slots → Type 0) → Slot → Type 0
IsStructSlot P null = ⊤
IsStructSlot P (parts xs) = P xs
IsStructSlot P _ = ⊥

abbrev pub IsUnionSlot : (ℕ → Slot → Type 0) → Slot → Type 0
IsUnionSlot P (chosen t x) = P t x
IsUnionSlot P _ = ⊥

abbrev pub IsDictionarySlot : (Slot → Type 0) → Slot → Type 0
IsDictionarySlot P null = ⊤
IsDictionarySlot P x = P x

abbrev pub IsNone : Slots → Type 0
IsNone no_slots = ⊤
IsNone (slot x xs) = ⊥

abbrev pub IsOneMore : (Slot → Type 0) → (Slots → Type 0) → Slots → Type 0
IsOneMore P Q no_slots = ⊥
IsOneMore P Q (slot x xs) = P x × Q xs

-- At the position 0 the first holds, at a later one the other at the position before.
abbrev pub IsAt : (Slot → Type 0) → (ℕ → Slot → Type 0) → ℕ → Slot → Type 0
IsAt P Q zero x = P x
IsAt P Q (suc i) x = Q i x

abbrev mutual
  -- The type has the slot.
  pub IsSlot : TypeData → Slot → Type 0
  IsSlot (T.list (T.field n t b m)) = IsListSlot (IsSlot t)
  IsSlot (T.large_list (T.field n t b m)) = IsListSlot (IsSlot t)
  IsSlot (T.map (T.field n t b m) o) = IsListSlot (IsSlot t)
  IsSlot (T.fixed_size_list (T.field n t b m) k) = IsFixedListSlot k (IsSlot t)
  IsSlot (T.struct fs) = IsStructSlot (AreParts fs)
  IsSlot (T.union fs ids mode) = IsUnionSlot (λ t x. (t < number_limit ids (count_fields fs)) × IsPart fs (select ids t) x)
  IsSlot (T.dictionary k t o) = IsDictionarySlot (IsSlot t)
  IsSlot (T.extension n t m) = IsSlot t
  IsSlot t = IsFlatSlot (form_of t)

  -- One slot of each field.
  pub AreParts : FieldList → Slots → Type 0
  AreParts no_fields = IsNone
  AreParts (and_field (T.field n t b m) fs) = IsOneMore (IsSlot t) (AreParts fs)

  -- A slot of the field at the position.
  pub IsPart : FieldList → ℕ → Slot → Type 0
  IsPart no_fields = λ i x. ⊥
  IsPart (and_field (T.field n t b m) fs) = IsAt (IsSlot t) (IsPart fs)

abbrev pub HasSlots : TypeData → List Slot → Type 0
HasSlots t s = AllByRecursion (IsSlot t) s
