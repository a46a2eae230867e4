-- A slot of one kind is made of no parts of another kind.
use Rattle.std.proofs.Common.{◌≡◌, ℕ, Bool, List, refl}
use Rattle.std.specs.Prelude.{ℤ}
use Rattle.arrow_flat.specs.Slots.{Slot, Slots, null, bool, num, bytes, items, parts, chosen}
use Rattle.arrow_equal.specs.SlotParts.{slot_of}
use Rattle.arrow_equal.specs.declared.slot_parts.SlotParts.{SlotParts}
use Rattle.arrow_equal.specs.declared.slot_parts.SlotParts.TheVariants as made_of

pub not_null : (p : SlotParts) → (p ≡ made_of.Null → ⊥) → null ≡ slot_of p → ⊥
not_null made_of.Null other e = other refl
not_null (made_of.Bool b) other e = cc
not_null (made_of.Number ns) other e = cc
not_null (made_of.Bytes bs) other e = cc
not_null (made_of.Items c a n) other e = cc
not_null (made_of.Row cs i) other e = cc
not_null (made_of.Chosen t c i) other e = cc

pub not_bool : (x : Bool) (p : SlotParts) → ((b : _) → p ≡ made_of.Bool b → ⊥) → bool x ≡ slot_of p → ⊥
not_bool x made_of.Null other e = cc
not_bool x (made_of.Bool b) other e = other b refl
not_bool x (made_of.Number ns) other e = cc
not_bool x (made_of.Bytes bs) other e = cc
not_bool x (made_of.Items c a n) other e = cc
not_bool x (made_of.Row cs i) other e = cc
not_bool x (made_of.Chosen t c i) other e = cc

pub not_number : (x : List ℤ) (p : SlotParts) → ((ns : _) → p ≡ made_of.Number ns → ⊥) → num x ≡ slot_of p → ⊥
not_number x made_of.Null other e = cc
not_number x (made_of.Bool b) other e = cc
not_number x (made_of.Number ns) other e = other ns refl
not_number x (made_of.Bytes bs) other e = cc
not_number x (made_of.Items c a n) other e = cc
not_number x (made_of.Row cs i) other e = cc
not_number x (made_of.Chosen t c i) other e = cc

pub not_bytes : (x : List ℕ) (p : SlotParts) → ((bs : _) → p ≡ made_of.Bytes bs → ⊥) → bytes x ≡ slot_of p → ⊥
not_bytes x made_of.Null other e = cc
not_bytes x (made_of.Bool b) other e = cc
not_bytes x (made_of.Number ns) other e = cc
not_bytes x (made_of.Bytes bs) other e = other bs refl
not_bytes x (made_of.Items c a n) other e = cc
not_bytes x (made_of.Row cs i) other e = cc
not_bytes x (made_of.Chosen t c i) other e = cc

pub not_items : (x : Slots) (p : SlotParts) → ((c : _) → (a : _) → (n : _) → p ≡ made_of.Items c a n → ⊥) → items x ≡ slot_of p → ⊥
not_items x made_of.Null other e = cc
not_items x (made_of.Bool b) other e = cc
not_items x (made_of.Number ns) other e = cc
not_items x (made_of.Bytes bs) other e = cc
not_items x (made_of.Items c a n) other e = other c a n refl
not_items x (made_of.Row cs i) other e = cc
not_items x (made_of.Chosen t c i) other e = cc

pub not_row : (x : Slots) (p : SlotParts) → ((cs : _) → (i : _) → p ≡ made_of.Row cs i → ⊥) → parts x ≡ slot_of p → ⊥
not_row x made_of.Null other e = cc
not_row x (made_of.Bool b) other e = cc
not_row x (made_of.Number ns) other e = cc
not_row x (made_of.Bytes bs) other e = cc
not_row x (made_of.Items c a n) other e = cc
not_row x (made_of.Row cs i) other e = other cs i refl
not_row x (made_of.Chosen t c i) other e = cc

pub not_chosen : (x : ℕ) (y : Slot) (p : SlotParts) → ((t : _) → (c : _) → (i : _) → p ≡ made_of.Chosen t c i → ⊥) → chosen x y ≡ slot_of p → ⊥
not_chosen x y made_of.Null other e = cc
not_chosen x y (made_of.Bool b) other e = cc
not_chosen x y (made_of.Number ns) other e = cc
not_chosen x y (made_of.Bytes bs) other e = cc
not_chosen x y (made_of.Items c a n) other e = cc
not_chosen x y (made_of.Row cs i) other e = cc
not_chosen x y (made_of.Chosen t c i) other e = other t c i refl
