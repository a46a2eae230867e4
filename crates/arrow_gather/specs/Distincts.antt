-- The slots that are picked out of a dictionary.
use Rattle.std.specs.Prelude.{ℕ, pos, cond, List, map, get_or, Option, Some, None}
use Rattle.arrow_types.specs.Select.{nat_of}
use Rattle.arrow_types.specs.TypeData.{TypeData}
use Rattle.arrow_types.specs.Types.{integer_type}
use Rattle.arrow_types.specs.declared.datatype.IntegerType.{IntegerType}
use Rattle.arrow_flat.specs.Primitives.{valid_at}
use Rattle.arrow_flat.specs.Slots.{Slot, null}
use Rattle.arrow_layout.specs.Canon.{canon, distinct, key_canon}
use Rattle.arrow_layout.specs.Denote.{denote, dictionary_slots, masked, validity_of}
use Rattle.arrow_layout.specs.Forms.{form_of, value_by}
use Rattle.arrow_layout.specs.Layouts.{Layout}
use Rattle.arrow_meaning.specs.Nodes.{key_numbers}
use Rattle.arrow_canon.specs.Picks.{picks}

-- By the layouts of its keys and of its values; a filling is null.
abbrev pub picked_values : Layout → Layout → List (Option ℕ) → List Slot
picked_values keys l ps = picks null (masked (validity_of keys) (dictionary_slots (key_numbers keys) (denote l))) ps

-- The place of the value that the key at a place names, by the layout of the keys: none for a null.
abbrev pub value_place : Layout → Option ℕ → Option ℕ
value_place keys None = None
value_place keys (Some i) = cond (valid_at (validity_of keys) i) (Some (nat_of (get_or (key_numbers keys) i (pos 0)))) None

abbrev pub value_places : Layout → List (Option ℕ) → List (Option ℕ)
value_places keys ps = map (value_place keys) ps

-- The canonical layout of these slots, by the type of the keys.
abbrev pub dictionaries_picked : TypeData → IntegerType → Layout → Layout → List (Option ℕ) → Layout
dictionaries_picked t k keys l ps =
    key_canon t (integer_type k) (picked_values keys l ps) (canon (value_by (form_of t)) (distinct (picked_values keys l ps)))
