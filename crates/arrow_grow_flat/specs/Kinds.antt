-- The values of growables of each kind.
use Rattle.std.specs.Prelude.{◌≡◌, ◌/◌, ◌%◌, ◌<◌, ℕ, ℤ, Bool, List, length, map, Some}
use Rattle.arrow_types.specs.TypeData.{TypeData}
use Rattle.arrow_types.specs.Types.{physical_of}
use Rattle.arrow_bytes.specs.Binaries.{Binaries, layout_in, values_between}
use Rattle.arrow_bytes.specs.FixedSizeBinaries.{FixedSizeBinaries, declared_size}
use Rattle.arrow_flat.specs.Booleans.{Booleans}
use Rattle.arrow_flat.specs.Natives.{octets}
use Rattle.arrow_flat.specs.Pieces.{AreTextsIf}
use Rattle.arrow_flat.specs.Primitives.{Primitives}
use Rattle.arrow_flat.specs.Slots.{bool, num}
use Rattle.arrow_layout.specs.Denote.{binary_slots, fixed_binary_slots}
use Rattle.arrow_meaning.specs.Nodes.{binary_layout, boolean_layout, fixed_size_binary_layout, primitive_layout}
use Rattle.arrow_grow_flat.specs.Spans.{AreJoined}
use Rattle.arrow_grow_flat.specs.Values.{Values, AreSound}

-- Of one width, given the numbers of a value.
abbrev pub number_values : {T : Type 0} → (T → List ℤ) → TypeData → List (Primitives T) → List T → Values
number_values parts t arrays values = record {
  dtype = t;
  arrays = map (primitive_layout parts) arrays;
  slots = map num (map parts values);
}

-- Of single bits.
abbrev pub bit_values : TypeData → List Booleans → List Bool → Values
bit_values t arrays values = record { dtype = t; arrays = map boolean_layout arrays; slots = map bool values }

-- Of binary values of one size.
abbrev pub sized_values : TypeData → List FixedSizeBinaries → ℕ → List ℕ → Values
sized_values t arrays k values = record {
  dtype = t;
  arrays = map fixed_size_binary_layout arrays;
  slots = fixed_binary_slots k (length values / k) (octets values);
}

-- What these keep: the type declares the size, which isn't 0 and divides the count of bytes.
pub record AreSizedValues (t : TypeData) (arrays : List FixedSizeBinaries) (k : ℕ) (values : List ℕ) : Type 0 where
  pub sized : declared_size t ≡ Some k
  pub positive : 0 < k
  pub multiple : length values % k ≡ 0
  pub sound : AreSound (sized_values t arrays k values)

-- Of binary values or strings, given the number of an offset.
abbrev pub binary_values : {O : Type 0} → (O → ℤ) → TypeData → List (Binaries O) → List O → List ℕ → Values
binary_values number t arrays os bs = record {
  dtype = t;
  arrays = map (binary_layout number) arrays;
  slots = binary_slots (map number os) (octets bs);
}

-- What these keep: they follow one another, and are UTF-8 where they are strings.
pub record AreBinaryValues (text large : Bool) {O : Type 0} (number : O → ℤ) (t : TypeData) (arrays : List (Binaries O)) (os : List O) (bs : List ℕ) : Type 0 where
  pub stored : physical_of t ≡ Some (layout_in text large)
  pub follow : AreJoined number os bs
  pub texts : AreTextsIf text (values_between number os bs)
  pub sound : AreSound (binary_values number t arrays os bs)
