-- What the layout of a finished array is.
use Rattle.std.specs.Prelude.{◌≡◌, map, Option}
use Rattle.arrow_buffers.specs.Bits.{Bits, plain, needed_mask}
use Rattle.arrow_flat.specs.Built.{Built}
use Rattle.arrow_flat.specs.Slots.{is_valid}
use Rattle.arrow_layout.specs.Denote.{denote, under, validity_of}
use Rattle.arrow_layout.specs.Layouts.{Layout, type_of}

-- It has the type and the values of a builder, under this mask.
pub record HoldsValues (m : Option Bits) (v : Built) (l : Layout) : Type 0 where
  pub same_type : type_of l ≡ v.dtype
  pub values_are : under l ≡ v.slots
  pub mask_is : validity_of l ≡ m

-- It has the type of a builder and denotes its slots, with a mask exactly where a slot is null.
pub record HoldsSlots (b : Built) (l : Layout) : Type 0 where
  pub same_type : type_of l ≡ b.dtype
  pub slots_are : denote l ≡ b.slots
  pub mask_is : validity_of l ≡ needed_mask (plain (map is_valid b.slots))
