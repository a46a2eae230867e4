-- What a builder of values under a mask stands for.
use Rattle.std.specs.Prelude.{Bool, List, Option}
use Rattle.arrow_flat.specs.Built.{Built}
use Rattle.arrow_flat.specs.declared.building.Building as building
use Rattle.arrow_push.specs.Masks.{built_under}
use Rattle.arrow_push.specs.declared.masked.MaskedBuilder.{MaskedBuilder}
use Rattle.arrow_push.specs.declared.values.ValuesBuilder as builder
use Rattle.arrow_push.specs.declared.values.ValuesLaws as laws

module _ {V X : Type 0} {G : builder.Ghosts V X} {L : laws.Ghosts V} {B : building.Ghosts V} where
  abbrev pub state : MaskedBuilder V X G L B → Built
  state b = built_under L.blank (B.seen b.values) b.validity

  -- The bits of its mask, if it has one.
  abbrev pub builder_mask : MaskedBuilder V X G L B → Option (List Bool)
  builder_mask b = b.validity
