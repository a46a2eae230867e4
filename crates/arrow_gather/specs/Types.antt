-- Which types an array's slots may be made canonical as.
use Rattle.std.specs.Prelude.{◌≡◌}
use Rattle.arrow_types.specs.TypeData.{TypeData}
use Rattle.arrow_types.specs.Types.{logical_of}
use Rattle.arrow_layout.specs.Layouts.{Layout, type_of}

-- The type is that of the layout, where the extensions around both are looked through.
abbrev pub HasTypeOf : TypeData → Layout → Type 0
HasTypeOf t l = logical_of t ≡ logical_of (type_of l)
