-- Arrays that are equal, whatever their layouts.
use Rattle.std.specs.Prelude.{◌≡◌}
use Rattle.arrow_layout.specs.Denote.{denote}
use Rattle.arrow_layout.specs.Layouts.{Layout, type_of}

-- Equal in their types and in the slots that they denote.
abbrev pub AreEqual : Layout → Layout → Type 0
AreEqual l r = (type_of l ≡ type_of r) × (denote l ≡ denote r)
