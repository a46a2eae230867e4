-- The canonical layout of a layout's slots.
use Rattle.arrow_layout.specs.Canon.{canon}
use Rattle.arrow_layout.specs.Denote.{denote}
use Rattle.arrow_layout.specs.Layouts.{Layout, type_of}

abbrev pub canonical_of : Layout → Layout
canonical_of l = canon (type_of l) (denote l)
