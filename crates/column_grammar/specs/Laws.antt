-- Columns that their text tells whole.
use Rattle.type_json.specs.TypeJson.{IsType}
use Rattle.arrow_layout.specs.Layouts.{Layout, type_of}
use Rattle.arrow_layout.specs.WellFormed.{WellFormed}

-- a well-formed column whose type is one: names and texts are UTF-8, and the keys of metadata ascend
pub record IsWritable (l : Layout) : Type 0 where
  pub well_formed : WellFormed l
  pub is_type : IsType (type_of l)
