-- The types that a column of the program has.
use Rattle.std.specs.Prelude.{◌≤◌}
use Rattle.arrow_types.specs.Carried.{IsCarried}
use Rattle.arrow_types.specs.TypeData.{TypeData}
use Rattle.arrow_types.specs.Depth.{depth_of}
use Rattle.type_json.specs.TypeJson.{IsType}
use Rattle.jobs.specs.Job.{deepest}

-- one that columns may have, and no deeper than a job's
pub record IsTaken (t : TypeData) : Type 0 where
  pub carried : IsCarried t
  pub is_type : IsType t
  pub shallow : depth_of t ≤ deepest
