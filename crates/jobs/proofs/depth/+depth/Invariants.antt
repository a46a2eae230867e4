use Rattle.std.proofs.Common.{◌≤◌, max, drop}
use Rattle.arrow_types.specs.Seen.{seen_fields}
use Rattle.arrow_types.specs.Depth.{fields_depth}
use Rattle.jobs.proofs.depth.+depth.Given as goal

-- only the fields from this one on can be deeper than the limit
abbrev pub invariant-are_within-loop-field : goal.invariant-are_within-loop-field
invariant-are_within-loop-field l =
    (fields_depth (seen_fields l.fields) ≤ max l.limit (fields_depth (seen_fields (drop l.field-index l.fields))))
    × (fields_depth (seen_fields (drop l.field-index l.fields)) ≤ fields_depth (seen_fields l.fields))
