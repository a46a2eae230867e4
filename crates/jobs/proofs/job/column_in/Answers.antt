use Rattle.std.proofs.Common.{ap, arith}
use Rattle.std.specs.Prelude.{option_map}
use Rattle.serde_json.specs.View.{view}
use Rattle.arrow_types.specs.Seen.{seen}
use Rattle.arrow_layout.specs.Layouts.{type_of}
use Rattle.jobs.specs.Job.{whole_of}
use Rattle.jobs.proofs.Columns.{read_deeper, read_within}
use Rattle.jobs.proofs.job.column_in.Goals as goal

pub returns-then-not-is_within-clause-bad : goal.returns-then-not-is_within-clause-bad
returns-then-not-is_within-clause-bad c = λ command.
    let found = c.in-Ok.ensures.read in
    let deep = read_deeper (seen c.in-Ok.column.dtype) (type_of found.column.layout) c.is_within.result 32 found.same.dtype c.is_within.ensures c.if-not-is_within.true in (
      view c.in_ok-value.value,
      whole_of found.column,
      record { short = c.requires; is_read = c.in_ok-value.ensures.ok },
      ap (option_map whole_of) found.is,
      λ shallow. omega (arith, deep, shallow.0),
    )

pub returns-clause-ok : goal.returns-clause-ok
returns-clause-ok c =
    let found = c.in-Ok.ensures.read in
    let shallow = read_within (seen c.in-Ok.column.dtype) (type_of found.column.layout) c.is_within.result 32 found.same.dtype c.is_within.ensures c.if-not-is_within.false in (
      found.column,
      found.same,
      λ command. record {
        value = view c.in_ok-value.value;
        read_as = record { short = c.requires; is_read = c.in_ok-value.ensures.ok };
        is_job = ap (option_map whole_of) found.is;
        shallow = (shallow, tt);
      },
    )
