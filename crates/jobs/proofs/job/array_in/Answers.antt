use Rattle.std.proofs.Common.{sym, subst}
use Rattle.type_json.specs.TypeJson.{IsType}
use Rattle.jobs.specs.Job.{whole_of}
use Rattle.jobs.proofs.job.array_in.Goals as goal

pub returns-in-Ok-clause-ok : goal.returns-in-Ok-clause-ok
returns-in-Ok-clause-ok c =
    let found = c.in_ok-column.ensures.ok in (
      found.0,
      c.in-Ok.ensures.array found.0 found.1,
      λ command. record {
        in_grammar = found.2 command;
        are_types = (subst IsType (sym found.1.dtype) c.in_ok-column.ensures.is_type, tt);
        sound = (c.in-Ok.ensures.valid found.0 found.1, tt);
      },
    )

pub returns-in-Err-BadLayout-clause-bad : goal.returns-in-Err-BadLayout-clause-bad
returns-in-Err-BadLayout-clause-bad c = λ command.
    let found = c.in_ok-column.ensures.ok in
    (whole_of found.0, found.2 command, c.in-Err-BadLayout.ensures.array found.0 found.1 c.in-Err-BadLayout.field-0-is)
