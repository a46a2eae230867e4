-- What a refusal says of the bytes, and how the run ends.
use Rattle.std.specs.Prelude.{Option, Some, None}
use Rattle.jobs.specs.declared.job.Refusal.{Refusal}
use Rattle.jobs.specs.declared.job.Refusal.TheVariants.{BadText, BadJob, TooDeep, BadLayout, NotCanonical, Overflow, OutOfMemory}
use Rattle.jobs.specs.declared.outcome.Outcome.{Outcome}
use Rattle.jobs.specs.declared.outcome.Outcome.TheVariants as outcome
use Rattle.jobs.specs.Job.{Verdict, bad_text, bad_job, too_deep, bad_layout, not_canonical, overflows}

abbrev pub refusal_of : Refusal → Option Verdict
refusal_of BadText = Some bad_text
refusal_of BadJob = Some bad_job
refusal_of TooDeep = Some too_deep
refusal_of (BadLayout i) = Some (bad_layout i)
refusal_of NotCanonical = Some not_canonical
refusal_of Overflow = Some overflows
refusal_of OutOfMemory = None

-- How a run ends that is refused.
abbrev pub outcome_of : Refusal → Outcome
outcome_of BadText = outcome.BadText
outcome_of BadJob = outcome.BadJob
outcome_of TooDeep = outcome.TooDeep
outcome_of (BadLayout i) = outcome.BadLayout i
outcome_of NotCanonical = outcome.NotCanonical
outcome_of Overflow = outcome.Overflow
outcome_of OutOfMemory = outcome.OutOfMemory
