-- The text, the status and the verdict of each outcome.
use Rattle.std.specs.Prelude.{◌≡◌, ◌⊎◌, ℕ, List, codes, Option, Some, None}
use Rattle.jobs.specs.declared.outcome.Outcome.{Outcome}
use Rattle.jobs.specs.declared.outcome.Outcome.TheVariants.{Done, Usage, BadText, BadJob, BadLayout, TooLong, TooDeep, NotCanonical, Overflow, ReadFault, WriteFault, OutOfMemory}
use Rattle.jobs.specs.Job.{Verdict, too_long, bad_text, bad_job, too_deep, bad_layout, not_canonical, overflows, answered}

abbrev pub text_of : Outcome → List ℕ
text_of Done = codes "done"
text_of Usage = codes "usage"
text_of BadText = codes "bad text"
text_of BadJob = codes "bad job"
text_of (BadLayout i) = codes "bad layout"
text_of TooLong = codes "too long"
text_of TooDeep = codes "too deep"
text_of NotCanonical = codes "not canonical"
text_of Overflow = codes "overflow"
text_of ReadFault = codes "read fault"
text_of WriteFault = codes "write fault"
text_of OutOfMemory = codes "out of memory"

-- what the program writes to standard error: nothing where the run was done
abbrev pub message_of : Outcome → Option (List ℕ)
message_of Done = None
message_of outcome = Some (text_of outcome)

abbrev pub status_of : Outcome → ℕ
status_of Done = 0
status_of Usage = 2
status_of BadText = 3
status_of BadJob = 4
status_of (BadLayout i) = 5
status_of TooLong = 6
status_of TooDeep = 7
status_of NotCanonical = 8
status_of Overflow = 15
status_of ReadFault = 20
status_of WriteFault = 21
status_of OutOfMemory = 30

-- a status that the program ends with: that of an outcome, or 1 where the words couldn't be had
abbrev pub IsStatus : ℕ → Type 0
IsStatus status = (status ≡ 1) ⊎ ((outcome : Outcome) × (status ≡ status_of outcome))

-- what an outcome says of the bytes, where it says something
abbrev pub verdict_of : Outcome → Option Verdict
verdict_of Done = Some answered
verdict_of WriteFault = Some answered
verdict_of TooLong = Some too_long
verdict_of TooDeep = Some too_deep
verdict_of BadText = Some bad_text
verdict_of BadJob = Some bad_job
verdict_of (BadLayout i) = Some (bad_layout i)
verdict_of NotCanonical = Some not_canonical
verdict_of Overflow = Some overflows
verdict_of Usage = None
verdict_of ReadFault = None
verdict_of OutOfMemory = None
