-- A run that is refused ends in no other way.
use Rattle.std.proofs.Common.{◌≡◌, ◌⊎◌, inl, inr, ℕ, List, [], refl, sym, ◌∙◌, subst, Option, Some, IfSome}
use Rattle.std.specs.Io.KnownBytes.{Consumes, IsAtEnd}
use Rattle.jobs.specs.Job.{HasAnswer, IsJob, IsOf, Job, Verdict, bad_text, bad_job, too_deep, bad_layout, not_canonical, overflows}
use Rattle.jobs.specs.Outcomes.{verdict_of}
use Rattle.jobs.specs.Refusals.{refusal_of, outcome_of}
use Rattle.jobs.specs.declared.command.Command.{Command}
use Rattle.jobs.specs.declared.job.Refusal.{Refusal}
use Rattle.jobs.specs.declared.job.Refusal.TheVariants as refusal
use Rattle.jobs.specs.declared.outcome.Outcome.{Outcome}
use Rattle.jobs.specs.declared.outcome.Outcome.TheVariants.{Done, Usage, TooLong, ReadFault, WriteFault, OutOfMemory}
use Rattle.jobs.proofs.Answered.{IsTrueOf}
use Rattle.jobs.proofs.Jobs.{no_answer, told_of_taken}

pub record IsRefused (o : Outcome) : Type 0 where
  pub not_done : o ≡ Done → ⊥
  pub not_usage : o ≡ Usage → ⊥
  pub not_long : o ≡ TooLong → ⊥
  pub no_read_fault : o ≡ ReadFault → ⊥
  pub no_write_fault : o ≡ WriteFault → ⊥

pub refused : (e : Refusal) → IsRefused (outcome_of e)
refused refusal.BadText = record { not_done = λ h. cc; not_usage = λ h. cc; not_long = λ h. cc; no_read_fault = λ h. cc; no_write_fault = λ h. cc }
refused refusal.BadJob = record { not_done = λ h. cc; not_usage = λ h. cc; not_long = λ h. cc; no_read_fault = λ h. cc; no_write_fault = λ h. cc }
refused refusal.TooDeep = record { not_done = λ h. cc; not_usage = λ h. cc; not_long = λ h. cc; no_read_fault = λ h. cc; no_write_fault = λ h. cc }
refused (refusal.BadLayout i) = record { not_done = λ h. cc; not_usage = λ h. cc; not_long = λ h. cc; no_read_fault = λ h. cc; no_write_fault = λ h. cc }
refused refusal.NotCanonical = record { not_done = λ h. cc; not_usage = λ h. cc; not_long = λ h. cc; no_read_fault = λ h. cc; no_write_fault = λ h. cc }
refused refusal.Overflow = record { not_done = λ h. cc; not_usage = λ h. cc; not_long = λ h. cc; no_read_fault = λ h. cc; no_write_fault = λ h. cc }
refused refusal.OutOfMemory = record { not_done = λ h. cc; not_usage = λ h. cc; not_long = λ h. cc; no_read_fault = λ h. cc; no_write_fault = λ h. cc }

pub refused_verdict : (e : Refusal) → verdict_of (outcome_of e) ≡ refusal_of e
refused_verdict refusal.BadText = refl
refused_verdict refusal.BadJob = refl
refused_verdict refusal.TooDeep = refl
refused_verdict (refusal.BadLayout i) = refl
refused_verdict refusal.NotCanonical = refl
refused_verdict refusal.Overflow = refl
refused_verdict refusal.OutOfMemory = refl

-- bytes that have an answer are refused for want of memory alone
answered_or_full : (command : Command) (bytes : List ℕ) (e : Refusal) → IsTrueOf command bytes e → (j : Job) → IsJob command bytes j → HasAnswer command j
    → (outcome_of e ≡ Done) ⊎ (outcome_of e ≡ OutOfMemory)
answered_or_full command bytes refusal.BadText h j job answer = absurd (no_answer command bytes bad_text h (λ q. cc) j job answer)
answered_or_full command bytes refusal.BadJob h j job answer = absurd (no_answer command bytes bad_job h (λ q. cc) j job answer)
answered_or_full command bytes refusal.TooDeep h j job answer = absurd (no_answer command bytes too_deep h (λ q. cc) j job answer)
answered_or_full command bytes (refusal.BadLayout i) h j job answer = absurd (no_answer command bytes (bad_layout i) h (λ q. cc) j job answer)
answered_or_full command bytes refusal.NotCanonical h j job answer = absurd (no_answer command bytes not_canonical h (λ q. cc) j job answer)
answered_or_full command bytes refusal.Overflow h j job answer = absurd (no_answer command bytes overflows h (λ q. cc) j job answer)
answered_or_full command bytes refusal.OutOfMemory h j job answer = inr refl

module _ (command : Command) (e : Refusal) (left after : Option (List ℕ)) (bytes seen : List ℕ) (taken : Consumes left after bytes) (end : IsAtEnd after) (same : seen ≡ bytes)
    (true_of : IsTrueOf command seen e) where
  -- the verdict is true of the bytes that the source told
  pub refused_told : IfSome left (λ told. IfSome (verdict_of (outcome_of e)) (λ v. IsOf command v told))
  refused_told =
      told_of_taken (λ told. IfSome (verdict_of (outcome_of e)) (λ v. IsOf command v told)) left after bytes seen taken end same
      (subst (λ o. IfSome o (λ v. IsOf command v seen)) (sym (refused_verdict e)) true_of)

  -- a job that has an answer is refused for want of memory alone
  pub refused_complete : (o : Outcome) → o ≡ outcome_of e → IfSome left (λ told. (j : Job) → IsJob command told j → HasAnswer command j → (o ≡ Done) ⊎ (o ≡ OutOfMemory))
  refused_complete o is =
      subst (λ o. IfSome left (λ told. (j : Job) → IsJob command told j → HasAnswer command j → (o ≡ Done) ⊎ (o ≡ OutOfMemory))) (sym is)
      (told_of_taken (λ told. (j : Job) → IsJob command told j → HasAnswer command j → (outcome_of e ≡ Done) ⊎ (outcome_of e ≡ OutOfMemory)) left after bytes seen taken end same
      (answered_or_full command seen e true_of))
