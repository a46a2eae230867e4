-- What the commands answer to a job of one column.
use Rattle.std.proofs.Common.{◌≡◌, ◌⊎◌, inl, inr, ⊎_elim, ℕ, List, [], refl, ap, sym, ◌∙◌, subst, Result, Ok, Err, IfOk, IfErr, IfSome, IsErrOf, String, Global, string_bytes}
use Rattle.arrow_layout.specs.Canonical.{Canonical}
use Rattle.arrow_layout.specs.Fits.{Fits}
use Rattle.arrow_layout.specs.Layouts.{Layout}
use Rattle.arrow_canon.specs.Canonical.{canonical_of}
use Rattle.column_grammar.specs.Reads.{Column, selected_layout}
use Rattle.column_grammar.specs.Writes.{column_text}
use Rattle.jobs.specs.Job.{HasAnswer, IsJob, IsOf, Job, answer_text, canon_of, overflows, not_canonical, whole_of}
use Rattle.jobs.specs.Refusals.{refusal_of}
use Rattle.jobs.specs.declared.command.Command.{Command}
use Rattle.jobs.specs.declared.command.Command.TheVariants.{Canon, Check}
use Rattle.jobs.specs.declared.job.Refusal.{Refusal}
use Rattle.jobs.specs.declared.job.Refusal.TheVariants as refusal
use Rattle.jobs.proofs.JobTexts.{whole_canon}

-- a refusal is true of the bytes
abbrev pub IsTrueOf : Command → List ℕ → Refusal → Type 0
IsTrueOf command bytes e = IfSome (refusal_of e) (λ v. IsOf command v bytes)

-- a command is refused for its own cause, or for want of memory
pub refused_for : {X : Type 0} (command : Command) (bytes : List ℕ) (own : Refusal) (r : Result X Refusal) → IfErr r (λ e. (e ≡ own) ⊎ (e ≡ refusal.OutOfMemory))
    → (IsErrOf r own → IsTrueOf command bytes own) → IfErr r (IsTrueOf command bytes)
refused_for command bytes own (Ok x) causes h = tt
refused_for command bytes own (Err e) causes h = ⊎_elim (λ q. subst (IsTrueOf command bytes) (sym q) (h (ap Err q))) (λ q. subst (IsTrueOf command bytes) (sym q) tt) causes

pub refused_by : {X : Type 0} (command : Command) (bytes : List ℕ) (e : Refusal) (r : Result X Refusal) → r ≡ Err e → IsTrueOf command bytes e → IfErr r (IsTrueOf command bytes)
refused_by command bytes e r is h = subst (λ r. IfErr r (IsTrueOf command bytes)) (sym is) h

module _ (bytes : List ℕ) (k : Column) (l : Layout) (is : l ≡ selected_layout k) where
  canon_whole : IsJob Canon bytes (whole_of k) → canon_of (whole_of k) ≡ canonical_of l
  canon_whole job = whole_canon k job.sound.0 ∙ ap canonical_of (sym is)

  pub canon_answered : (text : List ℕ) → IsJob Canon bytes (whole_of k) → Fits (canonical_of l) → text ≡ column_text (canonical_of l)
      → (j : Job) × (IsJob Canon bytes j × HasAnswer Canon j) × (text ≡ answer_text Canon j)
  canon_answered text job fits e = (whole_of k, (job, subst Fits (sym (canon_whole job)) fits), e ∙ ap column_text (sym (canon_whole job)))

  pub canon_overflows : IsJob Canon bytes (whole_of k) → (Fits (canonical_of l) → ⊥) → IsOf Canon overflows bytes
  canon_overflows job unmet = (whole_of k, job, λ fits. unmet (subst Fits (canon_whole job) fits))

  pub check_answered : (text : List ℕ) → IsJob Check bytes (whole_of k) → Canonical l → text ≡ [] → (j : Job) × (IsJob Check bytes j × HasAnswer Check j) × (text ≡ answer_text Check j)
  check_answered text job canonical e = (whole_of k, (job, (subst Canonical is canonical, tt)), e)

  pub check_refused : IsJob Check bytes (whole_of k) → (Canonical l → ⊥) → IsOf Check not_canonical bytes
  check_refused job unmet = (whole_of k, job, λ h. unmet (subst Canonical (sym is) h.0))

-- What a command's result says of the bytes.
abbrev pub IsAnswer : Command → List ℕ → String Global → Type 0
IsAnswer command bytes text = (j : Job) × (IsJob command bytes j × HasAnswer command j) × (string_bytes text ≡ answer_text command j)

module _ (bytes : List ℕ) (k : Column) (l : Layout) (is : l ≡ selected_layout k) (job : (command : Command) → IsJob command bytes (whole_of k)) (r : Result (String Global) Refusal) where
  pub canon_ok : (command : Command) → command ≡ Canon → IfOk r (λ text. Fits (canonical_of l) × (string_bytes text ≡ column_text (canonical_of l))) → IfOk r (IsAnswer command bytes)
  canon_ok command e h = subst (λ command. IfOk r (IsAnswer command bytes)) (sym e) (by r h)
    where
      by : (r : Result (String Global) Refusal) → IfOk r (λ text. Fits (canonical_of l) × (string_bytes text ≡ column_text (canonical_of l))) → IfOk r (IsAnswer Canon bytes)
      by (Ok text) h = canon_answered bytes k l is (string_bytes text) (job Canon) h.0 h.1
      by (Err e) h = tt

  pub canon_bad : (command : Command) → command ≡ Canon → IfErr r (λ e. (e ≡ refusal.Overflow) ⊎ (e ≡ refusal.OutOfMemory))
      → (IsErrOf r refusal.Overflow → Fits (canonical_of l) → ⊥) → IfErr r (IsTrueOf command bytes)
  canon_bad command e causes unmet =
      subst (λ command. IfErr r (IsTrueOf command bytes)) (sym e) (refused_for Canon bytes refusal.Overflow r causes (λ h. canon_overflows bytes k l is (job Canon) (unmet h)))

  pub check_ok : (command : Command) → command ≡ Check → IfOk r (λ text. Canonical l × (string_bytes text ≡ [])) → IfOk r (IsAnswer command bytes)
  check_ok command e h = subst (λ command. IfOk r (IsAnswer command bytes)) (sym e) (by r h)
    where
      by : (r : Result (String Global) Refusal) → IfOk r (λ text. Canonical l × (string_bytes text ≡ [])) → IfOk r (IsAnswer Check bytes)
      by (Ok text) h = check_answered bytes k l is (string_bytes text) (job Check) h.0 h.1
      by (Err e) h = tt

  pub check_bad : (command : Command) → command ≡ Check → IfErr r (λ e. (e ≡ refusal.NotCanonical) ⊎ (e ≡ refusal.OutOfMemory))
      → (IsErrOf r refusal.NotCanonical → Canonical l → ⊥) → IfErr r (IsTrueOf command bytes)
  check_bad command e causes unmet =
      subst (λ command. IfErr r (IsTrueOf command bytes)) (sym e) (refused_for Check bytes refusal.NotCanonical r causes (λ h. check_refused bytes k l is (job Check) (unmet h)))
