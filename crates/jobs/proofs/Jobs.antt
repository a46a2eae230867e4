-- What the bytes that a run took say of those that the source told.
use Rattle.std.proofs.Common.{◌≡◌, ◌<◌, arith, ℕ, ◌++◌, [], ◌∷◌, length, length-append, subst, append-nil, List, refl, ap, sym, ◌∙◌, Option, Some, None}
use Rattle.std.specs.Io.KnownBytes.{Consumes, IsAtEnd}
use Rattle.std.specs.List.{AllByRecursion}
use Rattle.std.specs.Prelude.{IfSome, zero, suc}
use Rattle.serde_json.specs.Data.{Data}
use Rattle.column_grammar.specs.Reads.{Column, IsValidColumn}
use Rattle.jobs.specs.Causes.{TookMore}
use Rattle.jobs.specs.Job.{IsRead, IsInGrammar, IsJob, IsFirstBad, IsShallow, Job, HasAnswer, IsOfJob, answer_text, job_of, Verdict, too_long, bad_text, bad_job, too_deep, bad_layout, not_canonical, overflows, answered, IsOf}
use Rattle.jobs.specs.declared.command.Command.{Command}
use Rattle.jobs.specs.declared.command.Command.TheVariants.{Canon, Check}

-- what was taken up to the end is all that there was
all_taken : (left bytes rest : List ℕ) → left ≡ bytes ++ rest → rest ≡ [] → left ≡ bytes
all_taken left bytes rest e end = e ∙ ap (λ l. bytes ++ l) end ∙ append-nil bytes

-- a fact of the bytes that were taken to the end is one of the bytes that were told
pub taken_to_end : (P : List ℕ → Type 0) (before after : Option (List ℕ)) (bytes : List ℕ) → Consumes before after bytes → IsAtEnd after → P bytes
    → IfSome before (λ told. (after ≡ Some []) × P told)
taken_to_end P None after bytes taken end h = tt
taken_to_end P (Some left) None bytes taken end h = absurd taken
taken_to_end P (Some left) (Some rest) bytes taken end h = (ap Some end, subst P (sym (all_taken left bytes rest taken end)) h)

-- the same without the end
pub told_of_taken : (P : List ℕ → Type 0) (before after : Option (List ℕ)) (bytes taken : List ℕ) → Consumes before after bytes → IsAtEnd after → taken ≡ bytes → P taken → IfSome before P
told_of_taken P None after bytes taken c end e h = tt
told_of_taken P (Some left) after bytes taken c end e h = (taken_to_end P (Some left) after bytes c end (subst P e h)).1

-- what a run that wrote so says of the bytes that were told
pub written_of_taken : (command : Command) (W : List ℕ → Type 0) (before after : Option (List ℕ)) (bytes taken text written : List ℕ) → Consumes before after bytes → IsAtEnd after → taken ≡ bytes
    → ((j : Job) × (IsJob command taken j × HasAnswer command j) × (text ≡ answer_text command j)) → written ≡ text → W written
    → IfSome before (λ told. (after ≡ Some []) × ((j : Job) × (IsJob command told j × HasAnswer command j) × W (answer_text command j)))
written_of_taken command W before after bytes taken text written c end e job is wrote =
    taken_to_end (λ told. (j : Job) × (IsJob command told j × HasAnswer command j) × W (answer_text command j)) before after bytes c end
    (job.0, subst (λ told. IsJob command told job.0 × HasAnswer command job.0) e job.1, subst W (is ∙ job.2) wrote)

-- ---- the verdicts exclude one another

same_value : (bytes : List ℕ) (v w : Data) → IsRead bytes v → IsRead bytes w → v ≡ w
same_value bytes v w a b = let e : Some v ≡ Some w = sym a.is_read ∙ b.is_read in cc

bad_unread : (command : Command) (bytes : List ℕ) (v : Data) → IsRead bytes v → IsOf command bad_text bytes → ⊥
bad_unread command bytes v a h = let e : Some v ≡ None = sym a.is_read ∙ h.1 in cc

none_some : (command : Command) (v w : Data) (j : Job) → v ≡ w → job_of command v ≡ None → job_of command w ≡ Some j → ⊥
none_some command v w j e n s = let f : None ≡ Some j = sym n ∙ ap (job_of command) e ∙ s in cc

no_job : (command : Command) (bytes : List ℕ) (w : Data) (j : Job) → IsOf command bad_job bytes → IsRead bytes w → job_of command w ≡ Some j → ⊥
no_job command bytes w j h r s = none_some command h.0 w j (same_value bytes h.0 w h.1 r) h.2 s

one_job : (command : Command) (bytes : List ℕ) (v w : Data) (j k : Job) → IsRead bytes v → IsRead bytes w → job_of command v ≡ Some j → job_of command w ≡ Some k → j ≡ k
one_job command bytes v w j k a b n s = let f : Some j ≡ Some k = sym n ∙ ap (job_of command) (same_value bytes v w a b) ∙ s in cc

same_job : (command : Command) (bytes : List ℕ) (j k : Job) → IsInGrammar command bytes j → IsInGrammar command bytes k → j ≡ k
same_job command bytes j k h g = one_job command bytes h.value g.value j k h.read_as g.read_as h.is_job g.is_job

deep_job : (command : Command) (bytes : List ℕ) (k : Job) → IsOf command too_deep bytes → IsInGrammar command bytes k → ⊥
deep_job command bytes k h g =
    h.4 (subst (λ j. AllByRecursion IsShallow j.columns) (sym (one_job command bytes h.0 g.value h.1 k h.2 g.read_as h.3 g.is_job)) g.shallow)

bad_sound : (i : ℕ) (cs : List Column) → IsFirstBad i cs → AllByRecursion IsValidColumn cs → ⊥
bad_sound i [] h s = h
bad_sound zero (c ∷ cs) h s = h s.0
bad_sound (suc i) (c ∷ cs) h s = bad_sound i cs h.1 s.1

one_first : (i k : ℕ) (cs : List Column) → IsFirstBad i cs → IsFirstBad k cs → i ≡ k
one_first i k [] h g = absurd h
one_first zero zero (c ∷ cs) h g = refl
one_first zero (suc k) (c ∷ cs) h g = absurd (h g.0)
one_first (suc i) zero (c ∷ cs) h g = absurd (g h.0)
one_first (suc i) (suc k) (c ∷ cs) h g = ap suc (one_first i k cs h.1 g.1)

job_sound : (command : Command) (bytes : List ℕ) (i : ℕ) (k : Job) → IsOf command (bad_layout i) bytes → IsJob command bytes k → ⊥
job_sound command bytes i k h g =
    bad_sound i k.columns (subst (λ j. IsFirstBad i j.columns) (same_job command bytes h.0 k h.1 g.in_grammar) h.2) g.sound

same_bad : (command : Command) (bytes : List ℕ) (i k : ℕ) → IsOf command (bad_layout i) bytes → IsOf command (bad_layout k) bytes → i ≡ k
same_bad command bytes i k h g = one_first i k g.0.columns (subst (λ j. IsFirstBad i j.columns) (same_job command bytes h.0 g.0 h.1 g.1) h.2) g.2

of_job : (command : Command) (a b : Verdict) (j : Job) → IsOfJob a command j → IsOfJob b command j → a ≡ b
of_job Canon too_long b j h k = absurd h
of_job Canon bad_text b j h k = absurd h
of_job Canon bad_job b j h k = absurd h
of_job Canon too_deep b j h k = absurd h
of_job Canon (bad_layout i) b j h k = absurd h
of_job Canon not_canonical b j h k = absurd h
of_job Canon overflows too_long j h k = absurd k
of_job Canon overflows bad_text j h k = absurd k
of_job Canon overflows bad_job j h k = absurd k
of_job Canon overflows too_deep j h k = absurd k
of_job Canon overflows (bad_layout i) j h k = absurd k
of_job Canon overflows not_canonical j h k = absurd k
of_job Canon answered too_long j h k = absurd k
of_job Canon answered bad_text j h k = absurd k
of_job Canon answered bad_job j h k = absurd k
of_job Canon answered too_deep j h k = absurd k
of_job Canon answered (bad_layout i) j h k = absurd k
of_job Canon answered not_canonical j h k = absurd k
of_job Canon overflows overflows j h k = refl
of_job Canon overflows answered j h k = absurd (h k)
of_job Canon answered overflows j h k = absurd (k h)
of_job Canon answered answered j h k = refl
of_job Check too_long b j h k = absurd h
of_job Check bad_text b j h k = absurd h
of_job Check bad_job b j h k = absurd h
of_job Check too_deep b j h k = absurd h
of_job Check (bad_layout i) b j h k = absurd h
of_job Check overflows b j h k = absurd h
of_job Check not_canonical too_long j h k = absurd k
of_job Check not_canonical bad_text j h k = absurd k
of_job Check not_canonical bad_job j h k = absurd k
of_job Check not_canonical too_deep j h k = absurd k
of_job Check not_canonical (bad_layout i) j h k = absurd k
of_job Check not_canonical overflows j h k = absurd k
of_job Check answered too_long j h k = absurd k
of_job Check answered bad_text j h k = absurd k
of_job Check answered bad_job j h k = absurd k
of_job Check answered too_deep j h k = absurd k
of_job Check answered (bad_layout i) j h k = absurd k
of_job Check answered overflows j h k = absurd k
of_job Check not_canonical not_canonical j h k = refl
of_job Check not_canonical answered j h k = absurd (h k)
of_job Check answered not_canonical j h k = absurd (k h)
of_job Check answered answered j h k = refl

two_of_job : (command : Command) (bytes : List ℕ) (a b : Verdict) → ((j : Job) × IsJob command bytes j × IsOfJob a command j) → ((j : Job) × IsJob command bytes j × IsOfJob b command j) → a ≡ b
two_of_job command bytes a b h k = of_job command a b k.0 (subst (IsOfJob a command) (same_job command bytes h.0 k.0 h.1.in_grammar k.1.in_grammar) h.2) k.2

pub one_verdict : (command : Command) (bytes : List ℕ) (a b : Verdict) → IsOf command a bytes → IsOf command b bytes → a ≡ b
one_verdict c bytes too_long too_long h k = refl
one_verdict c bytes too_long bad_text h k = absurd (omega (arith, h, k.0))
one_verdict c bytes too_long bad_job h k = absurd (omega (arith, h, k.1.short))
one_verdict c bytes too_long too_deep h k = absurd (omega (arith, h, k.2.short))
one_verdict c bytes too_long (bad_layout k0) h k = absurd (omega (arith, h, k.1.read_as.short))
one_verdict c bytes too_long not_canonical h k = absurd (omega (arith, h, k.1.in_grammar.read_as.short))
one_verdict c bytes too_long overflows h k = absurd (omega (arith, h, k.1.in_grammar.read_as.short))
one_verdict c bytes too_long answered h k = absurd (omega (arith, h, k.1.in_grammar.read_as.short))
one_verdict c bytes bad_text too_long h k = absurd (omega (arith, k, h.0))
one_verdict c bytes bad_text bad_text h k = refl
one_verdict c bytes bad_text bad_job h k = absurd (bad_unread c bytes k.0 k.1 h)
one_verdict c bytes bad_text too_deep h k = absurd (bad_unread c bytes k.0 k.2 h)
one_verdict c bytes bad_text (bad_layout k0) h k = absurd (bad_unread c bytes k.1.value k.1.read_as h)
one_verdict c bytes bad_text not_canonical h k = absurd (bad_unread c bytes k.1.in_grammar.value k.1.in_grammar.read_as h)
one_verdict c bytes bad_text overflows h k = absurd (bad_unread c bytes k.1.in_grammar.value k.1.in_grammar.read_as h)
one_verdict c bytes bad_text answered h k = absurd (bad_unread c bytes k.1.in_grammar.value k.1.in_grammar.read_as h)
one_verdict c bytes bad_job too_long h k = absurd (omega (arith, k, h.1.short))
one_verdict c bytes bad_job bad_text h k = absurd (bad_unread c bytes h.0 h.1 k)
one_verdict c bytes bad_job bad_job h k = refl
one_verdict c bytes bad_job too_deep h k = absurd (no_job c bytes k.0 k.1 h k.2 k.3)
one_verdict c bytes bad_job (bad_layout k0) h k = absurd (no_job c bytes k.1.value k.0 h k.1.read_as k.1.is_job)
one_verdict c bytes bad_job not_canonical h k = absurd (no_job c bytes k.1.in_grammar.value k.0 h k.1.in_grammar.read_as k.1.in_grammar.is_job)
one_verdict c bytes bad_job overflows h k = absurd (no_job c bytes k.1.in_grammar.value k.0 h k.1.in_grammar.read_as k.1.in_grammar.is_job)
one_verdict c bytes bad_job answered h k = absurd (no_job c bytes k.1.in_grammar.value k.0 h k.1.in_grammar.read_as k.1.in_grammar.is_job)
one_verdict c bytes too_deep too_long h k = absurd (omega (arith, k, h.2.short))
one_verdict c bytes too_deep bad_text h k = absurd (bad_unread c bytes h.0 h.2 k)
one_verdict c bytes too_deep bad_job h k = absurd (no_job c bytes h.0 h.1 k h.2 h.3)
one_verdict c bytes too_deep too_deep h k = refl
one_verdict c bytes too_deep (bad_layout k0) h k = absurd (deep_job c bytes k.0 h k.1)
one_verdict c bytes too_deep not_canonical h k = absurd (deep_job c bytes k.0 h k.1.in_grammar)
one_verdict c bytes too_deep overflows h k = absurd (deep_job c bytes k.0 h k.1.in_grammar)
one_verdict c bytes too_deep answered h k = absurd (deep_job c bytes k.0 h k.1.in_grammar)
one_verdict c bytes (bad_layout i) too_long h k = absurd (omega (arith, k, h.1.read_as.short))
one_verdict c bytes (bad_layout i) bad_text h k = absurd (bad_unread c bytes h.1.value h.1.read_as k)
one_verdict c bytes (bad_layout i) bad_job h k = absurd (no_job c bytes h.1.value h.0 k h.1.read_as h.1.is_job)
one_verdict c bytes (bad_layout i) too_deep h k = absurd (deep_job c bytes h.0 k h.1)
one_verdict c bytes (bad_layout i) (bad_layout k0) h k = ap bad_layout (same_bad c bytes i k0 h k)
one_verdict c bytes (bad_layout i) not_canonical h k = absurd (job_sound c bytes i k.0 h k.1)
one_verdict c bytes (bad_layout i) overflows h k = absurd (job_sound c bytes i k.0 h k.1)
one_verdict c bytes (bad_layout i) answered h k = absurd (job_sound c bytes i k.0 h k.1)
one_verdict c bytes not_canonical too_long h k = absurd (omega (arith, k, h.1.in_grammar.read_as.short))
one_verdict c bytes not_canonical bad_text h k = absurd (bad_unread c bytes h.1.in_grammar.value h.1.in_grammar.read_as k)
one_verdict c bytes not_canonical bad_job h k = absurd (no_job c bytes h.1.in_grammar.value h.0 k h.1.in_grammar.read_as h.1.in_grammar.is_job)
one_verdict c bytes not_canonical too_deep h k = absurd (deep_job c bytes h.0 k h.1.in_grammar)
one_verdict c bytes not_canonical (bad_layout k0) h k = absurd (job_sound c bytes k0 h.0 k h.1)
one_verdict c bytes not_canonical not_canonical h k = two_of_job c bytes not_canonical not_canonical h k
one_verdict c bytes not_canonical overflows h k = two_of_job c bytes not_canonical overflows h k
one_verdict c bytes not_canonical answered h k = two_of_job c bytes not_canonical answered h k
one_verdict c bytes overflows too_long h k = absurd (omega (arith, k, h.1.in_grammar.read_as.short))
one_verdict c bytes overflows bad_text h k = absurd (bad_unread c bytes h.1.in_grammar.value h.1.in_grammar.read_as k)
one_verdict c bytes overflows bad_job h k = absurd (no_job c bytes h.1.in_grammar.value h.0 k h.1.in_grammar.read_as h.1.in_grammar.is_job)
one_verdict c bytes overflows too_deep h k = absurd (deep_job c bytes h.0 k h.1.in_grammar)
one_verdict c bytes overflows (bad_layout k0) h k = absurd (job_sound c bytes k0 h.0 k h.1)
one_verdict c bytes overflows not_canonical h k = two_of_job c bytes overflows not_canonical h k
one_verdict c bytes overflows overflows h k = two_of_job c bytes overflows overflows h k
one_verdict c bytes overflows answered h k = two_of_job c bytes overflows answered h k
one_verdict c bytes answered too_long h k = absurd (omega (arith, k, h.1.in_grammar.read_as.short))
one_verdict c bytes answered bad_text h k = absurd (bad_unread c bytes h.1.in_grammar.value h.1.in_grammar.read_as k)
one_verdict c bytes answered bad_job h k = absurd (no_job c bytes h.1.in_grammar.value h.0 k h.1.in_grammar.read_as h.1.in_grammar.is_job)
one_verdict c bytes answered too_deep h k = absurd (deep_job c bytes h.0 k h.1.in_grammar)
one_verdict c bytes answered (bad_layout k0) h k = absurd (job_sound c bytes k0 h.0 k h.1)
one_verdict c bytes answered not_canonical h k = two_of_job c bytes answered not_canonical h k
one_verdict c bytes answered overflows h k = two_of_job c bytes answered overflows h k
one_verdict c bytes answered answered h k = two_of_job c bytes answered answered h k

-- bytes with another verdict are no job that has an answer
pub no_answer : (command : Command) (bytes : List ℕ) (v : Verdict) → IsOf command v bytes → (v ≡ answered → ⊥) → (j : Job) → IsJob command bytes j → HasAnswer command j → ⊥
no_answer command bytes v h other j job answer = other (one_verdict command bytes v answered h (j, job, answer))

-- more than n bytes taken are more than n fewer left
pub took_more : (n : ℕ) (before after : Option (List ℕ)) (bytes : List ℕ) → Consumes before after bytes → n < length bytes → TookMore n before after
took_more n None after bytes taken more = tt
took_more n (Some left) None bytes taken more = absurd taken
took_more n (Some left) (Some rest) bytes taken more = omega (arith, ap length taken, length-append bytes rest, more)
