-- Jobs of one column: what they take, and when two of them are answered by one text.
use Rattle.std.proofs.Common.{◌≡◌, ◌≤◌, ℕ, List, [], ◌∷◌, ◌++◌, take, length, refl, sym, ap, ◌∙◌, subst, append-nil, arith, Option, Some, None}
use Rattle.std.specs.Prelude.{option_map}
use Rattle.std.proofs.lemmas.List.{take_all}
use Rattle.arrow_types.specs.Depth.{depth_of}
use Rattle.arrow_flat.specs.Slots.{Slot}
use Rattle.type_json.specs.TypeJson.{IsType}
use Rattle.arrow_layout.specs.Canon.{canon}
use Rattle.arrow_layout.specs.Layouts.{Layout, length_of, type_of}
use Rattle.arrow_layout.specs.WellFormed.{WellFormed}
use Rattle.arrow_layout.specs.Denote.{denote}
use Rattle.arrow_layout.specs.Fits.{Fits}
use Rattle.arrow_layout.proofs.Smalls.{small-denote}
use Rattle.arrow_layout.proofs.Conforms.{conforms}
use Rattle.arrow_layout.proofs.Lengths.{length-denote}
use Rattle.arrow_layout.proofs.Unique.{carried_of}
use Rattle.arrow_layout.proofs.CutForms.{cut_well_formed, type-cut}
use Rattle.arrow_canon.specs.Canonical.{canonical_of}
use Rattle.column_grammar.specs.Reads.{Column, IsValidColumn, IsWithin, column_of, selected_layout, sliced_layout}
use Rattle.column_grammar.specs.Writes.{column_text}
use Rattle.jobs.specs.Job.{HasAnswer, IsJob, Job, answer_text, canon_of, deepest, job_of, job_slots, job_type, whole_of}
use Rattle.jobs.specs.Laws.{IsTaken}
use Rattle.jobs.specs.declared.command.Command.{Command}
use Rattle.jobs.specs.declared.command.Command.TheVariants.{Canon}
use Rattle.jobs.proofs.Equal.{equal_texts, same_texts}

sliced_type : (l : Layout) (s : Option (ℕ × ℕ)) → type_of (sliced_layout l s) ≡ type_of l
sliced_type l None = refl
sliced_type l (Some s) = type-cut l s.0 s.1

sliced_well_formed : (l : Layout) (s : Option (ℕ × ℕ)) → WellFormed l → IsWithin l s → WellFormed (sliced_layout l s)
sliced_well_formed l None w h = w
sliced_well_formed l (Some s) w h = cut_well_formed l s.0 s.1 w h

pub selected_well_formed : (k : Column) → IsValidColumn k → WellFormed (selected_layout k)
selected_well_formed k h = sliced_well_formed k.layout k.slice h.well_formed h.within

-- all slots, taken once
all_once : (xs : List Slot) (n : ℕ) → length xs ≡ n → (take n xs ++ []) ++ [] ≡ xs
all_once xs n e = append-nil (take n xs ++ []) ∙ append-nil (take n xs) ∙ take_all n xs (omega (arith, e))

pub whole_slots : (k : Column) → IsValidColumn k → job_slots (whole_of k) ≡ denote (selected_layout k)
whole_slots k h = all_once (denote (selected_layout k)) (length_of (selected_layout k)) (length-denote (selected_layout k) (selected_well_formed k h))

pub whole_canon : (k : Column) → IsValidColumn k → canon_of (whole_of k) ≡ canonical_of (selected_layout k)
whole_canon k h = ap (canon (type_of (selected_layout k))) (whole_slots k h)

-- a job of one column's command is one column
pub whole_part : (o : Option Column) (j : Job) → option_map whole_of o ≡ Some j → (k : Column) × (o ≡ Some k) × (whole_of k ≡ j)
whole_part None j e = let no : ⊥ = cc in absurd no
whole_part (Some k) j e = let f : whole_of k ≡ j = cc in (k, refl, f)

module _ (bytes : List ℕ) (k : Column) (job : IsJob Canon bytes (whole_of k)) where
  same_type : type_of k.layout ≡ type_of (selected_layout k)
  same_type = sym (sliced_type k.layout k.slice)

  valid : IsValidColumn k
  valid = job.sound.0

  column_taken : IsTaken (type_of (selected_layout k))
  column_taken = record {
    carried = carried_of (selected_layout k) (selected_well_formed k valid);
    is_type = subst IsType same_type job.are_types.0;
    shallow = subst (λ t. depth_of t ≤ deepest) same_type job.in_grammar.shallow.0;
  }

equal_wholes : (a b : List ℕ) (k m : Column) → IsJob Canon a (whole_of k) → IsJob Canon b (whole_of m) → HasAnswer Canon (whole_of k) → HasAnswer Canon (whole_of m)
    → answer_text Canon (whole_of k) ≡ answer_text Canon (whole_of m) → (job_type (whole_of k) ≡ job_type (whole_of m)) × (job_slots (whole_of k) ≡ job_slots (whole_of m))
equal_wholes a b k m j i fk fm e =
    let wk = whole_canon k j.sound.0 in
    let wm = whole_canon m i.sound.0 in
    let fit_k = selected_well_formed k j.sound.0 in
    let fit_m = selected_well_formed m i.sound.0 in
    let same =
    equal_texts (type_of (selected_layout k)) (type_of (selected_layout m)) (denote (selected_layout k)) (denote (selected_layout m)) (column_taken a k j) (column_taken b m i)
    (conforms (selected_layout k) fit_k) (conforms (selected_layout m) fit_m) (subst Fits wk fk) (subst Fits wm fm) (small-denote (selected_layout k) fit_k) (small-denote (selected_layout m) fit_m)
    (ap column_text (sym wk) ∙ e ∙ ap column_text wm) in
    (same.0, whole_slots k j.sound.0 ∙ same.1 ∙ sym (whole_slots m i.sound.0))

-- What two jobs have in common that are answered by one text.
abbrev AreOne : Job → Job → Type 0
AreOne j k = answer_text Canon j ≡ answer_text Canon k → (job_type j ≡ job_type k) × (job_slots j ≡ job_slots k)

-- A job of one column, what of it is known.
abbrev IsAnsweredAs : List ℕ → Job → Type 0
IsAnsweredAs bytes j = IsJob Canon bytes j × HasAnswer Canon j

one_column : (bytes : List ℕ) (j : Job) → IsJob Canon bytes j → (c : Column) × (whole_of c ≡ j)
one_column bytes j h = let p = whole_part (column_of h.in_grammar.value) j h.in_grammar.is_job in (p.0, p.2)

by_columns : (a b : List ℕ) (c d : Column) (j k : Job) → whole_of c ≡ j → whole_of d ≡ k → IsAnsweredAs a j → IsAnsweredAs b k → AreOne j k
by_columns a b c d j k ec ed =
    subst (λ j. IsAnsweredAs a j → IsAnsweredAs b k → AreOne j k) ec
    (subst (λ k. IsAnsweredAs a (whole_of c) → IsAnsweredAs b k → AreOne (whole_of c) k) ed (λ h g e. equal_wholes a b c d h.0 g.0 h.1 g.1 e))

pub equal_jobs : (a b : List ℕ) (j k : Job) → IsJob Canon a j → IsJob Canon b k → HasAnswer Canon j → HasAnswer Canon k → answer_text Canon j ≡ answer_text Canon k
    → (job_type j ≡ job_type k) × (job_slots j ≡ job_slots k)
equal_jobs a b j k hj hk fj fk =
    let p = one_column a j hj in
    let q = one_column b k hk in
    by_columns a b p.0 q.0 j k p.1 q.1 (hj, fj) (hk, fk)

pub same_jobs : (j k : Job) → (job_type j ≡ job_type k) × (job_slots j ≡ job_slots k) → answer_text Canon j ≡ answer_text Canon k
same_jobs j k e = same_texts (job_type j) (job_type k) (job_slots j) (job_slots k) e
