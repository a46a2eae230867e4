-- Equal texts of canonical columns are of equal slots.
use Rattle.std.proofs.Common.{◌≡◌, ◌≤◌, List, ap, sym, ◌∙◌, subst}
use Rattle.arrow_types.specs.Depth.{depth_of}
use Rattle.arrow_types.specs.TypeData.{TypeData}
use Rattle.arrow_flat.specs.Slots.{Slot}
use Rattle.type_json.specs.TypeJson.{IsType}
use Rattle.arrow_layout.specs.Layouts.{type_of}
use Rattle.arrow_layout.specs.SlotsOf.{HasSlots}
use Rattle.arrow_layout.specs.Denote.{denote}
use Rattle.arrow_layout.specs.Canon.{canon}
use Rattle.arrow_layout.specs.Fits.{Fits, Small}
use Rattle.arrow_layout.specs.Plain.{IsPlain}
use Rattle.arrow_layout.proofs.ByForm.{type-canon}
use Rattle.arrow_layout.proofs.CanonForms.{canon_well_formed}
use Rattle.arrow_layout.proofs.Denotes.{denote_canon}
use Rattle.arrow_layout.proofs.Made.{canon_canonical}
use Rattle.column_grammar.specs.Laws.{IsWritable}
use Rattle.column_grammar.specs.Writes.{column_text}
use Rattle.column_grammar.proofs.CanonicalPlain.{canonical_plain}
use Rattle.column_grammar.proofs.TextBack.{text_tells}
use Rattle.jobs.specs.Laws.{IsTaken}

module _ (t : TypeData) (s : List Slot) (taken : IsTaken t) (h : HasSlots t s) (fits : Fits (canon t s)) (small : Small (canon t s)) where
  writable : IsWritable (canon t s)
  writable = record {
    well_formed = canon_well_formed t s taken.carried h fits small;
    is_type = subst IsType (sym (type-canon t s)) taken.is_type;
  }

  plain : IsPlain (canon t s)
  plain = canonical_plain (canon t s) (canon_well_formed t s taken.carried h fits small) (canon_canonical t s taken.carried h)

  shallow : depth_of (type_of (canon t s)) ≤ 32
  shallow = subst (λ u. depth_of u ≤ 32) (sym (type-canon t s)) taken.shallow

pub equal_texts : (t u : TypeData) (s r : List Slot) → IsTaken t → IsTaken u → HasSlots t s → HasSlots u r → Fits (canon t s) → Fits (canon u r) → Small (canon t s) → Small (canon u r)
    → column_text (canon t s) ≡ column_text (canon u r) → (t ≡ u) × (s ≡ r)
equal_texts t u s r ht hu hs hr fs fr ms mr e =
    let same : canon t s ≡ canon u r =
    text_tells (canon t s) (canon u r) (writable t s ht hs fs ms) (writable u r hu hr fr mr) (shallow t s ht hs fs ms) (shallow u r hu hr fr mr) (plain t s ht hs fs ms) (plain u r hu hr fr mr) e in (
      sym (type-canon t s) ∙ ap type_of same ∙ type-canon u r,
      sym (denote_canon t s ht.carried hs) ∙ ap denote same ∙ denote_canon u r hu.carried hr,
    )

pub same_texts : (t u : TypeData) (s r : List Slot) → (t ≡ u) × (s ≡ r) → column_text (canon t s) ≡ column_text (canon u r)
same_texts t u s r e = ap (λ v. column_text (canon v s)) e.0 ∙ ap (λ x. column_text (canon u x)) e.1
