use Rattle.std.proofs.Common.{◌≡◌, ◌↔◌, IsTrue, length, sym, ◌∙◌}
use Rattle.std.proofs.lemmas.Bool.{false≢true}
use Rattle.arrow_layout.specs.Canonical.{FillElsewhere}
use Rattle.arrow_layout.specs.Denote.{denote}
use Rattle.arrow_layout.specs.Layouts.{type_of}
use Rattle.arrow_layout.specs.SlotsOf.{fill}
use Rattle.arrow_layout.proofs.Lengths.{length-denote}
use Rattle.arrow_canonical.specs.Filled.{OthersAreFilled}
use Rattle.arrow_canonical.proofs.Children.{ok_then}
use Rattle.arrow_canonical.proofs.Fillings.{elsewhere, elsewhere_long}
use Rattle.arrow_canonical.proofs.union.is_elsewhere.Goals as goal

pub returns-then-len-fields : goal.returns-then-len-fields
returns-then-len-fields c =
    let l = c.args.child.now in (
      λ t. absurd (false≢true t),
      λ h. absurd (c.if-len-fields.true (c.len.ensures ∙ sym (length-denote l c.invariant.ensures) ∙ elsewhere_long (fill (type_of l)) c.args.j c.args.fields.now (denote l) h)),
    )

pub returns : goal.returns
returns c =
    let l = c.args.child.now in
    let fs = c.args.fields.now in
    let same : length (denote l) ≡ length fs = length-denote l c.invariant.ensures ∙ sym c.len.ensures ∙ c.if-len-fields.false in
    let both = elsewhere l c.args.j fs same in
    ok_then c.others_are_filled.result (λ b. IsTrue b ↔ OthersAreFilled fs c.args.j l) (λ b. IsTrue b ↔ FillElsewhere (fill (type_of l)) c.args.j fs (denote l))
    (λ b h. (λ t. both.0 (h.0 t), λ e. h.1 (both.1 e))) c.others_are_filled.ensures
