use Rattle.std.proofs.Common.{slice_get, ap, sym, ◌∙◌, ◌<◌, subst}
use Rattle.arrow_flat.specs.Pieces.{AreTextsIf}
use Rattle.arrow_bytes.specs.Binaries.{slot_count, values_between, values_of}
use Rattle.arrow_bytes.proofs.Windows.{offset_after}
use Rattle.arrow_bytes.proofs.offset_array.OffsetArray.value_bytes.Goals as goal

pub piece-requires-clause-slot : goal.piece-requires-clause-slot
piece-requires-clause-slot g c = offset_after _ _ (subst (λ a. c.args.i < slot_count a) (sym c.self.view_is) c.requires)

pub returns-clause-value : goal.returns-clause-value
returns-clause-value g c =
    let number = g.O.Offset.number in
    ap (λ a. slice_get (values_of number a) c.args.i) (sym c.self.view_is)
    ∙ ap (λ bytes. slice_get (values_between number c.self.inside.offsets bytes) c.args.i) (sym c.as_slice.ensures) ∙ c.piece.ensures

pub returns-clause-texts : goal.returns-clause-texts
returns-clause-texts g c = subst (λ a. AreTextsIf g.K.ViewType.IS_TEXT (values_of g.O.Offset.number a)) c.self.view_is c.self.invariant.texts
