use Rattle.std.proofs.Common.{ap, sym, ◌∙◌}
use Rattle.arrow_types.specs.Seen.{seen, seen_union}
use Rattle.arrow_types.specs.SeenAt as at
use Rattle.arrow_layout.specs.Forms.{form_of, ids_by}
use Rattle.arrow_meaning.proofs.NullArrays.{form-logical}
use Rattle.arrow_canonical.proofs.Ids.{no_ids}
use Rattle.arrow_canonical.proofs.field.declared_ids.Goals as goal

pub returns-in-Union : goal.returns-in-Union
returns-in-Union c =
    let same =
    form-logical (seen c.args.dtype.now) ∙ ap form_of (sym c.to_logical_type.ensures) ∙ ap (λ t. form_of (seen t)) c.in-Union.is
    ∙ ap form_of (at.seen-Union _) ∙ ap (λ u. form_of (seen_union u)) (sym c.get.ensures) in
    c.ids_of.ensures ∙ sym (ap ids_by same)

pub returns-in_default : goal.returns-in_default
returns-in_default c = sym (no_ids c.to_logical_type.result.now c.in_default.not-Union (seen c.args.dtype.now) c.to_logical_type.ensures)
