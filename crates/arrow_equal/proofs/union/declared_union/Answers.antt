use Rattle.std.proofs.Common.{ap, sym, ◌∙◌}
use Rattle.arrow_types.specs.Seen.{seen, seen_union}
use Rattle.arrow_types.specs.SeenAt as at
use Rattle.arrow_layout.specs.Forms.{form_of}
use Rattle.arrow_choice.proofs.Unions.{form-logical, union_other}
use Rattle.arrow_equal.proofs.union.declared_union.Goals as goal

pub unreachable-requires : goal.unreachable-requires
unreachable-requires c = union_other c.to_logical_type.result.now c.in_default.not-Union (seen c.args.dtype.now) c.to_logical_type.ensures c.requires

pub returns : goal.returns
returns c =
    sym (form-logical (seen c.args.dtype.now)) ∙ (ap form_of (sym c.to_logical_type.ensures) ∙ (ap (λ t. form_of (seen t)) c.in-Union.is
    ∙ (ap form_of (at.seen-Union _) ∙ ap (λ u. form_of (seen_union u)) (sym c.get.ensures))))
