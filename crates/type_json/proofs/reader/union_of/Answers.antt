use Rattle.std.proofs.Common.{ap, ◌∙◌}
use Rattle.arrow_types.specs.TypeData as T
use Rattle.arrow_types.specs.Seen.{seen, seen_fields}
use Rattle.arrow_types.specs.SeenAt.{seen-Union}
use Rattle.arrow_types.specs.declared.datatype.ArrowDataType as A
use Rattle.arrow_types.specs.declared.datatype.UnionType.{out-roll-UnionType}
use Rattle.type_json.proofs.reader.union_of.Goals as goal

pub returns : goal.returns
returns c =
    ap (λ u. seen (A.Union u)) c.in_ok-new.ensures
    ∙ seen-Union _
    ∙ ap (λ u. T.union (seen_fields u.fields) u.ids u.mode) (out-roll-UnionType record { fields = c.args.fields; ids = c.args.ids; mode = c.args.mode })
