use Rattle.std.proofs.Common.{arith}
use Rattle.arrow_types.specs.declared.datatype.UnionType.{out-UnionType}
use Rattle.arrow_meaning.proofs.NullTypes.{legal_count, legal_told, no}
use Rattle.arrow_meaning.proofs.null_check.has_legal_fields.Goals as goal

pub returns-then-fields-eq0 : goal.returns-then-fields-eq0
returns-then-fields-eq0 c =
    let u = out-UnionType c.args.union.now in
    no (λ h. let p = legal_count u.fields u.ids u.mode c.len-fields.result c.len-fields.ensures h in omega (arith, p.0, c.if-fields-eq0.true))

pub returns-then-fields-gt127 : goal.returns-then-fields-gt127
returns-then-fields-gt127 c =
    let u = out-UnionType c.args.union.now in
    no (λ h. let p = legal_count u.fields u.ids u.mode c.len-fields.result c.len-fields.ensures h in omega (arith, p.1, c.if-fields-gt127.true))

pub returns : goal.returns
returns c =
    let u = out-UnionType c.args.union.now in
    legal_told u.fields u.ids u.mode c.len-fields.result c.are_ids.result c.len-fields.ensures (omega (arith, c.if-fields-eq0.false)) (omega (arith, c.if-fields-gt127.false)) c.are_ids.ensures
