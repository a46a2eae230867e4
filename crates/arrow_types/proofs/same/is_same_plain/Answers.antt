use Rattle.arrow_types.proofs.SameVariant.{same_bare}
use Rattle.arrow_types.proofs.same.is_same_plain.Goals as goal

pub returns-in_default : goal.returns-in_default
returns-in_default c =
    let d = c.in_default in
    same_bare c.args.a.now d.not-Timestamp d.not-Time32 d.not-Time64 d.not-Duration d.not-Interval d.not-FixedSizeBinary d.not-Decimal d.not-Decimal256 c.args.b.now
