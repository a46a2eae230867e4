use Rattle.std.proofs.Common.{map, ap, ◌∙◌}
use Rattle.arrow_canon.proofs.Strings.{offsets_numbers}
use Rattle.arrow_canon.proofs.binary.offsets_from_zero.Goals as goal

pub returns-in-Ok-clause-ok : goal.returns-in-Ok-clause-ok
returns-in-Ok-clause-ok g c =
    let number = g.O.Offset.number in
    ap (map number) c.in_ok-freeze-in-Ok.ensures ∙ c.in-Ok.ensures.ok ∙ offsets_numbers (map number c.in_ok-ends.ends) c.args.lengths.now c.in_ok-ends.ensures
