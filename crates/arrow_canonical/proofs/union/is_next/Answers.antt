use Rattle.std.proofs.Common.{◌≡◌, ◌+◌, get_or, arith}
use Rattle.std.proofs.lemmas.Grind.{common_steps, elements}
use Rattle.arrow_canonical.proofs.Occurrences.{counts_set}
use Rattle.arrow_canonical.proofs.union.is_next.Goals as goal

pub returns-clause-counted : goal.returns-clause-counted
returns-clause-counted c = λ t before h.
    let e : c.args.offset + 1 ≡ get_or c.args.counts.now.items c.args.field 0 + 1 = grind (arith, common_steps, elements) in
    counts_set c.args.counts.now.items c.args.field (c.args.offset + 1) before h c.requires.field e
