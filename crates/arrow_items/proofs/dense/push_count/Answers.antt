use Rattle.std.proofs.Common.{◌≡◌, ◌+◌, get_or, arith}
use Rattle.std.proofs.lemmas.Grind.{common_steps, elements}
use Rattle.arrow_items.proofs.Occurrences.{counts_set}
use Rattle.arrow_items.proofs.dense.push_count.Goals as goal

pub returns-clause-counted : goal.returns-clause-counted
returns-clause-counted c = λ before h.
    let e : c.index-count.result.now + 1 ≡ get_or c.args.counts.now.items c.args.field 0 + 1 = grind (arith, common_steps, elements) in
    counts_set c.args.counts.now.items c.args.field (c.index-count.result.now + 1) before h c.requires e
