use Rattle.std.proofs.Common.{◌≡◌, ℕ}
use Rattle.arrow_growable.proofs.counts.extend_structs.Goals as goal

pub returns-clause-runs : goal.returns-clause-runs
returns-clause-runs c = record {
  same = λ j. tt;
  items = λ j. c.in_ok-parts.ensures.items;
  inside = λ j. c.in_ok-parts.ensures.inside c.args.slots c.requires.within;
  mask = c.in_ok-parts.ensures.mask;
  count = c.in_ok-count.ensures.ok;
}
