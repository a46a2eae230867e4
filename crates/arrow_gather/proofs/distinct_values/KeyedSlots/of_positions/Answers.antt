use Rattle.std.proofs.Common.{[]}
use Rattle.arrow_gather.proofs.distinct_values.KeyedSlots.of_positions.Goals as goal

pub returns : goal.returns
returns c = c.in_ok-extend.ensures [] (c.new-slots.ensures c.args.array.now)
