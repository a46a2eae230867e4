use Rattle.std.proofs.Common.{arith}
use Rattle.arrow_meaning.proofs.FlatLayouts.{well_formed_boolean}
use Rattle.arrow_meaning.proofs.boolean.BooleanArrayFlatNode.invariant.Goals as goal

pub returns-clause-sound : goal.returns-clause-sound
returns-clause-sound c = well_formed_boolean c.args.self.now c.invariant.ensures (omega arith)
