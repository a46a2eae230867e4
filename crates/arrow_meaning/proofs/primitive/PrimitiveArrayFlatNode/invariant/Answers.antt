use Rattle.std.proofs.Common.{arith}
use Rattle.arrow_meaning.proofs.Primitives.{well_formed_primitive}
use Rattle.arrow_meaning.proofs.primitive.PrimitiveArrayFlatNode.invariant.Goals as goal

pub returns-clause-sound : goal.returns-clause-sound
returns-clause-sound g c = well_formed_primitive g.T.NativeType.PRIMITIVE g.T.NativeType.parts g.met.T.NativeType.parts_fit c.args.self.now c.invariant.ensures (omega arith)
