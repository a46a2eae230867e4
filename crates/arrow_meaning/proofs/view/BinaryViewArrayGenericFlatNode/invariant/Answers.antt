use Rattle.std.proofs.Common.{arith}
use Rattle.arrow_meaning.proofs.FlatLayouts.{well_formed_view}
use Rattle.arrow_meaning.proofs.view.BinaryViewArrayGenericFlatNode.invariant.Goals as goal

pub returns-clause-sound : goal.returns-clause-sound
returns-clause-sound g c = well_formed_view g.T.ViewType.IS_TEXT c.args.self.now c.data_buffers.result.now c.invariant.ensures c.data_buffers.ensures (omega arith)
