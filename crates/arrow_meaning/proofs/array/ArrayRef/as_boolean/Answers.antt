use Rattle.arrow_types.specs.declared.datatype.PhysicalType.TheVariants as physical
use Rattle.arrow_meaning.proofs.Variants.{node_of, stored_kind}
use Rattle.arrow_meaning.proofs.array.ArrayRef.as_boolean.Goals as goal

pub returns-in_default : goal.returns-in_default
returns-in_default c = λ s.
    let found = node_of c.node.result.now physical.Boolean (stored_kind c.node.result.now c.args.self.now physical.Boolean c.node.ensures.kind s) in
    c.in_default.not-Boolean found.0 found.1
