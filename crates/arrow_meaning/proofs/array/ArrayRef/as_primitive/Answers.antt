use Rattle.std.proofs.Common.{ap, subst, sym, ◌∙◌}
use Rattle.arrow_types.specs.declared.datatype.PhysicalType.TheVariants as physical
use Rattle.arrow_meaning.specs.declared.node.Node.TheVariants as node
use Rattle.arrow_meaning.specs.Nodes.{IsStoredAs, layout_of, node_physical, primitive_layout}
use Rattle.arrow_meaning.proofs.Variants.{found_as, found_primitive, node_of, stored_kind}
use Rattle.arrow_meaning.proofs.array.ArrayRef.as_primitive.Goals as goal

pub returns-in-Primitive : goal.returns-in-Primitive
returns-in-Primitive g c =
    let p = g.T.NativeType.PRIMITIVE in
    let is = sym c.in-Primitive.is in
    found_as c.of_primitive.result (node.Primitive c.in-Primitive.array) c.args.self.now (physical.Primitive p) (λ a. primitive_layout g.T.NativeType.parts a.now)
    (ap layout_of is ∙ c.node.ensures.same) (subst (λ n. IsStoredAs (node_physical n) c.args.self.now) c.in-Primitive.is c.node.ensures.kind)
    (found_primitive c.of_primitive.result c.in-Primitive.array p (λ a. primitive_layout g.T.NativeType.parts a.now) c.of_primitive.ensures)

pub returns-in_default : goal.returns-in_default
returns-in_default g c = λ s.
    let p = physical.Primitive g.T.NativeType.PRIMITIVE in
    let found = node_of c.node.result.now p (stored_kind c.node.result.now c.args.self.now p c.node.ensures.kind s) in
    c.in_default.not-Primitive found.0 found.1
