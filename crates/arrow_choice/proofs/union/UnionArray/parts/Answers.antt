use Rattle.std.proofs.Common.{ap, length, subst, sym, ◌∙◌}
use Rattle.arrow_layout.specs.Layouts.{layouts}
use Rattle.arrow_layout.specs.Paths.{children_of}
use Rattle.arrow_meaning.specs.Nodes.{layout_of}
use Rattle.arrow_meaning.specs.Refusals.{IsUnion}
use Rattle.arrow_choice.specs.Unions.{type_numbers, union_offsets, union_shift}
use Rattle.arrow_choice.proofs.UnionNodes.{children-union, is_union, offsets-union, shift-union, types-union, union_node}
use Rattle.arrow_choice.proofs.Unions.{numbers_counted}
use Rattle.arrow_choice.proofs.union.UnionArray.parts.Goals as goal

pub unreachable-requires : goal.unreachable-requires
unreachable-requires c =
    let u = union_node c.node.result.now c.self.inside.array c.node.ensures.kind c.self.invariant in
    c.in_default.not-Union u.0 u.1 u.2 u.3 u.4 u.5

pub returns-clause-types : goal.returns-clause-types
returns-clause-types c =
    let u = c.in-Union in
    let same = ap layout_of (sym u.is) ∙ (c.node.ensures.same ∙ c.self.view_is) in
    types-union u.dtype u.types (layouts u.children.items) u.shift u.offsets ∙ ap type_numbers same

pub returns-clause-offsets : goal.returns-clause-offsets
returns-clause-offsets c =
    let u = c.in-Union in
    let same = ap layout_of (sym u.is) ∙ (c.node.ensures.same ∙ c.self.view_is) in
    offsets-union u.dtype u.types (layouts u.children.items) u.shift u.offsets ∙ ap union_offsets same

pub returns-clause-fields : goal.returns-clause-fields
returns-clause-fields c =
    let u = c.in-Union in
    let same = ap layout_of (sym u.is) ∙ (c.node.ensures.same ∙ c.self.view_is) in
    ap layouts c.deref.ensures.value ∙ (children-union u.dtype u.types (layouts u.children.items) u.shift u.offsets ∙ ap children_of same)

pub returns-clause-shift : goal.returns-clause-shift
returns-clause-shift c =
    let u = c.in-Union in
    let same = ap layout_of (sym u.is) ∙ (c.node.ensures.same ∙ c.self.view_is) in
    shift-union u.dtype u.types (layouts u.children.items) u.shift u.offsets ∙ ap union_shift same

pub returns-clause-union : goal.returns-clause-union
returns-clause-union c =
    let u = c.in-Union in
    let same = ap layout_of (sym u.is) ∙ (c.node.ensures.same ∙ c.self.view_is) in
    subst IsUnion same (is_union u.dtype u.types (layouts u.children.items) u.shift u.offsets)

pub returns-clause-counts : goal.returns-clause-counts
returns-clause-counts c =
    let u = c.in-Union in
    let same = ap layout_of (sym u.is) ∙ (c.node.ensures.same ∙ c.self.view_is) in
    let numbers = types-union u.dtype u.types (layouts u.children.items) u.shift u.offsets ∙ ap type_numbers same in
    ap length numbers ∙ numbers_counted c.args.self.now (subst IsUnion same (is_union u.dtype u.types (layouts u.children.items) u.shift u.offsets))
