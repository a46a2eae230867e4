use Rattle.std.proofs.Common.{◌+◌, ap, arith, refl, rules, sym, ◌∙◌}
use Rattle.arrow_layout.specs.Layouts.{layouts}
use Rattle.arrow_layout.specs.NodeCount.{node_counts}
use Rattle.arrow_layout.specs.Paths.{children_of}
use Rattle.arrow_meaning.proofs.Children.{children_fall}
use Rattle.arrow_scalar.proofs.Assembled.{layouts_one, lists_one, node_count-children}
use Rattle.arrow_scalar.proofs.layout.+same_layout.Goals as goal

pub same_layout-all_same-requires : goal.same_layout-all_same-requires
same_layout-all_same-requires t c =
    let l = c.args.lhs.now in
    let cs = c.children.result.now in
    let inside = c.children.ensures ∙ ap children_of c.node.ensures.same in
    let fall = children_fall l cs cs (node_count-children l ∙ ap (λ ls. node_counts ls + 1) (sym inside)) refl in
    (search (rules, arith, fall), tt)

pub same_layout-returns-then-same_but_children : goal.same_layout-returns-then-same_but_children
same_layout-returns-then-same_but_children t c =
    let h = c.same_but_children.ensures.0 c.if-same_but_children.true in
    let cs = c.children.result.now in
    let ds = c.children-then-same_but_children.result.now in
    let p = c.children.ensures ∙ ap children_of c.node.ensures.same in
    let q = c.children-then-same_but_children.ensures ∙ ap children_of c.node-then-same_but_children.ensures.same in
    (λ b. layouts_one c.args.lhs.now c.args.rhs.now h (sym p ∙ ap layouts (c.all_same.ensures.0 b) ∙ q), λ e. c.all_same.ensures.1 (lists_one cs ds (p ∙ ap children_of e ∙ sym q)))
