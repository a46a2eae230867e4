use Rattle.std.proofs.Common.{◌+◌, ap, arith, refl, rules, subst, sym, ◌∙◌}
use Rattle.std.specs.Prelude.{OnOk, map}
use Rattle.std.proofs.lemmas.List.{take_all}
use Rattle.arrow_layout.specs.NodeCount.{node_counts}
use Rattle.arrow_layout.specs.Paths.{children_of}
use Rattle.arrow_meaning.proofs.Children.{children_fall}
use Rattle.arrow_meaning.specs.Nodes.{layout_of}
use Rattle.column_grammar.specs.Writes.{data_value}
use Rattle.column_json.specs.Children.{each_tokens}
use Rattle.column_json.specs.Puts.{Grows, Puts}
use Rattle.column_json.proofs.Parts.{node_count-children, whole_put}
use Rattle.column_json.proofs.Tokens.{list_begun, list_more}
use Rattle.column_json.proofs.nested.+put_data.Goals as goal

pub put_data-put_each-requires : goal.put_data-put_each-requires
put_data-put_each-requires t c =
    let l = c.args.array.now in
    let cs = c.children.result.now in
    let inside = c.children.ensures ∙ ap children_of c.node-node.ensures.same in
    let fall = children_fall l cs cs (node_count-children l ∙ ap (λ ls. node_counts ls + 1) (sym inside)) refl in
    (search (rules, arith, fall), tt)

pub put_data-returns : goal.put_data-returns
put_data-returns t c =
    subst (λ l. OnOk c.put_tail.result (Puts c.args.out.now c.put_tail.new.out (data_value l))) c.node-node.ensures.same
    (whole_put (layout_of c.node-node.result.now) c.children.result.now c.put_tail.result _ _ _ _ c.children.ensures c.in_ok-put_head.ensures c.in_ok-put_each.ensures c.put_tail.ensures)

pub put_each-loop-array-init : goal.put_each-loop-array-init
put_each-loop-array-init t c = list_begun _

pub put_each-loop-array-preserved : goal.put_each-loop-array-preserved
put_each-loop-array-preserved t c =
    list_more data_value c.args.arrays.now c.loop-array.array-index c.array-item.result _ _ _ (omega arith) c.array-item.is c.loop-array.invariant c.in_ok-put_data.ensures

pub put_each-returns : goal.put_each-returns
put_each-returns t c =
    subst (λ xs. Grows c.args.out.now c.loop-array.out (each_tokens (map data_value xs))) (take_all c.loop-array.array-index c.args.arrays.now c.loop-array-test.false) c.loop-array.invariant
