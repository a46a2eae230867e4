use Rattle.std.proofs.Common.{◌∷◌, ap, map, subst, sym}
use Rattle.std.specs.Prelude.{OnOk, codes}
use Rattle.json.specs.Token.{end_array}
use Rattle.arrow_layout.specs.Layouts.{layouts}
use Rattle.arrow_meaning.specs.Nodes.{layout_of}
use Rattle.column_grammar.specs.Values.{integer_value, list_value}
use Rattle.column_grammar.specs.Writes.{union_offsets_value}
use Rattle.column_json.specs.Children.{tail_tokens, two_tokens}
use Rattle.column_json.specs.Puts.{Grows}
use Rattle.column_json.proofs.Parts.{union_tail}
use Rattle.column_json.proofs.nested.put_tail.Goals as goal

pub returns-in-Union : goal.returns-in-Union
returns-in-Union c =
    let r = c.put_union_end in
    let v = c.in-Union in
    let own = subst (λ ts. OnOk r.result (Grows c.args.out.now r.new.out (end_array ∷ two_tokens (codes "offsets") (union_offsets_value v.offsets) (codes "types") (list_value (map integer_value ts)))))
    c.as_slice.ensures r.ensures in
    subst (λ l. OnOk r.result (Grows c.args.out.now r.new.out (tail_tokens l))) (sym (ap layout_of v.is))
    (subst (λ us. OnOk r.result (Grows c.args.out.now r.new.out us)) (union_tail v.dtype v.types v.offsets (layouts v.children.items) v.shift) own)
