use Rattle.std.proofs.Common.{ap, subst, sym}
use Rattle.std.specs.Prelude.{OnOk}
use Rattle.arrow_layout.specs.Denote.{validity_of}
use Rattle.arrow_layout.specs.Layouts.{layouts}
use Rattle.arrow_meaning.specs.Nodes.{key_layout, layout_of}
use Rattle.column_grammar.specs.Values.{mask_value}
use Rattle.column_json.specs.Children.{head_tokens, keys_start}
use Rattle.column_json.specs.Puts.{Grows}
use Rattle.column_json.proofs.Parts.{keys_single, union_head}
use Rattle.column_json.proofs.nested.put_head.Goals as goal

pub returns-in-Union : goal.returns-in-Union
returns-in-Union c =
    let r = c.put_children_start-in-Union in
    let v = c.in-Union in
    subst (λ l. OnOk r.result (Grows c.args.out.now r.new.out (head_tokens l))) (sym (ap layout_of v.is))
    (subst (λ ts. OnOk r.result (Grows c.args.out.now r.new.out ts)) (union_head v.dtype v.types v.offsets (layouts v.children.items) v.shift) r.ensures)

pub returns-in-Dictionary : goal.returns-in-Dictionary
returns-in-Dictionary c =
    let r = c.put_keys_start in
    let ks = c.in-Dictionary.keys in
    subst (λ l. OnOk r.result (Grows c.args.out.now r.new.out (head_tokens l))) (sym (ap layout_of c.in-Dictionary.is))
    (subst (λ d. OnOk r.result (Grows c.args.out.now r.new.out (keys_start d (mask_value (validity_of (key_layout ks)))))) (keys_single ks) r.ensures)
