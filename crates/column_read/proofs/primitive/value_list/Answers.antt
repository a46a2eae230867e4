use Rattle.std.proofs.Common.{◌≡◌, None, arith, rules}
use Rattle.std.specs.Prelude.{map}
use Rattle.type_json.specs.Values.{traverse}
use Rattle.serde_json.specs.View.{view}
use Rattle.column_grammar.specs.Values.{number_in}
use Rattle.column_read.proofs.Loops.{read_none, read_more}
use Rattle.column_read.proofs.primitive.value_list.Goals as goal

pub returns-in_err-read : goal.returns-in_err-read
returns-in_err-read g c =
    let P = g.T.NativeType.PRIMITIVE in
    let none : number_in P (view c.item-item.result) ≡ None → traverse (number_in P) (map view c.args.list.now) ≡ None =
    read_none view (number_in P) g.T.NativeType.parts c.args.list.now c.loop-item.item-index c.item-item.result (omega arith) c.item-item.is in
    search (rules, none)

pub loop-item-preserved : goal.loop-item-preserved
loop-item-preserved g c =
    read_more view (number_in g.T.NativeType.PRIMITIVE) g.T.NativeType.parts c.args.list.now c.loop-item.item-index c.item-item.result c.loop-item.values.items c.push.new.self.items c.in_ok-read.field-0 (omega arith)
    c.loop-item.invariant c.item-item.is c.in_ok-read.ensures c.in_ok-push.ensures.items
