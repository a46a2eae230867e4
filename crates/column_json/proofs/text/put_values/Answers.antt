use Rattle.std.proofs.Common.{arith, sym}
use Rattle.column_grammar.specs.Values.{number_value}
use Rattle.column_json.proofs.Tokens.{list_begun, list_more, list_put, map-map}
use Rattle.column_json.proofs.text.put_values.Goals as goal

pub loop-value-init : goal.loop-value-init
loop-value-init g c = list_begun _

pub loop-value-preserved : goal.loop-value-preserved
loop-value-preserved g c = list_more (λ x. number_value g.T.NativeType.PRIMITIVE (g.T.NativeType.parts x)) c.args.values.now c.loop-value.value-index c.value-item.result _ _ _ (omega arith) c.value-item.is c.loop-value.invariant c.in_ok-put.ensures

pub returns : goal.returns
returns g c =
    list_put (λ x. number_value g.T.NativeType.PRIMITIVE (g.T.NativeType.parts x)) c.args.values.now c.loop-value.value-index _ c.end_array.result _ _ _ _ c.in_ok-begin_array.ensures.ok c.in_ok-begin_array.ensures.room.0 c.loop-value-test.false c.loop-value.invariant c.end_array.ensures
    (sym (map-map g.T.NativeType.parts (number_value g.T.NativeType.PRIMITIVE) c.args.values.now))
