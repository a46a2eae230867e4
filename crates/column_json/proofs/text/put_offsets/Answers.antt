use Rattle.std.proofs.Common.{arith, sym, ap, ◌∙◌}
use Rattle.std.specs.Prelude.{map}
use Rattle.column_grammar.specs.Values.{integer_value}
use Rattle.column_json.proofs.Offsets.{offset_positive, same_offsets}
use Rattle.column_json.proofs.Tokens.{list_begun, list_more, list_put, map-map}
use Rattle.column_json.proofs.text.put_offsets.Goals as goal

pub loop-offset-init : goal.loop-offset-init
loop-offset-init g c = list_begun _

pub loop-offset-preserved : goal.loop-offset-preserved
loop-offset-preserved g c = list_more (λ o. integer_value (g.O.Offset.number o)) c.as_slice-items.result.now c.loop-offset.offset-index c.offset-item.result _ _ _ (omega arith) c.offset-item.is c.loop-offset.invariant c.in_ok-put_offset.ensures

pub returns : goal.returns
returns g c =
    list_put (λ o. integer_value (g.O.Offset.number o)) c.as_slice-items.result.now c.loop-offset.offset-index _ c.end_array.result _ _ _ _ c.in_ok-begin_array.ensures.ok c.in_ok-begin_array.ensures.room.0 c.loop-offset-test.false c.loop-offset.invariant c.end_array.ensures
    (sym (map-map g.O.Offset.number integer_value c.as_slice-items.result.now) ∙ ap (λ os. map integer_value (map g.O.Offset.number os)) c.as_slice-items.ensures.value)

pub put_offset-requires : goal.put_offset-requires
put_offset-requires g c =
    offset_positive g.O.Offset.number g.O.Offset.limit c.as_slice-items.result.now c.loop-offset.offset-index c.offset-item.result
    (same_offsets g.O.Offset.number g.O.Offset.limit c.args.offsets.now c.as_slice-items.result.now c.as_slice-items.ensures.value c.as_slice-items.ensures.sound) (omega arith) c.offset-item.is
