use Rattle.std.proofs.Common.{arith, get_or, refl}
use Rattle.std.specs.Prelude.{pos}
use Rattle.std.proofs.lemmas.List.{get_or_default}
use Rattle.column_grammar.specs.Values.{integer_value}
use Rattle.column_json.proofs.Tokens.{list_begun, list_more, list_put}
use Rattle.column_json.proofs.nested.put_places.Goals as goal

pub loop-offset-init : goal.loop-offset-init
loop-offset-init c = list_begun _

pub loop-offset-preserved : goal.loop-offset-preserved
loop-offset-preserved c =
    list_more integer_value c.args.offsets.now c.loop-offset.offset-index (get_or c.args.offsets.now c.loop-offset.offset-index (pos 0)) _ _ _ (omega arith) (get_or_default c.args.offsets.now c.loop-offset.offset-index (pos 0) (get_or c.args.offsets.now c.loop-offset.offset-index (pos 0)) (omega arith))
    c.loop-offset.invariant c.in_ok-put_place.ensures

pub returns : goal.returns
returns c =
    list_put integer_value c.args.offsets.now c.loop-offset.offset-index _ c.end_array.result _ _ _ _ c.in_ok-begin_array.ensures.ok c.in_ok-begin_array.ensures.room.0 c.loop-offset-test.false c.loop-offset.invariant c.end_array.ensures
    refl
