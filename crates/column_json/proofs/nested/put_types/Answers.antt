use Rattle.std.proofs.Common.{arith, get_or, refl}
use Rattle.std.specs.Prelude.{pos}
use Rattle.std.proofs.lemmas.List.{get_or_default}
use Rattle.column_grammar.specs.Values.{integer_value}
use Rattle.column_json.proofs.Tokens.{list_begun, list_more, list_put}
use Rattle.column_json.proofs.nested.put_types.Goals as goal

pub loop-number-init : goal.loop-number-init
loop-number-init c = list_begun _

pub loop-number-preserved : goal.loop-number-preserved
loop-number-preserved c =
    list_more integer_value c.args.types.now c.loop-number.number-index (get_or c.args.types.now c.loop-number.number-index (pos 0)) _ _ _ (omega arith) (get_or_default c.args.types.now c.loop-number.number-index (pos 0) (get_or c.args.types.now c.loop-number.number-index (pos 0)) (omega arith))
    c.loop-number.invariant c.in_ok-put_type.ensures

pub returns : goal.returns
returns c =
    list_put integer_value c.args.types.now c.loop-number.number-index _ c.end_array.result _ _ _ _ c.in_ok-begin_array.ensures.ok c.in_ok-begin_array.ensures.room.0 c.loop-number-test.false c.loop-number.invariant c.end_array.ensures
    refl
