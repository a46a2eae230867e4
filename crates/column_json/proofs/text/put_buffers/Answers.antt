use Rattle.std.proofs.Common.{arith, subst, sym}
use Rattle.arrow_flat.specs.Natives.{octets}
use Rattle.column_grammar.specs.Values.{bytes_value}
use Rattle.column_json.specs.Puts.{Puts}
use Rattle.column_json.proofs.Tokens.{list_begun, list_more, list_put, map-map}
use Rattle.column_json.proofs.text.put_buffers.Goals as goal

pub loop-buffer-init : goal.loop-buffer-init
loop-buffer-init c = list_begun _

pub loop-buffer-preserved : goal.loop-buffer-preserved
loop-buffer-preserved c = list_more (λ b. bytes_value (octets b)) c.args.buffers.now c.loop-buffer.buffer-index c.buffer-item.result _ _ _ (omega arith) c.buffer-item.is c.loop-buffer.invariant
    (subst (λ bs. Puts c.loop-buffer.out c.put_bytes.new.out (bytes_value (octets bs))) c.as_slice.ensures c.in_ok-put_bytes.ensures)

pub returns : goal.returns
returns c =
    list_put (λ b. bytes_value (octets b)) c.args.buffers.now c.loop-buffer.buffer-index _ c.end_array.result _ _ _ _ c.in_ok-begin_array.ensures.ok c.in_ok-begin_array.ensures.room.0 c.loop-buffer-test.false c.loop-buffer.invariant c.end_array.ensures
    (sym (map-map octets bytes_value c.args.buffers.now))
