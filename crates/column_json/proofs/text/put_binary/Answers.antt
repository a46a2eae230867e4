use Rattle.std.proofs.Common.{subst, ◌∙◌}
use Rattle.std.specs.Prelude.{map}
use Rattle.arrow_flat.specs.Natives.{octets}
use Rattle.column_grammar.specs.Values.{bytes_value, integer_value, list_value, mask_value}
use Rattle.column_json.specs.Puts.{Puts}
use Rattle.column_json.proofs.Tokens.{ended, then_part, then_token}
use Rattle.column_json.proofs.text.put_binary.Goals as goal

pub returns : goal.returns
returns g c =
    let r = c.end_object.result in
    let bytes = subst (λ bs. Puts c.key.new.self c.put_bytes.new.out (bytes_value (octets bs))) (c.as_slice.ensures ∙ c.values.ensures) c.in_ok-put_bytes.ensures in
    let mask = subst (λ m. Puts c.key-2.new.self c.put_mask.new.out (mask_value m)) c.validity.ensures c.in_ok-put_mask.ensures in
    let offsets = subst (λ os. Puts c.key-3.new.self c.put_offsets.new.out (list_value (map integer_value (map g.O.Offset.number os)))) c.offsets.ensures c.in_ok-put_offsets.ensures in
    then_token r c.args.out.now c.begin_object.new.self c.end_object.new.self _ _ c.in_ok-begin_object.ensures.ok c.in_ok-begin_object.ensures.room.0
    (then_token r c.begin_object.new.self c.key.new.self c.end_object.new.self _ _ c.in_ok-key.ensures.ok c.in_ok-key.ensures.room.0
    (then_part r c.key.new.self c.put_bytes.new.out c.end_object.new.self _ _ bytes
    (then_token r c.put_bytes.new.out c.key-2.new.self c.end_object.new.self _ _ c.in_ok-key-2.ensures.ok c.in_ok-key-2.ensures.room.0
    (then_part r c.key-2.new.self c.put_mask.new.out c.end_object.new.self _ _ mask
    (then_token r c.put_mask.new.out c.key-3.new.self c.end_object.new.self _ _ c.in_ok-key-3.ensures.ok c.in_ok-key-3.ensures.room.0
    (then_part r c.key-3.new.self c.put_offsets.new.out c.end_object.new.self _ _ offsets
    (ended r c.put_offsets.new.out c.end_object.new.self _ c.end_object.ensures)))))))
