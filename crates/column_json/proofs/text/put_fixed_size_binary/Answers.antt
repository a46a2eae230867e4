use Rattle.std.proofs.Common.{subst, ◌∙◌}
use Rattle.arrow_flat.specs.Natives.{octets}
use Rattle.column_grammar.specs.Values.{bytes_value, mask_value}
use Rattle.column_json.specs.Puts.{Puts}
use Rattle.column_json.proofs.Tokens.{ended, then_part, then_token}
use Rattle.column_json.proofs.text.put_fixed_size_binary.Goals as goal

pub returns : goal.returns
returns c =
    let r = c.end_object.result in
    let bytes = subst (λ bs. Puts c.key.new.self c.put_bytes.new.out (bytes_value (octets bs))) (c.as_slice.ensures ∙ c.values.ensures) c.in_ok-put_bytes.ensures in
    let mask = subst (λ m. Puts c.key-2.new.self c.put_mask.new.out (mask_value m)) c.validity.ensures c.in_ok-put_mask.ensures in
    then_token r c.args.out.now c.begin_object.new.self c.end_object.new.self _ _ c.in_ok-begin_object.ensures.ok c.in_ok-begin_object.ensures.room.0
    (then_token r c.begin_object.new.self c.key.new.self c.end_object.new.self _ _ c.in_ok-key.ensures.ok c.in_ok-key.ensures.room.0
    (then_part r c.key.new.self c.put_bytes.new.out c.end_object.new.self _ _ bytes
    (then_token r c.put_bytes.new.out c.key-2.new.self c.end_object.new.self _ _ c.in_ok-key-2.ensures.ok c.in_ok-key-2.ensures.room.0
    (then_part r c.key-2.new.self c.put_mask.new.out c.end_object.new.self _ _ mask
    (ended r c.put_mask.new.out c.end_object.new.self _ c.end_object.ensures)))))
