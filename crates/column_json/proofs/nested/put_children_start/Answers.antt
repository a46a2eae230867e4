use Rattle.column_json.proofs.Tokens.{ended, then_token}
use Rattle.column_json.proofs.nested.put_children_start.Goals as goal

pub returns : goal.returns
returns c =
    let r = c.begin_array.result in
    then_token r c.args.out.now c.begin_object.new.self c.begin_array.new.self _ _ c.in_ok-begin_object.ensures.ok c.in_ok-begin_object.ensures.room.0
    (then_token r c.begin_object.new.self c.key.new.self c.begin_array.new.self _ _ c.in_ok-key.ensures.ok c.in_ok-key.ensures.room.0
    (ended r c.key.new.self c.begin_array.new.self _ c.begin_array.ensures))
