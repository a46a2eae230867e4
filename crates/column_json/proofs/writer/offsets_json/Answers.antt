use Rattle.std.proofs.Common.{arith, map, ap, ◌∙◌}
use Rattle.std.proofs.lemmas.List.{take_all}
use Rattle.serde_json.proofs.Views.{view-Array}
use Rattle.column_grammar.specs.Values.{integer_value, list_value}
use Rattle.column_json.proofs.Offsets.{offset_positive, same_offsets}
use Rattle.column_json.proofs.writer.offsets_json.Goals as goal

pub offset_json-requires : goal.offset_json-requires
offset_json-requires g c =
    offset_positive g.O.Offset.number g.O.Offset.limit c.as_slice-items.result.now c.loop-offset.offset-index c.offset-item.result
    (same_offsets g.O.Offset.number g.O.Offset.limit c.args.offsets.now c.as_slice-items.result.now c.as_slice-items.ensures.value c.as_slice-items.ensures.sound) (omega arith) c.offset-item.is

pub returns : goal.returns
returns g c =
    view-Array c.loop-offset.list
    ∙ ap list_value c.loop-offset.invariant
    ∙ ap (λ os. list_value (map integer_value (map g.O.Offset.number os))) (take_all c.loop-offset.offset-index c.as_slice-items.result.now (omega arith) ∙ c.as_slice-items.ensures.value)
