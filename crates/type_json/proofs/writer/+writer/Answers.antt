use Rattle.std.proofs.Common.{arith, sym, ap, ◌∙◌}
use Rattle.std.specs.Prelude.{map}
use Rattle.std.proofs.lemmas.List.{take_all}
use Rattle.serde_json.specs.Data.{array}
use Rattle.serde_json.specs.View.{items_of}
use Rattle.serde_json.proofs.Views.{view-Array}
use Rattle.arrow_types.specs.Seen.{seen_field}
use Rattle.type_json.specs.TypeJson.{field_value}
use Rattle.type_json.proofs.Parts.{fields_mapped}
use Rattle.type_json.proofs.writer.+writer.Goals as goal

pub fields_json-returns : goal.fields_json-returns
fields_json-returns t c =
    view-Array c.loop-field.list
    ∙ ap (λ ds. array (items_of ds)) (c.loop-field.invariant ∙ ap (map (λ f. field_value (seen_field f))) (take_all c.loop-field.field-index c.args.fields.now (omega arith)))
    ∙ ap array (sym (fields_mapped c.args.fields.now))
