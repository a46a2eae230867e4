use Rattle.std.proofs.Common.{◌≡◌, take}
use Rattle.std.specs.Prelude.{map}
use Rattle.serde_json.specs.View.{view}
use Rattle.arrow_types.specs.Seen.{seen_field}
use Rattle.type_json.specs.TypeJson.{field_value}
use Rattle.type_json.proofs.writer.+writer.Given as goal

abbrev pub invariant-fields_json-loop-field : goal.invariant-fields_json-loop-field
invariant-fields_json-loop-field l = map view l.list.items ≡ map (λ f. field_value (seen_field f)) (take l.field-index l.fields)
