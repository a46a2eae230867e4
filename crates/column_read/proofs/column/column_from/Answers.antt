use Rattle.std.proofs.Common.{◌≡◌, refl, ap, rules, ◌∙◌, Some}
use Rattle.std.specs.Prelude.{option_and_then, option_map}
use Rattle.serde_json.specs.View.{view}
use Rattle.arrow_types.specs.Seen.{seen}
use Rattle.arrow_layout.specs.Layouts.{Layout}
use Rattle.type_json.specs.TypeJson.{type_in}
use Rattle.column_grammar.specs.Reads.{Column, data_in}
use Rattle.column_grammar.proofs.DataForms.{data_typed}
use Rattle.column_read.proofs.column.column_from.Goals as goal

pub returns-clause-read : goal.returns-clause-read
returns-clause-read c =
    let d = view c.args.content.now in
    let u = seen c.in_ok-dtype.dtype in
    let read = c.in_ok-array.ensures in
    let typed : type_in (view c.args.name.now) ≡ Some u = search (rules, c.in_ok-dtype.ensures) in
    let column : Layout → Column = λ l. record { layout = l; slice = c.args.slice } in
    record {
      column = column read.layout;
      is = ap (λ o. option_map column (option_and_then (λ t. data_in t d) o)) typed ∙ ap (option_map column) read.is;
      same = record { dtype = data_typed u d read.layout read.is; array = read.array; slice = refl };
    }
