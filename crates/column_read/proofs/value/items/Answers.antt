use Rattle.std.proofs.Common.{ap, sym, ◌∙◌, Some}
use Rattle.std.specs.Prelude.{map, option_map}
use Rattle.serde_json.specs.View.{view}
use Rattle.type_json.specs.Values.{list_of}
use Rattle.type_json.proofs.Walks.{list_of-items_of}
use Rattle.column_read.proofs.value.items.Goals as goal

pub returns : goal.returns
returns c =
    ap Some (ap (map view) c.as_slice.ensures.value ∙ sym (list_of-items_of (map view c.in_ok-list.list.now.items)))
    ∙ ap (option_map list_of) c.in_ok-list.ensures
