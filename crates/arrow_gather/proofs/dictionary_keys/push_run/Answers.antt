use Rattle.std.proofs.Common.{◌++◌, ap, sym, ◌∙◌}
use Rattle.arrow_meaning.specs.Nodes.{primitive_layout}
use Rattle.arrow_canon.specs.Runs.{places_of}
use Rattle.arrow_gather.specs.Distincts.{value_places}
use Rattle.arrow_gather.proofs.KeyPlaces.{fill_positions}
use Rattle.arrow_gather.proofs.dictionary_keys.push_run.Goals as goal

pub returns-in_ok-push_fill-in-Fill : goal.returns-in_ok-push_fill-in-Fill
returns-in_ok-push_fill-in-Fill g c =
    let ks = primitive_layout g.K.NativeType.parts c.args.keys.now in
    c.in_ok-push_fill-in-Fill.ensures
    ∙ ap (λ ps. c.args.positions.now.items ++ ps) (fill_positions ks c.in-Fill.count ∙ ap (λ r. value_places ks (places_of r)) (sym c.in-Fill.is))
