use Rattle.std.proofs.Common.{◌++◌, ◌+◌, length, map, sym, ap, ◌∙◌, None}
use Rattle.arrow_canon.specs.Runs.{places, places_of}
use Rattle.arrow_canon.proofs.Places.{map_replicate}
use Rattle.arrow_items.specs.Unions.{sparse_place}
use Rattle.arrow_items.proofs.sparse.push_picked.Goals as goal

pub returns-in_ok-push_run-in-Fill-clause-places : goal.returns-in_ok-push_run-in-Fill-clause-places
returns-in_ok-push_run-in-Fill-clause-places c =
    let f = sparse_place c.args.fields.now c.args.shift c.args.field in
    c.in_ok-push_run-in-Fill.ensures.places
    ∙ ap (λ ps. places c.args.picked.now.items ++ ps) (sym (map_replicate f None c.in-Fill.count) ∙ ap (λ r. map f (places_of r)) (sym c.in-Fill.is))

pub returns-in_ok-push_run-in-Fill-clause-inside : goal.returns-in_ok-push_run-in-Fill-clause-inside
returns-in_ok-push_run-in-Fill-clause-inside c = λ h. c.in_ok-push_run-in-Fill.ensures.within (c.args.shift + length c.args.fields.now) tt h
