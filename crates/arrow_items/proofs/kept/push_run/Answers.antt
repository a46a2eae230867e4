use Rattle.std.proofs.Common.{sym, ap, ◌∙◌, ◌++◌, None, Some, subst}
use Rattle.arrow_canon.specs.Runs.{places, places_of, IsWithin}
use Rattle.arrow_canon.proofs.Places.{map_replicate}
use Rattle.arrow_items.specs.Items.{kept_place, kept_places}
use Rattle.arrow_items.proofs.kept.push_run.Goals as goal

pub returns-in_ok-push_run_slots-in-Slots-clause-inside : goal.returns-in_ok-push_run_slots-in-Slots-clause-inside
returns-in_ok-push_run_slots-in-Slots-clause-inside c = λ n w h. c.in_ok-push_run_slots-in-Slots.ensures.inside n w (subst (IsWithin n) c.in-Slots.is h)

pub returns-in_ok-push_fill-in-Fill-clause-places : goal.returns-in_ok-push_fill-in-Fill-clause-places
returns-in_ok-push_fill-in-Fill-clause-places c =
    let m = Some c.args.mask.now in
    c.in_ok-push_fill-in-Fill.ensures.places
    ∙ ap (λ ps. places c.args.kept.now.items ++ ps) (sym (map_replicate (kept_place m) None c.in-Fill.count) ∙ ap (λ r. kept_places m (places_of r)) (sym c.in-Fill.is))

pub returns-in_ok-push_fill-in-Fill-clause-inside : goal.returns-in_ok-push_fill-in-Fill-clause-inside
returns-in_ok-push_fill-in-Fill-clause-inside c = λ n w h. c.in_ok-push_fill-in-Fill.ensures.inside n w
