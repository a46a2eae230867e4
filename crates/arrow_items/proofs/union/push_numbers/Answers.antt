use Rattle.std.proofs.Common.{◌++◌, length, sym, subst, ap, ◌∙◌}
use Rattle.arrow_canon.specs.Picks.{picks}
use Rattle.arrow_canon.specs.Runs.{places_of, IsWithin}
use Rattle.arrow_canon.proofs.Places.{picks_fill, picks_slots}
use Rattle.arrow_items.proofs.union.push_numbers.Goals as goal

pub returns-in_ok-extend_from_slice-in-Slots : goal.returns-in_ok-extend_from_slice-in-Slots
returns-in_ok-extend_from_slice-in-Slots c =
    let d = c.args.filling.now in
    let ts = c.args.types.now in
    let low = subst (IsWithin (length ts)) c.in-Slots.is c.requires in
    c.in_ok-extend_from_slice-in-Slots.ensures.items
    ∙ ap (λ ys. c.args.numbers.now.items ++ ys) (picks_slots d ts c.in-Slots.start c.in-Slots.length low ∙ ap (λ r. picks d ts (places_of r)) (sym c.in-Slots.is))

pub returns-in_ok-push_copies-in-Fill : goal.returns-in_ok-push_copies-in-Fill
returns-in_ok-push_copies-in-Fill c =
    let d = c.args.filling.now in
    let ts = c.args.types.now in
    c.in_ok-push_copies-in-Fill.ensures
    ∙ ap (λ ys. c.args.numbers.now.items ++ ys) (picks_fill d ts c.in-Fill.count ∙ ap (λ r. picks d ts (places_of r)) (sym c.in-Fill.is))
