use Rattle.std.proofs.Common.{sym, ap, ap₂, ◌∙◌, ◌++◌, ◌+◌, ◌-◌, map, flat_map, subst, append-nil, arith}
use Rattle.arrow_types.specs.Select.{nat_of}
use Rattle.arrow_canon.specs.Picks.{span}
use Rattle.arrow_canon.specs.Runs.{places, places_of, IsWithin}
use Rattle.arrow_items.specs.Items.{item_places}
use Rattle.arrow_items.proofs.ListItems.{some_slot, slots_rise, slots_items, slots_low, items_fill}
use Rattle.arrow_items.proofs.list.push_items.Goals as goal

pub offset_at-first-requires-clause-within : goal.offset_at-first-requires-clause-within
offset_at-first-requires-clause-within g c =
    let w = subst (IsWithin _) c.in-Slots.is c.requires.within in
    some_slot g.O.Offset.number g.O.Offset.limit c.args.offsets.now c.requires.sound c.in-Slots.start (omega (arith, w))

pub offset_at-end-requires-clause-within : goal.offset_at-end-requires-clause-within
offset_at-end-requires-clause-within g c =
    let w = subst (IsWithin _) c.in-Slots.is c.requires.within in
    some_slot g.O.Offset.number g.O.Offset.limit c.args.offsets.now c.requires.sound (c.in-Slots.start + c.in-Slots.length) w

pub overflow_sub-end : goal.overflow_sub-end
overflow_sub-end g c =
    let w = subst (IsWithin _) c.in-Slots.is c.requires.within in
    let low = slots_rise g.O.Offset.number g.O.Offset.limit c.args.offsets.now c.requires.sound c.in-Slots.start c.in-Slots.length w in
    omega (arith, low, c.offset_at-first.ensures, c.offset_at-end.ensures)

pub returns-in_ok-push_slots-in-Slots-clause-places : goal.returns-in_ok-push_slots-in-Slots-clause-places
returns-in_ok-push_slots-in-Slots-clause-places g c =
    let os = map nat_of (map g.O.Offset.number c.args.offsets.now) in
    let w = subst (IsWithin _) c.in-Slots.is c.requires.within in
    c.in_ok-push_slots-in-Slots.ensures.places
    ∙ ap (λ ps. places c.args.items.now.items ++ ps)
    (ap₂ (λ a b. span a (b - a)) c.offset_at-first.ensures c.offset_at-end.ensures
    ∙ sym (slots_items g.O.Offset.number g.O.Offset.limit c.args.offsets.now c.requires.sound c.in-Slots.start c.in-Slots.length w)
    ∙ ap (λ r. flat_map (item_places os) (places_of r)) (sym c.in-Slots.is))

pub returns-in_ok-push_slots-in-Slots-clause-inside : goal.returns-in_ok-push_slots-in-Slots-clause-inside
returns-in_ok-push_slots-in-Slots-clause-inside g c = λ top h k.
    let w = subst (IsWithin _) c.in-Slots.is c.requires.within in
    let low = slots_rise g.O.Offset.number g.O.Offset.limit c.args.offsets.now c.requires.sound c.in-Slots.start c.in-Slots.length w in
    let high = slots_low g.O.Offset.number g.O.Offset.limit c.args.offsets.now c.requires.sound c.in-Slots.start c.in-Slots.length w top h in
    c.in_ok-push_slots-in-Slots.ensures.inside top k (omega (arith, low, high, c.offset_at-first.ensures, c.offset_at-end.ensures))

pub returns-in-Fill-clause-places : goal.returns-in-Fill-clause-places
returns-in-Fill-clause-places g c =
    let os = map nat_of (map g.O.Offset.number c.args.offsets.now) in
    sym (append-nil (places c.args.items.now.items))
    ∙ ap (λ ps. places c.args.items.now.items ++ ps) (sym (items_fill os c.in-Fill.count) ∙ ap (λ r. flat_map (item_places os) (places_of r)) (sym c.in-Fill.is))
