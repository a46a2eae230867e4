use Rattle.std.proofs.Common.{sym, ap, ◌∙◌, ◌++◌, ◌*◌, ◌≡◌, flat_map, length, replicate, Option, None, ℕ, subst, arith}
use Rattle.std.proofs.lemmas.List.{length-replicate}
use Rattle.arrow_canon.specs.Runs.{places, places_of, IsWithin}
use Rattle.arrow_items.specs.Items.{chunk_places}
use Rattle.arrow_items.proofs.ByKind.{mul_room}
use Rattle.arrow_items.proofs.Chunks.{chunks_slots, chunks_fill}
use Rattle.arrow_items.proofs.fixed_size_list.push_chunks.Goals as goal

pub returns-in_default-clause-overflow : goal.returns-in_default-clause-overflow
returns-in_default-clause-overflow c = λ _.
    let k = c.args.size in
    let n = c.in-Fill.count in
    let e : length (flat_map (chunk_places k) (places_of c.args.run)) ≡ n * k = ap (λ r. length (flat_map (chunk_places k) (places_of r))) c.in-Fill.is ∙ ap length (chunks_fill k n) ∙ length-replicate (n * k) None in
    let h = c.in_default.ensures in
    omega (arith, e, h)

pub returns-in_ok-push_slots-in-Slots-clause-places : goal.returns-in_ok-push_slots-in-Slots-clause-places
returns-in_ok-push_slots-in-Slots-clause-places c =
    c.in_ok-push_slots-in-Slots.ensures.places
    ∙ ap (λ ps. places c.args.items.now.items ++ ps)
    (sym (chunks_slots c.args.size c.in-Slots.start c.in-Slots.length) ∙ ap (λ r. flat_map (chunk_places c.args.size) (places_of r)) (sym c.in-Slots.is))

pub returns-in_ok-push_slots-in-Slots-clause-inside : goal.returns-in_ok-push_slots-in-Slots-clause-inside
returns-in_ok-push_slots-in-Slots-clause-inside c = λ h.
    c.in_ok-push_slots-in-Slots.ensures.inside (c.args.slots * c.args.size) h
    (mul_room c.in-Slots.start c.in-Slots.length c.args.slots c.args.size (subst (IsWithin c.args.slots) c.in-Slots.is c.requires.within))

pub returns-in_ok-push_fill-in-Fill-clause-places : goal.returns-in_ok-push_fill-in-Fill-clause-places
returns-in_ok-push_fill-in-Fill-clause-places c =
    c.in_ok-push_fill-in-Fill.ensures.places
    ∙ ap (λ ps. places c.args.items.now.items ++ ps)
    (ap (λ m. replicate {A = Option ℕ} m None) c.in-Some.ensures.1 ∙ sym (chunks_fill c.args.size c.in-Fill.count) ∙ ap (λ r. flat_map (chunk_places c.args.size) (places_of r)) (sym c.in-Fill.is))

pub returns-in_ok-push_fill-in-Fill-clause-inside : goal.returns-in_ok-push_fill-in-Fill-clause-inside
returns-in_ok-push_fill-in-Fill-clause-inside c = λ h. c.in_ok-push_fill-in-Fill.ensures.inside (c.args.slots * c.args.size) h
