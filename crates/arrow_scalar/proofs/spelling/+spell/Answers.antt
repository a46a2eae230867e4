use Rattle.std.proofs.Common.{◌+◌, ◌≤◌, [], ◌∷◌, ◌++◌, OnOk, ap, arith, flat_map, subst, sym, take, ◌∙◌}
use Rattle.std.proofs.lemmas.List.{take_all}
use Rattle.std.proofs.lemmas.Result.{on_ok_weaker}
use Rattle.arrow_layout.specs.Layouts.{length_of}
use Rattle.arrow_layout.specs.Spelling.{length_bytes, slot_bytes}
use Rattle.arrow_meaning.specs.Nodes.{layout_of}
use Rattle.arrow_types.specs.Seen.{seen}
use Rattle.arrow_scalar.proofs.Slots.{count_at, have_at, items_bytes, null_zeros, row_bytes, row_next, slot_null, spellings_next, spellings_none}
use Rattle.arrow_scalar.specs.SlotParts.{IsMadeOf}
use Rattle.arrow_scalar.specs.Spellings.{slot_at, spellings}
use Rattle.arrow_scalar.proofs.spelling.+spell.Goals as goal

pub spell_each-loop-i-init : goal.spell_each-loop-i-init
spell_each-loop-i-init g t c =
    let x = c.args.out.now in
    subst (λ bs. g.W.SpellingOut.Appended x bs x) (sym (spellings_none c.args.array.now c.args.start)) (g.W.SpellingOut.nothing x)

pub spell_each-loop-i-preserved : goal.spell_each-loop-i-preserved
spell_each-loop-i-preserved g t c =
    let x = c.args.out.now in
    let z = c.spell_slot.new.out in
    let l = c.args.array.now in
    let s = c.args.start in
    let i = c.loop-i.i in
    subst (λ bs. g.W.SpellingOut.Appended x bs z) (sym (spellings_next l s i))
    (g.W.SpellingOut.joined x c.loop-i.out z (spellings l s i) (slot_bytes (slot_at l (s + i))) c.loop-i.invariant c.in_ok-spell_slot.ensures)

pub spell_items-returns-in-Null : goal.spell_items-returns-in-Null
spell_items-returns-in-Null g t c =
    let A = g.W.SpellingOut.Appended in
    let joined = g.W.SpellingOut.joined in
    let r = c.push_zeros.result in
    let x = c.args.out.now in
    let y = c.push_byte.new.self in
    let z = c.push_length.new.self in
    let u = c.push_zeros.new.self in
    let l = c.args.child.now in
    let s = c.args.start in
    let n = c.args.length in
    let is = sym c.node.ensures.same ∙ ap layout_of c.in-Null.is in
    let zeros = null_zeros l (seen c.in-Null.dtype) c.in-Null.length s n is (subst (λ k. s + n ≤ length_of k) is c.requires) in
    subst (λ bs. OnOk r (A x bs u)) (sym (items_bytes l s n c.node.ensures.sound c.requires))
    (on_ok_weaker r
    (λ h. joined x y u (4 ∷ []) (length_bytes n ++ spellings l s n) c.in_ok-push_byte.ensures (joined y z u (length_bytes n) (spellings l s n) c.in_ok-push_length.ensures (subst (λ bs. A z bs u) (sym zeros) h)))
    c.push_zeros.ensures)

pub spell_items-returns : goal.spell_items-returns
spell_items-returns g t c =
    let A = g.W.SpellingOut.Appended in
    let joined = g.W.SpellingOut.joined in
    let r = c.spell_each.result in
    let x = c.args.out.now in
    let y = c.push_byte.new.self in
    let z = c.push_length.new.self in
    let u = c.spell_each.new.out in
    let l = c.args.child.now in
    let s = c.args.start in
    let n = c.args.length in
    subst (λ bs. OnOk r (A x bs u)) (sym (items_bytes l s n c.node.ensures.sound c.requires))
    (on_ok_weaker r
    (λ h. joined x y u (4 ∷ []) (length_bytes n ++ spellings l s n) c.in_ok-push_byte.ensures (joined y z u (length_bytes n) (spellings l s n) c.in_ok-push_length.ensures h))
    c.spell_each.ensures)

pub spell_row-spell_slot-requires : goal.spell_row-spell_slot-requires
spell_row-spell_slot-requires g t c =
    let ls = c.args.children.now in
    let k = c.loop-child.child-index in
    let l = c.child-item.result in
    λ κs h. (omega (arith, c.decreases, count_at ls k l c.loop-child-test.true c.child-item.is), (h, have_at ls c.args.i k l c.requires c.loop-child-test.true c.child-item.is))

pub spell_row-loop-child-preserved : goal.spell_row-loop-child-preserved
spell_row-loop-child-preserved g t c =
    let x = c.push_byte.new.self in
    let z = c.spell_slot.new.out in
    let ls = c.args.children.now in
    let k = c.loop-child.child-index in
    let l = c.child-item.result in
    let i = c.args.i in
    subst (λ bs. g.W.SpellingOut.Appended x bs z) (sym (row_next ls i k l c.loop-child-test.true c.child-item.is))
    (g.W.SpellingOut.joined x c.loop-child.out z (flat_map (λ a. slot_bytes (slot_at a i)) (take k ls)) (slot_bytes (slot_at l i)) c.loop-child.invariant c.in_ok-spell_slot.ensures)

pub spell_row-returns : goal.spell_row-returns
spell_row-returns g t c =
    let A = g.W.SpellingOut.Appended in
    let x = c.args.out.now in
    let y = c.push_byte.new.self in
    let z = c.loop-child.out in
    let ls = c.args.children.now in
    let i = c.args.i in
    let whole = take_all c.loop-child.child-index ls (omega (arith, c.loop-child-test.false)) in
    subst (λ bs. A x (5 ∷ bs) z) (sym (row_bytes ls i))
    (g.W.SpellingOut.joined x y z (5 ∷ []) (flat_map (λ a. slot_bytes (slot_at a i)) ls) c.in_ok-push_byte.ensures (subst (λ rs. A y (flat_map (λ a. slot_bytes (slot_at a i)) rs) z) whole c.loop-child.invariant))

pub spell_slot-returns-else-is_valid : goal.spell_slot-returns-else-is_valid
spell_slot-returns-else-is_valid g t c =
    let l = c.args.array.now in
    let i = c.args.i in
    let none = slot_null l i c.invariant.ensures c.requires (sym c.is_valid.ensures ∙ c.if-is_valid.false) in
    subst (λ s. OnOk c.push_byte.result (g.W.SpellingOut.Appended c.args.out.now (slot_bytes s) c.push_byte.new.self)) (sym none) c.push_byte.ensures

pub spell_valid-returns-in-Items : goal.spell_valid-returns-in-Items
spell_valid-returns-in-Items g t c =
    let made = subst (λ p. IsMadeOf p c.args.array.now c.args.i) c.in-Items.is c.in_ok-parts.ensures in
    subst (λ s. OnOk c.spell_items.result (g.W.SpellingOut.Appended c.args.out.now (slot_bytes s) c.spell_items.new.out)) (sym made.2) c.spell_items.ensures

pub spell_valid-returns-in-Row : goal.spell_valid-returns-in-Row
spell_valid-returns-in-Row g t c =
    let made = subst (λ p. IsMadeOf p c.args.array.now c.args.i) c.in-Row.is c.in_ok-parts.ensures in
    subst (λ s. OnOk c.spell_row.result (g.W.SpellingOut.Appended c.args.out.now (slot_bytes s) c.spell_row.new.out)) (sym made.2) c.spell_row.ensures

pub spell_chosen-returns : goal.spell_chosen-returns
spell_chosen-returns g t c =
    let joined = g.W.SpellingOut.joined in
    let x = c.args.out.now in
    let y = c.push_byte.new.self in
    let z = c.push_byte-2.new.self in
    let u = c.spell_slot.new.out in
    let n = c.args.number in
    let bs = slot_bytes (slot_at c.args.child.now c.args.position) in
    on_ok_weaker c.spell_slot.result (λ h. joined x y u (6 ∷ []) (n ∷ bs) c.in_ok-push_byte.ensures (joined y z u (n ∷ []) bs c.in_ok-push_byte-2.ensures h)) c.spell_slot.ensures
