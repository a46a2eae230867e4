use Rattle.std.proofs.Common.{◌≡◌, ℕ, ◌++◌, ◌+◌, ◌-◌, ◌≤◌, List, map, take, drop, sum, ap, ap₂, sym, ◌∙◌, subst, arith}
use Rattle.arrow_buffers.specs.Offsets.{IsGrowthRefusal, end_of, first_of, moved}
use Rattle.arrow_layout.specs.Canon.{offsets}
use Rattle.arrow_items.proofs.ListItems.{end_of-offsets, sum-append}
use Rattle.arrow_growable.proofs.Ends.{ends_appended, whole_window}
use Rattle.arrow_growable.proofs.list.push_ends.Goals as goal

pub returns-in-Ok-clause-ends : goal.returns-in-Ok-clause-ends
returns-in-Ok-clause-ends g c = λ ns ms old piece.
    let number = g.O.Offset.number in
    let whole = ap (map number) (whole_window c.args.offsets.now c.args.length c.requires.all c.requires.some) ∙ piece in
    c.in-Ok.ensures.ok
    ∙ ap₂ (λ os w. os ++ moved (first_of w) (end_of os) (drop 1 w)) old whole
    ∙ ends_appended ns ms

pub returns-in-Err-Overflow-clause-overflow : goal.returns-in-Err-Overflow-clause-overflow
returns-in-Err-Overflow-clause-overflow g c = λ _ ns ms old piece.
    let number = g.O.Offset.number in
    let slots = map number (take (c.args.length + 1) (drop 0 c.args.offsets.now)) in
    let whole : slots ≡ offsets ms = ap (map number) (whole_window c.args.offsets.now c.args.length c.requires.all c.requires.some) ∙ piece in
    let end = end_of (map number c.args.ends.now) in
    let refused = subst (λ e. IsGrowthRefusal e g.O.Offset.limit (end + (end_of slots - first_of slots))) c.in-Err-Overflow.field-0-is c.in-Err-Overflow.ensures.refused in
    let first = ap first_of whole in
    let last = ap end_of whole in
    let before = ap end_of old in
    omega (arith, refused, first, last, before, end_of-offsets ns, end_of-offsets ms, sum-append ns ms)
