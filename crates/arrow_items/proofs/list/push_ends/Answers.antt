use Rattle.std.proofs.Common.{sym, ap, ◌∙◌, ◌++◌, ◌+◌, ◌-◌, pos, map, take, drop, sum, subst, arith}
use Rattle.arrow_types.specs.Select.{nat_of}
use Rattle.arrow_buffers.specs.Offsets.{IsGrowthRefusal, first_of, end_of}
use Rattle.arrow_layout.specs.Canon.{sums_from}
use Rattle.arrow_canon.specs.Runs.{places_of, IsWithin}
use Rattle.arrow_items.specs.Items.{item_count}
use Rattle.arrow_items.proofs.ListItems.{moved_lists, moved_count, sums_fill, counts_fill}
use Rattle.arrow_items.proofs.list.push_ends.Goals as goal

pub returns-in-Ok-clause-ok : goal.returns-in-Ok-clause-ok
returns-in-Ok-clause-ok g c =
    let number = g.O.Offset.number in
    let os = map nat_of (map number c.args.offsets.now) in
    let end = end_of (map number c.args.ends.now) in
    let w = subst (IsWithin _) c.in-Slots.is c.requires.within in
    c.in-Ok.ensures.ok
    ∙ ap (λ ys. map number c.args.ends.now ++ ys)
    (moved_lists number g.O.Offset.limit c.args.offsets.now c.requires.sound c.in-Slots.start c.in-Slots.length w end
    ∙ ap (λ r. map pos (sums_from end (map (item_count os) (places_of r)))) (sym c.in-Slots.is))

pub returns-in-Ok-clause-fits : goal.returns-in-Ok-clause-fits
returns-in-Ok-clause-fits g c =
    let os = map nat_of (map g.O.Offset.number c.args.offsets.now) in
    let w = subst (IsWithin _) c.in-Slots.is c.requires.within in
    let count = moved_count g.O.Offset.number g.O.Offset.limit c.args.offsets.now c.requires.sound c.in-Slots.start c.in-Slots.length w in
    let same = ap (λ r. sum (map (item_count os) (places_of r))) c.in-Slots.is in
    omega (arith, count, same, c.in-Ok.ensures.fits)

pub returns-in-Err-Overflow-clause-overflow : goal.returns-in-Err-Overflow-clause-overflow
returns-in-Err-Overflow-clause-overflow g c = λ _.
    let number = g.O.Offset.number in
    let os = map nat_of (map number c.args.offsets.now) in
    let end = end_of (map number c.args.ends.now) in
    let slots = map number (take (c.in-Slots.length + 1) (drop c.in-Slots.start c.args.offsets.now)) in
    let w = subst (IsWithin _) c.in-Slots.is c.requires.within in
    let count = moved_count number g.O.Offset.limit c.args.offsets.now c.requires.sound c.in-Slots.start c.in-Slots.length w in
    let same = ap (λ r. sum (map (item_count os) (places_of r))) c.in-Slots.is in
    let refused = subst (λ e. IsGrowthRefusal e g.O.Offset.limit (end + (end_of slots - first_of slots))) c.in-Err-Overflow.field-0-is c.in-Err-Overflow.ensures.refused in
    omega (arith, count, same, refused)

pub returns-in_ok-extend_constant-in-Fill-clause-ok : goal.returns-in_ok-extend_constant-in-Fill-clause-ok
returns-in_ok-extend_constant-in-Fill-clause-ok g c =
    let os = map nat_of (map g.O.Offset.number c.args.offsets.now) in
    let end = end_of (map g.O.Offset.number c.args.ends.now) in
    c.in_ok-extend_constant-in-Fill.ensures.ok
    ∙ ap (λ ys. map g.O.Offset.number c.args.ends.now ++ ys)
    (sums_fill os end c.in-Fill.count ∙ ap (λ r. map pos (sums_from end (map (item_count os) (places_of r)))) (sym c.in-Fill.is))

pub returns-in_ok-extend_constant-in-Fill-clause-fits : goal.returns-in_ok-extend_constant-in-Fill-clause-fits
returns-in_ok-extend_constant-in-Fill-clause-fits g c =
    let os = map nat_of (map g.O.Offset.number c.args.offsets.now) in
    let same = ap (λ r. sum (map (item_count os) (places_of r))) c.in-Fill.is in
    omega (arith, same, counts_fill os c.in-Fill.count, c.requires.room)
