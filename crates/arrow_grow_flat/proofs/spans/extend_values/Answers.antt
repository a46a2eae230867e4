use Rattle.std.proofs.Common.{◌+◌, ◌-◌, ◌≤◌, ◌++◌, map, take, drop, ap, ◌∙◌, subst}
use Rattle.arrow_buffers.specs.Offsets.{IsGrowthRefusal, end_of, first_of, moved}
use Rattle.arrow_grow_flat.proofs.JoinedSpans.{run_appended, run_refused}
use Rattle.arrow_grow_flat.proofs.spans.extend_values.Goals as goal

pub returns-in-Err-Overflow-clause-refused : goal.returns-in-Err-Overflow-clause-refused
returns-in-Err-Overflow-clause-refused g c =
    let number = g.O.Offset.number in
    let a = c.args.source.now in
    let o = c.args.start in
    let n = c.args.len in
    let old = end_of (map number c.args.offsets.now) in
    let refused = subst (λ e. IsGrowthRefusal e g.O.Offset.limit (old + (end_of (map number (take (n + 1) (drop o c.offsets.result.now))) - first_of (map number (take (n + 1) (drop o c.offsets.result.now)))))) c.in-Err-Overflow.field-0-is c.in-Err-Overflow.ensures.refused in
    subst (λ k. g.O.Offset.limit ≤ k)
    (ap (λ os. old + (end_of (map number (take (n + 1) (drop o os))) - first_of (map number (take (n + 1) (drop o os))))) c.offsets.ensures
    ∙ run_refused number a c.invariant.ensures.sound o n c.requires.reached c.args.offsets.now c.args.offsets.now c.args.values.now.items c.requires.joined) refused

pub returns-clause-ok : goal.returns-clause-ok
returns-clause-ok g c =
    let number = g.O.Offset.number in
    let a = c.args.source.now in
    let o = c.args.start in
    let n = c.args.len in
    let old = map number c.args.offsets.now in
    run_appended number a c.invariant.ensures.sound o n c.requires.reached c.args.offsets.now c.try_extend_from_slice.new.self c.args.values.now.items c.requires.joined c.extend_from_slice.new.self.items
    (c.in-Ok.ensures.ok ∙ ap (λ os. old ++ moved (first_of (map number (take (n + 1) (drop o os)))) (end_of old) (drop 1 (map number (take (n + 1) (drop o os))))) c.offsets.ensures)
    (c.in_ok-extend_from_slice.ensures.items ∙ ap (λ xs. c.args.values.now.items ++ xs) c.bytes_of_slots.ensures)
