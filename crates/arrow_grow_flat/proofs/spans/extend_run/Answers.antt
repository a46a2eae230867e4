use Rattle.std.proofs.Common.{◌+◌, ◌-◌, ◌≤◌, List, ℕ, length, replicate, ap, sym, ◌∙◌, subst, arith}
use Rattle.std.specs.List.{concat}
use Rattle.arrow_layout.specs.Cut.{part}
use Rattle.arrow_bytes.specs.Binaries.{values_of}
use Rattle.arrow_grow_flat.specs.Spans.{AppendsValues, slot_values}
use Rattle.arrow_grow_flat.proofs.JoinedSpans.{part_bytes, refused_as, refused_later, run_emptied, run_kept, slots_counted}
use Rattle.arrow_grow_flat.proofs.spans.extend_run.Goals as goal

pub returns-in_err-extend_values-clause-refused : goal.returns-in_err-extend_values-clause-refused
returns-in_err-extend_values-clause-refused g c =
    let number = g.O.Offset.number in
    let a = c.args.source.now in
    let i = c.args.from in
    let j = c.run_end-to.result in
    let k = c.args.end in
    let e = c.in_err-extend_values.field-0.0 in
    let m = length c.args.values.now.items in
    let bits = c.run_end-to.ensures.equal ∙ ap (replicate (j - i)) (sym c.get_bit.ensures ∙ c.if-get_bit.true) in
    let kept = run_kept number a c.args.mask.now c.requires.masked i (j - i) bits in
    let most : m + length (concat (part i (j - i) (values_of number a))) ≤ m + length (concat (part i (k - i) (slot_values number a))) =
    omega (arith, ap (λ zs. length (concat zs)) kept, part_bytes i j k (slot_values number a) (omega (arith, c.run_end-to.ensures.within.0)) c.run_end-to.ensures.within.1) in
    refused_as c.from_residual.result e g.O.Offset.limit (m + length (concat (part i (k - i) (slot_values number a)))) c.from_residual.ensures.1
    (refused_later g.O.Offset.limit (m + length (concat (part i (j - i) (values_of number a)))) (m + length (concat (part i (k - i) (slot_values number a)))) e most c.in_err-extend_values.ensures.refused)

pub returns-in_ok-extend_values-clause-ok : goal.returns-in_ok-extend_values-clause-ok
returns-in_ok-extend_values-clause-ok g c =
    let number = g.O.Offset.number in
    let i = c.args.from in
    let n = c.run_end-to.result - i in
    let bits = c.run_end-to.ensures.equal ∙ ap (replicate n) (sym c.get_bit.ensures ∙ c.if-get_bit.true) in
    subst (λ (ys : List (List ℕ)). AppendsValues number c.args.offsets.now c.args.values.now.items ys c.extend_values.new.offsets c.extend_values.new.values.items)
    (sym (run_kept number c.args.source.now c.args.mask.now c.requires.masked i n bits)) c.in_ok-extend_values.ensures.ok

pub returns-in_ok-extend_empty-clause-ok : goal.returns-in_ok-extend_empty-clause-ok
returns-in_ok-extend_empty-clause-ok g c =
    let number = g.O.Offset.number in
    let a = c.args.source.now in
    let i = c.args.from in
    let n = c.run_end-to.result - i in
    let bits = c.run_end-to.ensures.equal ∙ ap (replicate n) (sym c.get_bit.ensures ∙ c.if-get_bit.false) in
    let inside : i + n ≤ length (values_of number a) = omega (arith, slots_counted number a, c.run_end-to.ensures.within.0, c.run_end-to.ensures.within.1, c.requires.reached) in
    subst (λ (ys : List (List ℕ)). AppendsValues number c.args.offsets.now c.args.values.now.items ys c.extend_empty.new.offsets c.args.values.now.items)
    (sym (run_emptied number a c.args.mask.now c.requires.masked i n bits inside)) c.in_ok-extend_empty.ensures.ok
