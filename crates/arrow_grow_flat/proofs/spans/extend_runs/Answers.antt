use Rattle.std.proofs.Common.{◌≡◌, ◌+◌, ◌-◌, ◌≤◌, List, ℕ, length, map, ap, subst, arith}
use Rattle.std.specs.List.{concat}
use Rattle.arrow_layout.specs.Cut.{part}
use Rattle.arrow_grow_flat.specs.Spans.{AppendsValues, slot_values}
use Rattle.arrow_grow_flat.proofs.JoinedSpans.{appended_again, appended_length, part_bytes, part_join, refused_as, refused_later, starts_again}
use Rattle.arrow_grow_flat.proofs.spans.extend_runs.Goals as goal

pub returns-in_err-from-clause-refused : goal.returns-in_err-from-clause-refused
returns-in_err-from-clause-refused g c =
    let number = g.O.Offset.number in
    let slots = slot_values number c.args.source.now in
    let i = c.args.start in
    let j = c.loop-from.from in
    let k = i + c.args.len in
    let e = c.in_err-from.field-0.0 in
    let m = length c.args.values.now.items in
    let inv = c.loop-from.invariant in
    let run : k - i ≡ c.args.len = omega arith in
    let so_far = appended_length number c.args.offsets.now c.loop-from.offsets c.args.values.now.items c.loop-from.values.items (part i (j - i) slots) c.requires.joined inv.appends in
    let most : length c.loop-from.values.items + length (concat (part j (k - j) slots)) ≤ m + length (concat (part i c.args.len slots)) =
    omega (arith, so_far, part_bytes i j k slots inv.begun inv.within, ap (λ n. length (concat (part i n slots))) run) in
    refused_as c.from_residual.result e g.O.Offset.limit (m + length (concat (part i c.args.len slots))) c.from_residual.ensures.1
    (refused_later g.O.Offset.limit (length c.loop-from.values.items + length (concat (part j (k - j) slots))) (m + length (concat (part i c.args.len slots))) e most c.in_err-from.ensures.refused)

pub loop-from-preserved : goal.loop-from-preserved
loop-from-preserved g c =
    let number = g.O.Offset.number in
    let slots = slot_values number c.args.source.now in
    let i = c.args.start in
    let j = c.loop-from.from in
    let k = c.in_ok-from.from in
    let inv = c.loop-from.invariant in
    let run = c.in_ok-from.ensures.run in
    let os = c.args.offsets.now in
    let bs = c.args.values.now.items in
    record {
      begun = omega (arith, inv.begun, run.0);
      within = run.1;
      appends =
          subst (λ (ys : List (List ℕ)). AppendsValues number os bs ys c.extend_run.new.offsets c.extend_run.new.values.items) (part_join i j k slots inv.begun (omega (arith, run.0)))
          (appended_again number os c.loop-from.offsets c.extend_run.new.offsets bs c.loop-from.values.items c.extend_run.new.values.items (part i (j - i) slots) (part j (k - j) slots) inv.appends c.in_ok-from.ensures.ok);
      offsets_stay = starts_again (map number os) (map number c.loop-from.offsets) (map number c.extend_run.new.offsets) inv.offsets_stay c.extend_run.ensures.offsets_stay;
      values_stay = starts_again bs c.loop-from.values.items c.extend_run.new.values.items inv.values_stay c.extend_run.ensures.values_stay;
    }
