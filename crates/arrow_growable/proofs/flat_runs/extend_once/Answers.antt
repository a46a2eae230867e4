use Rattle.std.proofs.Common.{◌≡◌, ◌+◌, ◌∷◌, ◌++◌, [], take, drop, get_or, sym, ap, ◌∙◌, subst, arith}
use Rattle.arrow_canon.specs.declared.run.Run.TheVariants.{Slots}
use Rattle.arrow_grow_flat.specs.Grown.{Grows, HasFailed, HasMore}
use Rattle.arrow_grow_flat.proofs.Copies.{fails_as}
use Rattle.arrow_grow_flat.proofs.Growths.{keeps_again}
use Rattle.arrow_growable.specs.NestedGrown.{MayTake, taken_of}
use Rattle.arrow_growable.proofs.FlatRuns.{fails_later, grows_more, may_one, runs_done, taken_again, taken_rest, taken_step}
use Rattle.arrow_growable.proofs.flat_runs.extend_once.Goals as goal

pub extend_run-requires : goal.extend_run-requires
extend_run-requires g c =
    let a = g.G.Growable.seen c.args.growable.now in
    let b = g.G.Growable.seen c.loop-run.growable in
    may_one a b c.args.index c.args.runs.now c.loop-run.run-index (Slots 0 0) c.requires.taken c.loop-run.invariant.keeps c.loop-run.invariant.more.alive c.loop-run-test.true

pub loop-run-preserved : goal.loop-run-preserved
loop-run-preserved g c =
    let a = g.G.Growable.seen c.args.growable.now in
    let b = g.G.Growable.seen c.loop-run.growable in
    let d = g.G.Growable.seen c.extend_run.new.growable in
    let i = c.loop-run.invariant in
    let rs = c.args.runs.now in
    let j = c.loop-run.run-index in
    let one = get_or rs j (Slots 0 0) ∷ [] in
    let more = subst (λ ys. HasMore b ys d) (taken_again a b c.args.index one i.keeps) c.in_ok-extend_run.ensures.outcome in
    record {
      keeps = keeps_again a b d i.keeps c.extend_run.ensures.keeps;
      more = subst (λ ys. HasMore a ys d) (sym (taken_step a c.args.index rs j (Slots 0 0) c.loop-run-test.true))
          (grows_more a b d (taken_of a c.args.index (take j rs)) (taken_of a c.args.index one) i.keeps i.more more);
    }

pub returns-in_err-extend_run : goal.returns-in_err-extend_run
returns-in_err-extend_run g c =
    let a = g.G.Growable.seen c.args.growable.now in
    let b = g.G.Growable.seen c.loop-run.growable in
    let d = g.G.Growable.seen c.extend_run.new.growable in
    let i = c.loop-run.invariant in
    let rs = c.args.runs.now in
    let j = c.loop-run.run-index in
    let e = c.in_err-extend_run.field-0.0 in
    let one = get_or rs j (Slots 0 0) ∷ [] in
    let failed = subst (λ ys. HasFailed b.dtype (b.slots ++ ys) e d) (taken_again a b c.args.index one i.keeps) c.in_err-extend_run.ensures.outcome in
    fails_as a d (taken_of a c.args.index rs) e c.from_residual.result c.from_residual.ensures.1
    (record {
      keeps = keeps_again a b d i.keeps c.in_err-extend_run.ensures.keeps;
      outcome = fails_later a b d (taken_of a c.args.index (take j rs)) (taken_of a c.args.index one) (taken_of a c.args.index (drop (j + 1) rs)) (taken_of a c.args.index rs) e
          c.requires.flat i.keeps i.more failed (taken_rest a c.args.index rs j (Slots 0 0) c.loop-run-test.true);
    })

pub returns : goal.returns
returns g c =
    let a = g.G.Growable.seen c.args.growable.now in
    let b = g.G.Growable.seen c.loop-run.growable in
    let i = c.loop-run.invariant in
    record { keeps = i.keeps; outcome = subst (λ ys. HasMore a ys b) (runs_done a c.args.index c.args.runs.now c.loop-run.run-index c.loop-run-test.false) i.more }
