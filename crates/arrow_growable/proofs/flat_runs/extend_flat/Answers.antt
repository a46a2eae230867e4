use Rattle.std.proofs.Common.{◌≡◌, ◌+◌, ◌-◌, ◌++◌, sym, ap, ◌∙◌, subst, arith}
use Rattle.arrow_layout.specs.Forms.{form_of}
use Rattle.arrow_grow_flat.specs.Grown.{Grows, HasFailed, HasMore, copied}
use Rattle.arrow_grow_flat.proofs.Copies.{copied_more, fails_as}
use Rattle.arrow_grow_flat.proofs.Growths.{keeps_again}
use Rattle.arrow_growable.specs.NestedGrown.{IsFlat, MayTake, taken_of}
use Rattle.arrow_growable.proofs.FlatRuns.{copies_rest, fails_later, grows_more, may_again, taken_again}
use Rattle.arrow_growable.proofs.flat_runs.extend_flat.Goals as goal

pub extend_once-requires : goal.extend_once-requires
extend_once-requires g c =
    let a = g.G.Growable.seen c.args.growable.now in
    let b = g.G.Growable.seen c.loop-copy.growable in
    let i = c.loop-copy.invariant in
    record {
      taken = may_again a b c.args.index c.args.runs.now c.requires.taken i.keeps i.more.alive;
      flat = subst (λ t. IsFlat (form_of t)) (sym i.keeps.same_type) c.requires.flat;
    }

pub loop-copy-preserved : goal.loop-copy-preserved
loop-copy-preserved g c =
    let a = g.G.Growable.seen c.args.growable.now in
    let b = g.G.Growable.seen c.loop-copy.growable in
    let d = g.G.Growable.seen c.extend_once.new.growable in
    let i = c.loop-copy.invariant in
    let xs = taken_of a c.args.index c.args.runs.now in
    let more = subst (λ ys. HasMore b ys d) (taken_again a b c.args.index c.args.runs.now i.keeps) c.in_ok-extend_once.ensures.outcome in
    record {
      keeps = keeps_again a b d i.keeps c.extend_once.ensures.keeps;
      more = subst (λ ys. HasMore a ys d) (copied_more c.loop-copy._copy xs) (grows_more a b d (copied c.loop-copy._copy xs) xs i.keeps i.more more);
    }

pub returns-in_err-extend_once : goal.returns-in_err-extend_once
returns-in_err-extend_once g c =
    let a = g.G.Growable.seen c.args.growable.now in
    let b = g.G.Growable.seen c.loop-copy.growable in
    let d = g.G.Growable.seen c.extend_once.new.growable in
    let i = c.loop-copy.invariant in
    let n = c.args.copies in
    let j = c.loop-copy._copy in
    let e = c.in_err-extend_once.field-0.0 in
    let xs = taken_of a c.args.index c.args.runs.now in
    let failed = subst (λ ys. HasFailed b.dtype (b.slots ++ ys) e d) (taken_again a b c.args.index c.args.runs.now i.keeps) c.in_err-extend_once.ensures.outcome in
    fails_as a d (copied n xs) e c.from_residual.result c.from_residual.ensures.1
    (record {
      keeps = keeps_again a b d i.keeps c.in_err-extend_once.ensures.keeps;
      outcome = fails_later a b d (copied j xs) xs (copied (n - (j + 1)) xs) (copied n xs) e c.requires.flat i.keeps i.more failed (copies_rest j n xs c.loop-copy-test.true);
    })
