use Rattle.std.proofs.Common.{◌++◌, ap, subst}
use Rattle.arrow_layout.specs.Cut.{part}
use Rattle.arrow_grow_flat.specs.Grown.{HasMore, HasFailed, copied, source}
use Rattle.arrow_grow_flat.proofs.Growths.{keeps_again, more_again}
use Rattle.arrow_grow_flat.proofs.Copies.{copied_more, copies_fail, fails_as, within_again, source_again}
use Rattle.arrow_grow_flat.proofs.flat.FlatGrowable.extend_each.Goals as goal

pub extend_slots-requires : goal.extend_slots-requires
extend_slots-requires g c =
    within_again c.args.self.now c.loop-copy.self c.args.index c.args.start c.args.len c.loop-copy.invariant.keeps c.loop-copy.invariant.more.alive c.requires

pub loop-copy-preserved : goal.loop-copy-preserved
loop-copy-preserved g c =
    let a = c.args.self.now in
    let b = c.loop-copy.self in
    let d = c.extend_slots.new.self in
    let i = c.loop-copy.invariant in
    let xs = part c.args.start c.args.len (source a c.args.index) in
    let same = ap (part c.args.start c.args.len) (source_again a b c.args.index i.keeps) in
    let more = subst (λ ys. HasMore b ys d) same c.in_ok-extend_slots.ensures.outcome in
    record {
      keeps = keeps_again a b d i.keeps c.extend_slots.ensures.keeps;
      more = subst (λ ys. HasMore a ys d) (copied_more c.loop-copy._copy xs) (more_again a b d (copied c.loop-copy._copy xs) xs i.keeps i.more more);
    }

pub returns-in_err-extend_slots : goal.returns-in_err-extend_slots
returns-in_err-extend_slots g c =
    let a = c.args.self.now in
    let b = c.loop-copy.self in
    let d = c.extend_slots.new.self in
    let i = c.loop-copy.invariant in
    let n = c.args.copies in
    let e = c.in_err-extend_slots.field-0.0 in
    let xs = part c.args.start c.args.len (source a c.args.index) in
    let same = ap (part c.args.start c.args.len) (source_again a b c.args.index i.keeps) in
    let failed = subst (λ ys. HasFailed b.dtype (b.slots ++ ys) e d) same c.in_err-extend_slots.ensures.outcome in
    fails_as a d (copied n xs) e c.from_residual.result c.from_residual.ensures.1
    (copies_fail a b d xs c.loop-copy._copy n e c.sound.ensures.form i.keeps i.more c.loop-copy-test.true c.in_err-extend_slots.ensures.keeps failed)
