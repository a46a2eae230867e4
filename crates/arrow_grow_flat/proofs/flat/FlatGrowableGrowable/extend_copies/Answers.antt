use Rattle.std.proofs.Common.{◌+◌, ◌*◌, ◌≤◌, ◌^◌, subst}
use Rattle.std.proofs.lemmas.Bool.{false≢true}
use Rattle.arrow_layout.specs.Cut.{part}
use Rattle.arrow_grow_flat.specs.Grown.{copied, source}
use Rattle.arrow_grow_flat.proofs.Copies.{none_copied, nothing_grows, too_many}
use Rattle.arrow_grow_flat.proofs.Counts.{at_least}
use Rattle.arrow_grow_flat.proofs.flat.FlatGrowableGrowable.extend_copies.Goals as goal

pub returns-then-len-eq0 : goal.returns-then-len-eq0
returns-then-len-eq0 g c =
    let a = c.args.self.now in
    let s = source a c.args.index in
    nothing_grows a (copied c.args.copies (part c.args.start c.args.len s)) c.sound.ensures.sound c.requires.alive
    (none_copied c.args.start c.args.len c.args.copies s c.then-len-eq0.either)

pub returns-then-not-has_count : goal.returns-then-not-has_count
returns-then-not-has_count g c =
    let a = c.args.self.now in
    let s = c.self.inside in
    let n = c.args.len in
    let k = c.args.copies in
    too_many (g.V.GrowableValues.seen s.values) s.validity s.failed a c.self.view_is c.args.start n k (source a c.args.index) c.sound.ensures.form c.requires.reached
    (subst (λ m. 2 ^ 64 ≤ m + n * k) (c.len.ensures c.requires.alive) (at_least (c.len.result + n * k) (λ h. false≢true (c.if-not-has_count.ensures.1 h))))
