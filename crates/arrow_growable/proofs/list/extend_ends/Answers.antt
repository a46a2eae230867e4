use Rattle.std.proofs.Common.{◌≡◌, ℕ, ◌++◌, ◌+◌, ◌≤◌, ◌<◌, List, map, sum, ap, sym, ◌∙◌, subst, arith, append_assoc}
use Rattle.std.proofs.lemmas.Result.{err_from_is_err_and}
use Rattle.arrow_layout.specs.Canon.{offsets}
use Rattle.arrow_growable.specs.Parts.{repeated}
use Rattle.arrow_growable.proofs.Ends.{copies_past, repeated_more, sum_low}
use Rattle.arrow_growable.proofs.list.extend_ends.Goals as goal

pub loop-copy-preserved : goal.loop-copy-preserved
loop-copy-preserved g c = λ ns ms old piece.
    let i = c.loop-copy._copy in
    c.in_ok-push_ends.ensures.ends (ns ++ repeated i ms) ms (c.loop-copy.invariant ns ms old piece) piece
    ∙ ap offsets (append_assoc ns (repeated i ms) ms ∙ ap (λ ys. ns ++ ys) (repeated_more i ms))

pub returns-in_err-push_ends-clause-overflow : goal.returns-in_err-push_ends-clause-overflow
returns-in_err-push_ends-clause-overflow g c = λ e ns ms old piece.
    let i = c.loop-copy._copy in
    let p = err_from_is_err_and c.from_residual.result c.from_residual.ensures.1 in
    let past = c.in_err-push_ends.ensures.overflow (cc (p.1, p.2, e)) (ns ++ repeated i ms) ms (c.loop-copy.invariant ns ms old piece) piece in
    copies_past g.O.Offset.limit ns ms i c.args.copies c.loop-copy-test.true past

pub returns-clause-fits : goal.returns-clause-fits
returns-clause-fits g c = λ ns ms old piece.
    let done : c.loop-copy._copy ≡ c.args.copies = omega (arith, c.loop-copy-test.false, c.loop-copy.auto._copy-end) in
    let all = c.loop-copy.invariant ns ms old piece ∙ ap (λ i. offsets (ns ++ repeated i ms)) done in
    sum_low g.O.Offset.limit (map g.O.Offset.number c.loop-copy.ends) (ns ++ repeated c.args.copies ms) all c.len_proxy-slots-2.ensures.sound
