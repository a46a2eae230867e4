use Rattle.std.proofs.Common.{arith, ◌≡◌, ◌≤◌, ℕ, ◌+◌, ◌-◌, ◌++◌, List, length, take, drop, sym, ap, ◌∙◌, subst}
use Rattle.std.proofs.lemmas.List.{take_all, length-drop}
use Rattle.std.proofs.Math.Seq.{take-add}
use Rattle.std.proofs.KnownBytes.{Appends-trans}
use Rattle.std.specs.Io.KnownBytes.{Appends}
use Rattle.jobs.proofs.outside.write_all.Goals as goal

-- the rest, as the code names it
rest_of : (xs : List ℕ) (i : ℕ) → take (length xs - i) (drop i xs) ≡ drop i xs
rest_of xs i = take_all _ _ (omega (arith, length-drop i xs))

part_fits : (xs : List ℕ) (i n : ℕ) → i ≤ length xs → n ≤ length (take (length xs - i) (drop i xs)) → i + n ≤ length xs
part_fits xs i n within n_fits = omega (arith, length-drop i xs, ap length (rest_of xs i))

two_parts : (xs : List ℕ) (i n : ℕ) → take i xs ++ take n (take (length xs - i) (drop i xs)) ≡ take (i + n) xs
two_parts xs i n = ap (λ l. take i xs ++ take n l) (rest_of xs i) ∙ sym (take-add i n xs)

-- src/outside.rt:90:5
pub loop-done-preserved : goal.loop-done-preserved
loop-done-preserved g c =
    let h = c.in_ok-count.ensures in
    let old = c.loop-done.invariant in
    record {
      none = λ e. absurd (omega (arith, c.loop-done-test.true, ap length e));
      within = part_fits c.args.bytes.now c.loop-done.done c.in_ok-count.count old.within h.some.0;
      later = omega (arith, h.cause.later, old.later);
      held = subst (Appends (g.K.Sink.held c.args.sink.now) (g.K.Sink.held c.write.new.self)) (two_parts c.args.bytes.now c.loop-done.done c.in_ok-count.count)
          (Appends-trans _ _ _ _ _ old.held h.bytes);
    }
