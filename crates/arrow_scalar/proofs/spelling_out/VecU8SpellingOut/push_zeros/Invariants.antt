use Rattle.std.proofs.Common.{◌≡◌, ◌++◌, replicate}
use Rattle.arrow_scalar.proofs.spelling_out.VecU8SpellingOut.push_zeros.Given as goal

abbrev pub invariant-loop-zero : goal.invariant-loop-zero
invariant-loop-zero l = l.self.items ≡ l.initial.self.items ++ replicate l._zero 0
