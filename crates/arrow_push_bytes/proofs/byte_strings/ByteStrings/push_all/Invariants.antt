use Rattle.std.proofs.Common.{◌≡◌, ◌+◌, ◌<◌, ◌++◌, take}
use Rattle.arrow_push_bytes.specs.Strings.{total_of}
use Rattle.arrow_push_bytes.proofs.byte_strings.ByteStrings.push_all.Given as goal

abbrev pub invariant-loop-i : goal.invariant-loop-i
invariant-loop-i g l = record {
  taken : l.self ≡ l.fn.self ++ take l.i l.other;
  fits : total_of l.fn.self + total_of (take l.i l.other) < g.O.Offset.limit;
}
