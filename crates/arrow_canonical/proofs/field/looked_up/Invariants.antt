use Rattle.std.proofs.Common.{◌≡◌, ℕ, map, take}
use Rattle.std.specs.List.{range_with_len}
use Rattle.arrow_types.specs.Select.{nat_of}
use Rattle.arrow_canonical.proofs.field.looked_up.Given as goal

abbrev pub invariant-loop-number : goal.invariant-loop-number
invariant-loop-number l = (select_field : ℕ → ℕ) → l.table ≡ map select_field (range_with_len 0 128) → l.fields.items ≡ map select_field (map nat_of (take l.number-index l.numbers))
