use Rattle.std.proofs.Common.{◌≡◌, map}
use Rattle.std.specs.List.{range_with_len}
use Rattle.std.specs.Option.{option_copied}
use Rattle.arrow_types.specs.Select.{select}
use Rattle.arrow_canonical.proofs.field.field_table.Given as goal

abbrev pub invariant-loop-number : goal.invariant-loop-number
invariant-loop-number l = l.table.items ≡ map (select (option_copied l.ids)) (range_with_len 0 l.number)
