use Rattle.std.proofs.Common.{take}
use Rattle.std.specs.List.{AllByRecursion}
use Rattle.arrow_types.specs.Carried.{IsBelow}
use Rattle.arrow_meaning.proofs.null_check.are_legal.Given as goal

abbrev pub invariant-loop-id : goal.invariant-loop-id
invariant-loop-id l = AllByRecursion (IsBelow 128) (take l.id-index l.ids)
