use Rattle.std.proofs.Common.{take}
use Rattle.arrow_types.specs.Carried.{IsCarried}
use Rattle.arrow_meaning.proofs.NullTypes.{EachField}
use Rattle.arrow_meaning.proofs.null_check.+carried.Given as goal

abbrev pub invariant-are_carried-loop-field : goal.invariant-are_carried-loop-field
invariant-are_carried-loop-field l = EachField IsCarried (take l.field-index l.fields)
