use Rattle.std.proofs.Common.{take}
use Rattle.arrow_meaning.proofs.NullTypes.{EachField}
use Rattle.arrow_meaning.specs.Storable.{IsStorable}
use Rattle.arrow_meaning.proofs.null_check.+storable.Given as goal

abbrev pub invariant-are_storable-loop-field : goal.invariant-are_storable-loop-field
invariant-are_storable-loop-field l = EachField IsStorable (take l.field-index l.fields)
