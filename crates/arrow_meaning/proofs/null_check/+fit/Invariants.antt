use Rattle.std.proofs.Common.{take}
use Rattle.arrow_layout.specs.NullsFit.{NullsFit}
use Rattle.arrow_meaning.proofs.NullTypes.{EachField}
use Rattle.arrow_meaning.proofs.null_check.+fit.Given as goal

abbrev pub invariant-all_nulls_fit-loop-field : goal.invariant-all_nulls_fit-loop-field
invariant-all_nulls_fit-loop-field l = EachField (λ t. NullsFit t l.length) (take l.field-index l.fields)
