use Rattle.arrow_types.specs.Seen.{seen}
use Rattle.arrow_meaning.proofs.NullArrays.{refused_empty}
use Rattle.arrow_meaning.proofs.null_array.new_empty_array.Goals as goal

pub returns-clause-refused : goal.returns-clause-refused
returns-clause-refused c = refused_empty c.new_null_array.result (seen c.args.dtype) c.new_null_array.ensures.refused
