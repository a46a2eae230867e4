use Rattle.std.proofs.Common.{ap}
use Rattle.serde_json.specs.View.{view}
use Rattle.type_json.specs.declared.error.JsonError.TheVariants.{BadValue}
use Rattle.column_read.specs.Parts.{data_layout, data_of}
use Rattle.column_read.proofs.Loops.{reads_same}
use Rattle.column_read.proofs.flat_array.parts_in.Goals as goal

pub returns-in-FixedSizeBinary-clause-read : goal.returns-in-FixedSizeBinary-clause-read
returns-in-FixedSizeBinary-clause-read c = λ t.
    reads_same BadValue (data_layout t) c.sized_in.result (ap (λ layout. data_of t layout c.args.size (view c.args.value.now)) c.in-FixedSizeBinary.is) (c.sized_in.ensures.read t)
