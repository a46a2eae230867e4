use Rattle.arrow_nested.proofs.Structs.{other_types}
use Rattle.arrow_nested.proofs.struct_.+declared_fields.Goals as goal

pub returns-in_default : goal.returns-in_default
returns-in_default t c = other_types c.args.dtype.now c.in_default.not-Struct c.in_default.not-Extension
