use Rattle.arrow_types.proofs.Told.{schemas_told}
use Rattle.arrow_types.proofs.schema.ArrowSchemaPartialEq.eq.Goals as goal

pub returns : goal.returns
returns c = schemas_told c.args.self.now c.args.other.now c.is_same_schema.result c.is_same_schema.ensures
