-- A schema as data.
use Rattle.arrow_types.specs.TypeData.{FieldList}
use Rattle.arrow_types.specs.Seen.{seen_fields}
use Rattle.arrow_types.specs.declared.schema.ArrowSchema.{ArrowSchema}

abbrev pub seen_schema : ArrowSchema → FieldList
seen_schema s = seen_fields s.fields
