use Rattle.std.specs.Prelude.{Result, Ok, Err, IfOk}
use Rattle.serde_json.specs.Data.{Data}
use Rattle.serde_json.specs.View.{view}
use Rattle.arrow_types.specs.Seen.{seen}
use Rattle.arrow_types.specs.declared.datatype.ArrowDataType.{ArrowDataType}
use Rattle.type_json.specs.Reads.{Reads}
use Rattle.type_json.specs.TypeJson.{type_in, IsSpelled, IsType}
use Rattle.type_json.specs.declared.error.JsonError.{JsonError}
use Rattle.type_json.specs.declared.error.JsonError.TheVariants.{BadValue}
use Rattle.type_json.proofs.Strings.{HasStrings, view_strings}
use Rattle.type_json.proofs.TypeRead.{type_read}
use Rattle.type_json.proofs.reader.type_from_json.Goals as goal

spelled : (d : Data) → HasStrings d → (r : Result ArrowDataType JsonError) → Reads BadValue seen (type_in d) r → IfOk r (λ t. IsSpelled (seen t))
spelled d s (Ok t) h = (type_read d (seen t) s h).0
spelled d s (Err e) h = tt

typed : (d : Data) → HasStrings d → (r : Result ArrowDataType JsonError) → Reads BadValue seen (type_in d) r → IfOk r (λ t. IsType (seen t))
typed d s (Ok t) h = (type_read d (seen t) s h).1
typed d s (Err e) h = tt

pub returns-clause-spelled : goal.returns-clause-spelled
returns-clause-spelled c = spelled (view c.args.value.now) (view_strings c.args.value.now) c.type_of.result c.type_of.ensures

pub returns-clause-is_type : goal.returns-clause-is_type
returns-clause-is_type c = typed (view c.args.value.now) (view_strings c.args.value.now) c.type_of.result c.type_of.ensures
