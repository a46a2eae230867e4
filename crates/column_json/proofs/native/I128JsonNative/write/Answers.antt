use Rattle.std.proofs.Common.{◌≡◌, subst}
use Rattle.std.specs.Prelude.{IfOk}
use Rattle.std.specs.Int.{w128}
use Rattle.std.proofs.lemmas.Int.{to_z-of_z}
use Rattle.serde_json.specs.View.{view}
use Rattle.column_json.proofs.Octets.{written_128}
use Rattle.column_json.proofs.native.I128JsonNative.write.Goals as goal

pub returns : goal.returns
returns c = subst (λ d. IfOk c.bytes_json.result (λ v. view v ≡ d)) (written_128 c.args.value _ c.to_be_bytes.result c.ranges.value (to_z-of_z w128 c.args.value c.ranges.value) c.to_be_bytes.ensures) c.bytes_json.ensures
