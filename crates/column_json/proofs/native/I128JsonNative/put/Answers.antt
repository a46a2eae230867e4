use Rattle.std.proofs.Common.{subst}
use Rattle.std.specs.Prelude.{OnOk}
use Rattle.std.specs.Int.{w128}
use Rattle.std.proofs.lemmas.Int.{to_z-of_z}
use Rattle.column_json.specs.Puts.{Puts}
use Rattle.column_json.proofs.Octets.{written_128}
use Rattle.column_json.proofs.native.I128JsonNative.put.Goals as goal

pub returns : goal.returns
returns c =
    subst (λ d. OnOk c.put_few.result (Puts c.args.out.now c.put_few.new.out d)) (written_128 c.args.value _ c.to_be_bytes.result c.ranges.value (to_z-of_z w128 c.args.value c.ranges.value) c.to_be_bytes.ensures)
    c.put_few.ensures
