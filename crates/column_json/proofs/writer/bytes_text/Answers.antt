use Rattle.std.proofs.Common.{◌≡◌, sym, subst, string_bytes}
use Rattle.std.specs.Prelude.{IfOk}
use Rattle.hex.specs.Hex.{encode_lower}
use Rattle.column_json.proofs.Octets.{octets_same}
use Rattle.column_json.proofs.writer.bytes_text.Goals as goal

pub returns : goal.returns
returns c =
    subst (λ bs. IfOk c.encode.result (λ s. string_bytes s ≡ encode_lower bs)) (sym (octets_same c.args.bytes.now (λ i. (c.type_inv.bytes i).fits))) c.encode.ensures
