use Rattle.std.proofs.Common.{◌≡◌, ◌∙◌, ap, sym, subst, rules}
use Rattle.std.specs.Prelude.{IsUtf8}
use Rattle.hex.specs.Hex.{encode_lower}
use Rattle.arrow_flat.specs.Natives.{octets}
use Rattle.column_json.proofs.Octets.{octets_same}
use Rattle.column_json.proofs.Tokens.{encoded_utf8, string_put}
use Rattle.column_json.proofs.text.put_few.Goals as goal

pub unreachable-requires-in-Err : goal.unreachable-requires-in-Err
unreachable-requires-in-Err c =
    let written : c.encode_to_slice.new.output ≡ encode_lower c.args.bytes.now = search rules in
    c.in-Err.ensures.cases.0 (subst IsUtf8 (sym written) (encoded_utf8 c.args.bytes.now))

pub returns : goal.returns
returns c =
    let written : c.encode_to_slice.new.output ≡ encode_lower c.args.bytes.now = search rules in
    string_put c.string.result _ _ c.in-Ok.text.now (encode_lower (octets c.args.bytes.now)) c.string.ensures
    (c.in-Ok.ensures.cases.0 ∙ written ∙ ap encode_lower (sym (octets_same c.args.bytes.now (λ i. (c.type_inv.bytes i).fits))))
