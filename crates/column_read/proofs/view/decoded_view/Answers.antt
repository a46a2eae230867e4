use Rattle.std.proofs.Common.{◌≡◌, Some, rules, length}
use Rattle.std.specs.Prelude.{IsOk, option_and_then}
use Rattle.hex.specs.Hex.{decode_of}
use Rattle.column_grammar.specs.Values.{decoded}
use Rattle.column_grammar.specs.Reads.{inline_of}
use Rattle.column_read.proofs.InlineHex.{inline_there}
use Rattle.column_read.proofs.view.decoded_view.Goals as goal

pub returns : goal.returns
returns c =
    let there : IsOk c.decode_to_slice.result → Some c.new_inline.result ≡ option_and_then inline_of (decoded (decode_of c.args.text.now)) =
    λ ok. inline_there c.args.text.now c.decode_to_slice.new.out (length c.args.bytes.now) c.new_inline.result c.decode_to_slice.result c.requires.few c.decode_to_slice.ensures.value ok c.new_inline.ensures in
    search (rules, there)
