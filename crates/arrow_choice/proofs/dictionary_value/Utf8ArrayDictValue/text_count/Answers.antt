use Rattle.std.proofs.Common.{sym, ◌∙◌}
use Rattle.std.proofs.lemmas.List.{length-map}
use Rattle.arrow_flat.specs.Natives.{octets}
use Rattle.arrow_bytes.specs.Binaries.{values_of}
use Rattle.arrow_bytes.proofs.Windows.{values_count}
use Rattle.arrow_choice.proofs.dictionary_value.Utf8ArrayDictValue.text_count.Goals as goal

pub returns : goal.returns
returns g c =
    let number = g.O.Offset.number in
    let a = c.args.self.now in
    c.len.ensures ∙ sym (length-map (values_of number a) octets ∙ values_count number a)
