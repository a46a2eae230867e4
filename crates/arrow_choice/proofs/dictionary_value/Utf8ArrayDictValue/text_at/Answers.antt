use Rattle.std.proofs.Common.{◌<◌, ap, subst, ◌∙◌}
use Rattle.std.specs.Option.{option_map}
use Rattle.std.proofs.lemmas.List.{length-map}
use Rattle.std.proofs.lemmas.Option.{slice_get-map}
use Rattle.arrow_flat.specs.Natives.{octets}
use Rattle.arrow_bytes.specs.Binaries.{values_of}
use Rattle.arrow_bytes.proofs.Windows.{values_count}
use Rattle.arrow_choice.proofs.dictionary_value.Utf8ArrayDictValue.text_at.Goals as goal

pub value-requires : goal.value-requires
value-requires g c =
    let number = g.O.Offset.number in
    let a = c.args.self.now in
    subst (λ k. c.args.i < k) (length-map (values_of number a) octets ∙ values_count number a) c.requires

pub returns : goal.returns
returns g c = slice_get-map octets (values_of g.O.Offset.number c.args.self.now) c.args.i ∙ ap (option_map octets) c.value.ensures
