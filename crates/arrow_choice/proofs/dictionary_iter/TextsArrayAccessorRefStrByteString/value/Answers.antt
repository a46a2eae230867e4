use Rattle.std.proofs.Common.{◌≤◌, ap, arith, length, slice_get, sym, ◌∙◌}
use Rattle.arrow_choice.specs.Dictionaries.{positions_of}
use Rattle.arrow_choice.proofs.DictionaryReads.{text_past}
use Rattle.arrow_choice.proofs.dictionary_iter.TextsArrayAccessorRefStrByteString.value.Goals as goal

pub returns-else-position-text_count : goal.returns-else-position-text_count
returns-else-position-text_count g c =
    let parts = g.K.NativeType.parts in
    let texts = g.V.DictValue.texts c.args.self.texts.now in
    let n = c.value-position.result in
    let at = ap (λ k. slice_get (positions_of parts k) c.args.i) (sym c.new.ensures) ∙ c.value-position.ensures in
    let end : length texts ≤ n = omega (arith, c.if-position-text_count.false, c.text_count.ensures) in
    text_past texts (positions_of parts c.args.self.keys.now) c.args.i n at end
