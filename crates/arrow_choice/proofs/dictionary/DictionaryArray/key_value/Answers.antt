use Rattle.std.proofs.Common.{◌≡◌, Some, ap, map, slice_get, subst, sym, ◌∙◌}
use Rattle.std.specs.Prelude.{IsSomeAnd}
use Rattle.arrow_types.specs.Carried.{IsBelow}
use Rattle.arrow_types.specs.Select.{nat_of}
use Rattle.arrow_layout.specs.Layouts.{Layout, length_of, type_of}
use Rattle.arrow_layout.specs.WellFormed.{WellFormed}
use Rattle.arrow_choice.specs.Dictionaries.{keys_of, positions_of, values_of}
use Rattle.arrow_choice.proofs.DictionaryReads.{position_read}
use Rattle.arrow_choice.proofs.dictionary.DictionaryArray.key_value.Goals as goal

pub returns : goal.returns
returns g c =
    let parts = g.K.NativeType.parts in
    let keys = c.parts.result.0.now in
    let values = c.parts.result.1.now in
    let i = c.args.i in
    let n = c.value.result in
    let Reads : Layout → Type 0 = λ l. WellFormed l → IsSomeAnd (slice_get (keys_of l) i) (IsBelow (length_of (values_of l))) → slice_get (map nat_of (keys_of l)) i ≡ Some n in
    let position = ap (λ k. slice_get (positions_of parts k) i) (sym c.new.ensures) ∙ c.value.ensures in
    subst Reads (sym c.parts.ensures.same) (λ w h. position_read parts (type_of c.args.self.now) keys values w i n h position) c.parts.ensures.sound c.requires
