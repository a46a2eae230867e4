use Rattle.std.proofs.Common.{◌≡◌, None, ap, map, subst, sym, ◌∙◌}
use Rattle.arrow_types.specs.Select.{nat_of}
use Rattle.arrow_layout.specs.Layouts.{Layout, type_of}
use Rattle.arrow_layout.specs.Masks.{KeysInRange}
use Rattle.arrow_layout.specs.WellFormed.{WellFormed}
use Rattle.arrow_choice.specs.Dictionaries.{keys_of, positions_of}
use Rattle.arrow_choice.proofs.DictionaryReads.{positions_all}
use Rattle.arrow_choice.proofs.dictionary.DictionaryArray.keys_values_iter.Goals as goal

pub returns : goal.returns
returns g c =
    let parts = g.K.NativeType.parts in
    let keys = c.parts.result.0.now in
    let values = c.parts.result.1.now in
    let Reads : Layout → Type 0 = λ l. WellFormed l → KeysInRange None l → positions_of parts keys ≡ map nat_of (keys_of l) in
    c.new-2.ensures
    ∙ (ap (positions_of parts) c.new.ensures
    ∙ subst Reads (sym c.parts.ensures.same) (λ w h. positions_all parts (type_of c.args.self.now) keys values w h) c.parts.ensures.sound c.requires)
