use Rattle.std.proofs.Common.{◌≡◌, ap, map, subst, sym, ◌∙◌}
use Rattle.arrow_types.specs.Select.{nat_of}
use Rattle.arrow_flat.specs.Primitives.{masked_values}
use Rattle.arrow_layout.specs.Denote.{validity_of}
use Rattle.arrow_layout.specs.Layouts.{Layout, type_of}
use Rattle.arrow_layout.specs.WellFormed.{WellFormed}
use Rattle.arrow_choice.specs.Dictionaries.{keys_of, positions_of}
use Rattle.arrow_choice.proofs.DictionaryReads.{positions_masked}
use Rattle.arrow_choice.proofs.dictionary.DictionaryArray.keys_iter.Goals as goal

pub returns : goal.returns
returns g c =
    let parts = g.K.NativeType.parts in
    let keys = c.parts.result.0.now in
    let values = c.parts.result.1.now in
    let Reads : Layout → Type 0 = λ l. WellFormed l → masked_values keys.mask (positions_of parts keys) ≡ masked_values (validity_of l) (map nat_of (keys_of l)) in
    c.new-2.ensures
    ∙ (ap (λ k. masked_values k.mask (positions_of parts k)) c.new.ensures
    ∙ subst Reads (sym c.parts.ensures.same) (λ w. positions_masked parts (type_of c.args.self.now) keys values w) c.parts.ensures.sound)
