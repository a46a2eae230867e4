use Rattle.std.proofs.Common.{◌≡◌, ap, ap₂, map, subst, sym, ◌∙◌}
use Rattle.arrow_flat.specs.Slots.{bytes}
use Rattle.arrow_layout.specs.Denote.{denote, under}
use Rattle.arrow_layout.specs.Layouts.{Layout, type_of}
use Rattle.arrow_layout.specs.Masks.{null_count_of}
use Rattle.arrow_layout.specs.WellFormed.{WellFormed}
use Rattle.arrow_choice.specs.Dictionaries.{texts_at, values_of}
use Rattle.arrow_choice.proofs.DictionaryReads.{texts_alone}
use Rattle.arrow_choice.proofs.dictionary.DictionaryArray.values_iter_typed.Goals as goal

pub returns-clause-slots : goal.returns-clause-slots
returns-clause-slots g c =
    let parts = g.K.NativeType.parts in
    let keys = c.parts.result.0.now in
    let values = c.parts.result.1.now in
    let texts = g.V.DictValue.texts c.in_ok-texts.texts.now in
    let Reads : Layout → Type 0 = λ l. WellFormed l → null_count_of l ≡ 0 → null_count_of (values_of l) ≡ 0 → denote l ≡ map bytes (texts_at parts texts keys) in
    let under_values = subst (λ l. under l ≡ map bytes texts) c.in_ok-texts.ensures.found c.in_ok-texts.ensures.texts in
    let read = subst Reads (sym c.parts.ensures.same) (λ w whole bare. texts_alone parts (type_of c.args.self.now) keys values w texts bare under_values whole)
    c.parts.ensures.sound c.requires.keys c.requires.values in
    let made = c.new-2.ensures ∙ ap₂ (λ k v. texts_at parts (g.V.DictValue.texts v) k) c.new.ensures.keys c.new.ensures.texts in
    read ∙ ap (map bytes) (sym made)
