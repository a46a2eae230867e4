use Rattle.std.proofs.Common.{◌≡◌, ap, arith, rules, sym, ◌∙◌}
use Rattle.std.proofs.lemmas.Bool.{false≢true}
use Rattle.std.proofs.lemmas.Grind.{common_steps}
use Rattle.arrow_types.specs.Seen.{seen}
use Rattle.arrow_types.specs.Types.{logical_of}
use Rattle.arrow_types.proofs.Back.{seen_one}
use Rattle.arrow_layout.specs.Forms.{dictionaries_of, form_of, key_by, value_by}
use Rattle.arrow_choice.specs.Dictionaries.{HasValueType}
use Rattle.arrow_choice.proofs.DictionaryNodes.{is_dictionary}
use Rattle.arrow_choice.proofs.dictionary.check_types.Goals as goal

pub returns-then-not-is_same : goal.returns-then-not-is_same
returns-then-not-is_same c =
    let t = seen c.args.dtype.now in
    let form : form_of t ≡ dictionaries_of c.in-Some.declared (seen c.in-Some.value_type.now) = c.in-Some.ensures.parts in
    let same : c.in-Some.declared ≡ c.args.key = first_of (search rules, grind (arith, common_steps)) in
    let differ : HasValueType t (seen c.args.values.now) → ⊥ =
    λ h. false≢true (sym c.if-not-is_same.true ∙ c.is_same.ensures.1
    (seen_one c.to_logical_type.result.now c.to_logical_type-2.result.now
    (c.to_logical_type.ensures ∙ (ap (λ f. logical_of (value_by f)) (sym form) ∙ (h ∙ sym c.to_logical_type-2.ensures))))) in (
      is_dictionary t c.in-Some.declared (seen c.in-Some.value_type.now) form,
      (ap key_by form ∙ same, c.is_integer_type.ensures.0 c.if-not-is_integer_type.false),
      differ,
    )
