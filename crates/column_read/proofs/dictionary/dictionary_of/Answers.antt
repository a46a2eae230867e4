use Rattle.std.proofs.Common.{◌≡◌, None, Some, ap, map, subst, sym, rules, ◌∙◌}
use Rattle.std.specs.Prelude.{IfSome}
use Rattle.std.specs.Option.{option_zip}
use Rattle.serde_json.specs.View.{view}
use Rattle.arrow_types.specs.Seen.{seen}
use Rattle.arrow_types.specs.Types.{integer_type}
use Rattle.arrow_layout.specs.Forms.{dictionaries_of, form_of}
use Rattle.arrow_layout.specs.Layouts.{dictionaries, type_of}
use Rattle.arrow_meaning.specs.Nodes.{key_number}
use Rattle.column_grammar.specs.Values.{mask_in}
use Rattle.column_grammar.specs.Reads.{dictionaries_from, keys_in, singles_in}
use Rattle.column_read.specs.Arrays.{IsArrayOf}
use Rattle.column_read.proofs.DictionaryRead.{keys_by}
use Rattle.column_read.proofs.OverChildren.{keys_none, keys_bad, keys_good}
use Rattle.column_read.proofs.Singles.{keys_are}
use Rattle.column_read.proofs.dictionary.dictionary_of.Goals as goal

pub returns-in_err-parts : goal.returns-in_err-parts
returns-in_err-parts g c = λ found h.
    let t = seen c.args.dtype.now in
    let k = g.K.NodeKey.KEY_TYPE in
    let p = g.K.NativeType.PRIMITIVE in
    let second = view c.args.values.second.now in
    let third = view c.args.values.third.now in
    let none : option_zip (singles_in p second) (mask_in third) ≡ None → dictionaries_from t k (second, third) found ≡ None =
    λ e. keys_none t k (keys_in k second) (mask_in third) found (ap (λ o. option_zip o (mask_in third)) (keys_by k p second c.requires.key) ∙ e) in
    search (rules, none)

pub returns-in_default : goal.returns-in_default
returns-in_default g c = λ found h.
    let k = g.K.NodeKey.KEY_TYPE in
    let second = view c.args.values.second.now in
    let third = view c.args.values.third.now in
    keys_bad (seen c.args.dtype.now) k (keys_in k second) (mask_in third) found _ _
    (ap (λ o. option_zip o (mask_in third)) (keys_by k g.K.NativeType.PRIMITIVE second c.requires.key) ∙ c.in_ok-parts.ensures) _ c.in_default.is h

pub dictionary_array-requires-clause-form : goal.dictionary_array-requires-clause-form
dictionary_array-requires-clause-form g c =
    let typed : form_of (seen c.args.dtype.now) ≡ dictionaries_of g.K.NodeKey.KEY_TYPE (type_of c.in-Some.values) =
    subst (λ o. IfSome o (λ a. form_of (seen c.args.dtype.now) ≡ dictionaries_of g.K.NodeKey.KEY_TYPE (type_of a))) c.in-Some.is c.requires.form in
    search (rules, typed)

pub returns : goal.returns
returns g c = λ found h.
    let t = seen c.args.dtype.now in
    let k = g.K.NodeKey.KEY_TYPE in
    let p = c.in_ok-parts.parts in
    let second = view c.args.values.second.now in
    let third = view c.args.values.third.now in
    let rows = map g.K.NativeType.parts p.values in
    let made : IsArrayOf c.in_ok-array.array (dictionaries t (integer_type k) p.validity (map key_number rows) c.in-Some.values) = search (rules, c.in_ok-array.ensures) in
    keys_good t k (keys_in k second) (mask_in third) found _ _ (ap (λ o. option_zip o (mask_in third)) (keys_by k g.K.NativeType.PRIMITIVE second c.requires.key) ∙ c.in_ok-parts.ensures) _ c.in-Some.values
    c.in_ok-array.array c.in-Some.is
    (subst (λ xs. IsArrayOf c.in_ok-array.array (dictionaries t (integer_type k) p.validity xs c.in-Some.values)) (sym (keys_are rows)) made) h
