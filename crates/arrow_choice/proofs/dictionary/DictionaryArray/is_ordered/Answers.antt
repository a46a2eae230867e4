use Rattle.std.proofs.Common.{subst, sym}
use Rattle.arrow_layout.specs.Forms.{form_of, value_by}
use Rattle.arrow_layout.specs.Layouts.{type_of}
use Rattle.arrow_choice.specs.Dictionaries.{IsDictionary}
use Rattle.arrow_choice.proofs.DictionaryNodes.{dictionary_form, is_dictionary}
use Rattle.arrow_choice.proofs.dictionary.DictionaryArray.is_ordered.Goals as goal

pub unreachable-requires : goal.unreachable-requires
unreachable-requires g c =
    let t = type_of c.self.inside.array in
    let k = g.K.NodeKey.KEY_TYPE in
    c.in-None.ensures.parts (subst IsDictionary (sym c.dtype.ensures) (is_dictionary t k (value_by (form_of t)) (dictionary_form t k c.self.invariant)))
