use Rattle.std.proofs.Common.{IfOk, ◌≡◌, subst}
use Rattle.arrow_meaning.specs.Nodes.{key_layout, layout_of}
use Rattle.arrow_meaning.proofs.NullArrays.{dictionary_nulls}
use Rattle.arrow_types.specs.Types.{integer_type}
use Rattle.arrow_meaning.proofs.null_array.null_dictionary.Goals as goal

pub returns-clause-same : goal.returns-clause-same
returns-clause-same c =
    subst (λ l. IfOk c.clone_dictionary.result (λ n. layout_of n ≡ l))
    (dictionary_nulls c.args.dtype.now (key_layout c.in_ok-keys.keys) (integer_type c.args.key) c.args.length c.args.child.now c.in_ok-keys.ensures.same) c.clone_dictionary.ensures.same
