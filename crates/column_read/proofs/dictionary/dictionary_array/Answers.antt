use Rattle.std.proofs.Common.{◌≡◌, map, sym, subst}
use Rattle.arrow_types.specs.Seen.{seen}
use Rattle.arrow_types.specs.Types.{integer_type}
use Rattle.arrow_layout.specs.Layouts.{length_of}
use Rattle.arrow_meaning.specs.Nodes.{AreKeysBelow, primitive_layout}
use Rattle.column_read.proofs.DictionaryRead.{unnamed_keys}
use Rattle.column_read.proofs.dictionary.dictionary_array.Goals as goal

pub returns-then-not-branch : goal.returns-then-not-branch
returns-then-not-branch g c = λ w.
    let parts = g.K.NativeType.parts in
    let p = c.args.parts in
    unnamed_keys (seen c.args.dtype.now) (integer_type g.K.NodeKey.KEY_TYPE) (seen c.from-plain.result) p.validity (map parts p.values) c.args.values
    (λ below.
    let named = subst (λ n. AreKeysBelow n p.validity (primitive_layout parts (record { dtype = c.from-plain.result; values = p.values; mask = p.validity }))) (sym c.len.ensures) below in
    let yes = c.in_ok-are_names.ensures.1 (subst (λ ks. AreKeysBelow c.len.result ks.mask (primitive_layout parts ks)) (sym c.in-Ok.ensures.0) named) in
    let never : ⊥ = cc in
    absurd never)
    w

pub dictionary_over_keys-requires-clause-named : goal.dictionary_over_keys-requires-clause-named
dictionary_over_keys-requires-clause-named g c =
    subst (λ n. AreKeysBelow n c.in-Ok.keys.mask (primitive_layout g.K.NativeType.parts c.in-Ok.keys)) c.len.ensures (c.in_ok-are_names.ensures.0 c.if-not-branch.false)
