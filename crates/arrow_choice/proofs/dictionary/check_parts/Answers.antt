use Rattle.std.proofs.Common.{◌≡◌, None, arith, inl, inr, subst, sym, ⊎_elim, ◌∙◌}
use Rattle.std.proofs.lemmas.Bool.{false≢true}
use Rattle.arrow_types.specs.Seen.{seen}
use Rattle.arrow_meaning.specs.Nodes.{AreKeysBelow, primitive_layout}
use Rattle.arrow_choice.specs.Dictionaries.{HasKeyType, HasValueType}
use Rattle.arrow_choice.proofs.DictionaryReads.{numbers_count}
use Rattle.arrow_choice.proofs.dictionary.check_parts.Goals as goal
use Rattle.arrow_choice.proofs.dictionary.check_parts.Goals.{else-null_count-len-via-then-null_count-len+else-not-name_values, else-null_count-len-via-else-null_count-len}

pub returns-then-not-name_values : goal.returns-then-not-name_values
returns-then-not-name_values g c =
    let parts = g.K.NativeType.parts in
    let keys = c.args.keys.now in
    let t = seen c.args.dtype.now in
    let ok = c.in_ok-check_types.ensures in
    let key : c.KEY_TYPE.result ≡ g.K.NodeKey.KEY_TYPE = cc (c.KEY_TYPE.ensures) in
    let count = numbers_count parts keys in (
      ok.0,
      subst (λ k. HasKeyType k t (seen keys.dtype)) key (subst (λ d. HasKeyType c.KEY_TYPE.result t (seen d)) c.dtype.ensures ok.1),
      subst (HasValueType t) c.dtype-2.ensures ok.2,
      ⊎_elim
          (λ e. omega (arith, e, count, c.null_count.ensures, c.len.ensures, c.if-null_count-len.true))
          (λ a. false≢true (sym c.if-not-name_values.true
          ∙ c.name_values.ensures.1 (subst (λ n. AreKeysBelow n None (primitive_layout parts keys)) (sym c.len-then-null_count-len.ensures) a))),
    )

pub returns : goal.returns
returns g c =
    let parts = g.K.NativeType.parts in
    let keys = c.args.keys.now in
    let t = seen c.args.dtype.now in
    let ok = c.in_ok-check_types.ensures in
    let key : c.KEY_TYPE.result ≡ g.K.NodeKey.KEY_TYPE = cc (c.KEY_TYPE.ensures) in
    let count = numbers_count parts keys in (
      ok.0,
      subst (λ k. HasKeyType k t (seen keys.dtype)) key (subst (λ d. HasKeyType c.KEY_TYPE.result t (seen d)) c.dtype.ensures ok.1),
      subst (HasValueType t) c.dtype-2.ensures ok.2,
      elim c.else-null_count-len.branch [
        | else-null_count-len-via-then-null_count-len+else-not-name_values w ↦
            inr (subst (λ n. AreKeysBelow n None (primitive_layout parts keys)) w.len-then-null_count-len.ensures (w.name_values.ensures.0 w.if-not-name_values.false))
        | else-null_count-len-via-else-null_count-len w ↦ inl (omega (arith, count, c.null_count.ensures, c.len.ensures, w.if-null_count-len.false))
      ],
    )
