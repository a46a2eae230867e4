use Rattle.std.proofs.Common.{◌<◌, add-one, arith, length, refl, sym, ◌∙◌}
use Rattle.std.proofs.lemmas.Bool.{false≢true}
use Rattle.arrow_meaning.proofs.KeysNamed.{Names, below_keys, keys_below, named_all, named_at, named_skip, named_step}
use Rattle.arrow_meaning.proofs.keys.name_values.Goals as goal
use Rattle.arrow_meaning.proofs.keys.name_values.Goals.{else-is_valid-via-then-is_valid+else-not-names_value, else-is_valid-via-else-is_valid}

pub returns-then-not-names_value : goal.returns-then-not-names_value
returns-then-not-names_value g c =
    let parts = g.K.NativeType.parts in
    let a = c.args.keys.now in
    let m = c.args.validity.now in
    let within : c.loop-i.i < length a.values = omega (arith, c.loop-i-test.true, c.len-i-end.ensures) in (
      λ e. absurd (false≢true e),
      λ k. absurd (false≢true (sym c.if-not-names_value.true ∙ c.names_value.ensures.1
          (named_at (Names parts c.args.values) m a.values c.loop-i.i c.value.result c.requires within c.value.ensures (sym c.is_valid.ensures ∙ c.if-is_valid.true)
          (below_keys parts c.args.values m a k)))),
    )

pub loop-i-preserved : goal.loop-i-preserved
loop-i-preserved g c =
    let parts = g.K.NativeType.parts in
    let a = c.args.keys.now in
    let m = c.args.validity.now in
    let within : c.loop-i.i < length a.values = omega (arith, c.loop-i-test.true, c.len-i-end.ensures) in
    rw (add-one c.loop-i.i)
    (elim c.else-is_valid.branch [
      | else-is_valid-via-then-is_valid+else-not-names_value w ↦ named_step (Names parts c.args.values) m a.values c.loop-i.i w.value.result c.requires within w.value.ensures
          (λ e. w.names_value.ensures.0 w.if-not-names_value.false) c.loop-i.invariant
      | else-is_valid-via-else-is_valid w ↦ named_skip (Names parts c.args.values) m a.values c.loop-i.i within (sym c.is_valid.ensures ∙ w.if-is_valid.false) c.loop-i.invariant
    ])

pub returns : goal.returns
returns g c =
    let parts = g.K.NativeType.parts in
    let a = c.args.keys.now in
    let m = c.args.validity.now in (
      λ e. keys_below parts c.args.values m a
          (named_all (Names parts c.args.values) m a.values c.loop-i.i c.requires (omega (arith, c.loop-i-test.false, c.len-i-end.ensures)) c.loop-i.invariant),
      λ k. refl,
    )
