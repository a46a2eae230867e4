use Rattle.std.proofs.Common.{◌≡◌, ◌+◌, ◌++◌, ◌∷◌, [], None, take, get_or, ap, sym, ◌∙◌, subst}
use Rattle.std.proofs.lemmas.List.{append_assoc, append-nil, map-append, take_more}
use Rattle.arrow_flat.specs.Slots.{null}
use Rattle.arrow_layout.specs.Canon.{distinct}
use Rattle.arrow_layout.specs.Denote.{denote}
use Rattle.arrow_canon.specs.Picks.{pick, picks}
use Rattle.arrow_gather.specs.Met.{AreKeyed, AreKeysOf}
use Rattle.arrow_gather.specs.declared.distinct_values.KeyedSlots.{KeyedSlots}
use Rattle.arrow_gather.proofs.MetValues.{none_known}
use Rattle.arrow_gather.proofs.distinct_values.KeyedSlots.extend.Goals as goal

pub loop-position-init : goal.loop-position-init
loop-position-init c = λ s h.
    let l = c.args.array.now in
    let none = sym (append-nil s) in
    let b : KeyedSlots = record { values = c.args.self.now.values; keys = c.reserve.new.self; validity = c.args.self.now.validity } in
    let keyed : AreKeyed l s b = record { values = h.values; keys = c.in_ok-reserve.ensures.items ∙ h.keys; bits = h.bits } in (
      subst (λ r. AreKeyed l r b) none keyed,
      subst (λ r. AreKeysOf l (distinct r) c.in_ok-keys.keys) none (none_known l (distinct s) c.in_ok-keys.keys c.min.result c.in_ok-keys.ensures),
    )

pub loop-position-preserved : goal.loop-position-preserved
loop-position-preserved c = λ s h.
    let l = c.args.array.now in
    let ps = c.args.positions.now in
    let i = c.loop-position.position-index in
    let f = pick null (denote l) in
    let r = picks null (denote l) (take i ps) in
    let x = f (get_or ps i None) in
    let step : r ++ x ∷ [] ≡ picks null (denote l) (take (i + 1) ps) = sym (map-append f (take i ps) (get_or ps i None ∷ [])) ∙ ap (picks null (denote l)) (sym (take_more ps i None c.loop-position-test.true)) in
    let more : (s ++ r) ++ x ∷ [] ≡ s ++ picks null (denote l) (take (i + 1) ps) = append_assoc s r (x ∷ []) ∙ ap (λ r. s ++ r) step in
    let before = c.loop-position.invariant s h in (
      subst (λ s. AreKeyed l s c.push.new.self) more (c.in_ok-push.ensures.keyed (s ++ r) before.0 before.1),
      subst (λ s. AreKeysOf l (distinct s) c.push.new.keys) more (c.in_ok-push.ensures.known (s ++ r) before.0 before.1),
    )
