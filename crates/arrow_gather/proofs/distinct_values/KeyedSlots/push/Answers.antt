use Rattle.std.proofs.Common.{◌++◌, ◌∷◌, [], ap, sym, ◌∙◌, subst}
use Rattle.arrow_flat.specs.Slots.{null}
use Rattle.arrow_layout.specs.Canon.{distinct}
use Rattle.arrow_layout.specs.Denote.{denote}
use Rattle.arrow_canon.specs.Picks.{pick}
use Rattle.arrow_gather.specs.Met.{AreKeysOf}
use Rattle.arrow_gather.proofs.MetValues.{keyed_more}
use Rattle.arrow_gather.proofs.Seen.{distinct_more}
use Rattle.arrow_gather.proofs.distinct_values.KeyedSlots.push.Goals as goal

pub returns-clause-keyed : goal.returns-clause-keyed
returns-clause-keyed c = λ s h f.
    let l = c.args.array.now in
    let b = c.args.self.now in
    keyed_more l s (pick null (denote l) c.args.position) c.in_ok-key.key b (record { values = c.key_at.new.self; keys = c.push.new.self; validity = c.push-2.new.self }) h
    (c.in_ok-key.ensures.met (distinct s) h.values f) (c.in_ok-key.ensures.key (distinct s) h.values f)
    (c.in_ok-push.ensures.items ∙ ap (λ n. b.keys.items ++ n ∷ []) c.unwrap_or.ensures)
    (c.in_ok-push-2.ensures.ok ∙ ap (λ bit. b.validity ++ bit ∷ []) c.is_some.ensures)

pub returns-clause-known : goal.returns-clause-known
returns-clause-known c = λ s h f.
    let l = c.args.array.now in
    let x = pick null (denote l) c.args.position in
    subst (λ d. AreKeysOf l d c.key_at.new.keys) (sym (distinct_more s x)) (c.in_ok-key.ensures.known (distinct s) h.values f)
