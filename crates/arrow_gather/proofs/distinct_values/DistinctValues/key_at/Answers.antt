use Rattle.std.proofs.Common.{◌<◌, sym, ◌∙◌, subst}
use Rattle.arrow_flat.specs.Slots.{null}
use Rattle.arrow_layout.specs.Canon.{seen_with}
use Rattle.arrow_layout.specs.Denote.{denote}
use Rattle.arrow_layout.specs.Layouts.{length_of}
use Rattle.arrow_scalar.specs.Spellings.{slot_at}
use Rattle.arrow_canon.specs.Picks.{pick, IsPlace}
use Rattle.arrow_gather.specs.Met.{AreKeysOf, AreMet, IsKeyOf}
use Rattle.arrow_gather.proofs.MetValues.{known_more, known_stay, met_same}
use Rattle.arrow_gather.proofs.Seen.{key_stays}
use Rattle.arrow_gather.proofs.distinct_values.DistinctValues.key_at.Goals as goal

pub returns-in_default-clause-known : goal.returns-in_default-clause-known
returns-in_default-clause-known c = λ d m f. known_stay c.args.array.now d (pick null (denote c.args.array.now) c.args.position) c.args.keys.now f

pub returns-in-Some-get-clause-met : goal.returns-in-Some-get-clause-met
unfolding slot_at
returns-in-Some-get-clause-met c = λ d m f.
    let l = c.args.array.now in
    let i = c.in-Some.i in
    let k = c.in-Some-get.key in
    let h : i < length_of l = subst (IsPlace (length_of l)) c.in-Some.is c.requires in
    let key : IsKeyOf d (slot_at l i) k = f i k h (sym c.get.ensures ∙ c.in-Some-get.is) in
    subst (λ p. AreMet l (seen_with d (pick null (denote l) p)) c.args.self.now) (sym c.in-Some.is) (met_same l d (slot_at l i) k c.args.self.now key m)

pub returns-in-Some-get-clause-known : goal.returns-in-Some-get-clause-known
returns-in-Some-get-clause-known c = λ d m f. known_stay c.args.array.now d (pick null (denote c.args.array.now) c.args.position) c.args.keys.now f

pub returns-in-Some-get-clause-key : goal.returns-in-Some-get-clause-key
unfolding slot_at
returns-in-Some-get-clause-key c = λ d m f.
    let l = c.args.array.now in
    let i = c.in-Some.i in
    let k = c.in-Some-get.key in
    let h : i < length_of l = subst (IsPlace (length_of l)) c.in-Some.is c.requires in
    let key : IsKeyOf d (slot_at l i) k = f i k h (sym c.get.ensures ∙ c.in-Some-get.is) in
    subst (λ p. IsKeyOf (seen_with d (pick null (denote l) p)) (pick null (denote l) p) k) (sym c.in-Some.is) (key_stays d (slot_at l i) (slot_at l i) k key)

pub returns-clause-met : goal.returns-clause-met
unfolding slot_at
returns-clause-met c = λ d m f.
    let l = c.args.array.now in
    subst (λ p. AreMet l (seen_with d (pick null (denote l) p)) c.key_of.new.self) (sym c.in-Some.is) (c.in_ok-key.ensures.met d m)

pub returns-clause-known : goal.returns-clause-known
unfolding slot_at
returns-clause-known c = λ d m f.
    let l = c.args.array.now in
    let x = slot_at l c.in-Some.i in
    let keys : AreKeysOf l (seen_with d x) c.set.new.self =
    known_more l (seen_with d x) c.args.keys.now c.set.new.self c.in-Some.i c.in_ok-key.key (known_stay l d x c.args.keys.now f) (c.in_ok-key.ensures.key d m) c.set.ensures in
    subst (λ p. AreKeysOf l (seen_with d (pick null (denote l) p)) c.set.new.self) (sym c.in-Some.is) keys

pub returns-clause-key : goal.returns-clause-key
unfolding slot_at
returns-clause-key c = λ d m f.
    let l = c.args.array.now in
    subst (λ p. IsKeyOf (seen_with d (pick null (denote l) p)) (pick null (denote l) p) c.in_ok-key.key) (sym c.in-Some.is) (c.in_ok-key.ensures.key d m)
