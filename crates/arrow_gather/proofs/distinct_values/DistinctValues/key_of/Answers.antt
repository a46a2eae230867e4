use Rattle.std.proofs.Common.{◌≡◌, false, None, refl, ap, sym}
use Rattle.arrow_flat.specs.Slots.{is_valid}
use Rattle.arrow_layout.specs.Canon.{seen_with}
use Rattle.arrow_scalar.specs.Spellings.{slot_at}
use Rattle.arrow_scalar.proofs.Slots.{slot_null}
use Rattle.arrow_gather.proofs.MetValues.{met_key, met_known, met_same}
use Rattle.arrow_gather.proofs.Seen.{key_stays}
use Rattle.arrow_gather.proofs.distinct_values.DistinctValues.key_of.Goals as goal

pub returns-then-not-is_valid-clause-met : goal.returns-then-not-is_valid-clause-met
returns-then-not-is_valid-clause-met c = λ d m.
    let l = c.args.array.now in
    let none : is_valid (slot_at l c.args.i) ≡ false = ap is_valid (slot_null l c.args.i c.invariant.ensures c.requires (sym c.if-not-is_valid.ensures)) in
    met_same l d (slot_at l c.args.i) None c.args.self.now none m

pub returns-then-not-is_valid-clause-key : goal.returns-then-not-is_valid-clause-key
returns-then-not-is_valid-clause-key c = λ d m.
    ap is_valid (slot_null c.args.array.now c.args.i c.invariant.ensures c.requires (sym c.if-not-is_valid.ensures))

pub returns-in-Some-clause-met : goal.returns-in-Some-clause-met
returns-in-Some-clause-met c = λ d m.
    let l = c.args.array.now in
    let key = met_key l d c.args.self.now c.args.i c.source_at-source.result c.in-Some.key.now m c.requires (sym c.if-not-is_valid.ensures) c.source_at-source.ensures (sym c.in-Some.ensures.value) in
    met_same l d (slot_at l c.args.i) c.in-Some.key.now c.args.self.now key m

pub returns-in-Some-clause-key : goal.returns-in-Some-clause-key
returns-in-Some-clause-key c = λ d m.
    let l = c.args.array.now in
    let key = met_key l d c.args.self.now c.args.i c.source_at-source.result c.in-Some.key.now m c.requires (sym c.if-not-is_valid.ensures) c.source_at-source.ensures (sym c.in-Some.ensures.value) in
    key_stays d (slot_at l c.args.i) (slot_at l c.args.i) c.in-Some.key.now key

pub returns-clause-met : goal.returns-clause-met
returns-clause-met c = λ d m.
    let l = c.args.array.now in
    met_known l (seen_with d (slot_at l c.args.i)) c.spelled_key.new.self (record { known = c.insert.new.self; spelled = c.spelled_key.new.self.spelled; firsts = c.spelled_key.new.self.firsts })
    c.args.i c.source_at-source.result c.in_ok-key.key (c.in_ok-key.ensures.met d m) c.invariant.ensures c.requires (sym c.if-not-is_valid.ensures) c.source_at-source.ensures
    (c.in_ok-key.ensures.key d m) refl refl c.in_ok-insert.ensures.entries
