use Rattle.std.proofs.Common.{◌≡◌, ◌+◌, ◌++◌, ◌∷◌, [], ℕ, true, false, cond, Some, None, Vec, Global, refl, ap, ap₂, sym, ◌∙◌, subst}
use Rattle.std.specs.Prelude.{is_some, if◌then◌else◌}
use Rattle.std.specs.BTreeMap.{btree_map_len, get_by, is_at}
use Rattle.std.specs.Cmp.Lexicographic.{slice_cmp}
use Rattle.std.specs.Map.{lookup}
use Rattle.std.specs.Ordering.{is_eq, nat_cmp}
use Rattle.arrow_flat.specs.Slots.{is_valid}
use Rattle.arrow_scalar.specs.Spellings.{slot_at}
use Rattle.arrow_gather.specs.Met.{IsKeyOf}
use Rattle.arrow_gather.proofs.MapEntries.{looked_up}
use Rattle.arrow_gather.proofs.MetValues.{met_new, met_same, met_spelled, not_met, not_null}
use Rattle.arrow_gather.proofs.Seen.{is_new, key_last, key_stays}
use Rattle.arrow_gather.proofs.distinct_values.DistinctValues.spelled_key.Goals as goal

pub returns-in-Some-clause-met : goal.returns-in-Some-clause-met
returns-in-Some-clause-met c = λ d m.
    let l = c.args.array.now in
    let x = slot_at l c.args.i in
    let bs = c.in_ok-spelling.spelling.items in
    let valid : is_valid x ≡ true = not_null false (is_valid x) (c.if-is_null.ensures x (c.as_slice.ensures.value ∙ c.in_ok-spelling.ensures)) refl in
    let there : Some c.in-Some.key.now ≡ get_by (λ k. slice_cmp nat_cmp bs k.items) c.args.self.now.spelled =
    c.in-Some.ensures.value ∙ ap (λ cs. get_by (λ k. slice_cmp nat_cmp cs k.items) c.args.self.now.spelled) c.as_slice-2.ensures.value in
    met_same l d x (Some c.in-Some.key.now) c.args.self.now (met_spelled l d c.args.self.now c.args.i bs m c.requires c.in_ok-spelling.ensures c.in-Some.key.now there valid) m

pub returns-in-Some-clause-key : goal.returns-in-Some-clause-key
returns-in-Some-clause-key c = λ d m.
    let l = c.args.array.now in
    let x = slot_at l c.args.i in
    let bs = c.in_ok-spelling.spelling.items in
    let valid : is_valid x ≡ true = not_null false (is_valid x) (c.if-is_null.ensures x (c.as_slice.ensures.value ∙ c.in_ok-spelling.ensures)) refl in
    let there : Some c.in-Some.key.now ≡ get_by (λ k. slice_cmp nat_cmp bs k.items) c.args.self.now.spelled =
    c.in-Some.ensures.value ∙ ap (λ cs. get_by (λ k. slice_cmp nat_cmp cs k.items) c.args.self.now.spelled) c.as_slice-2.ensures.value in
    key_stays d x x (Some c.in-Some.key.now) (met_spelled l d c.args.self.now c.args.i bs m c.requires c.in_ok-spelling.ensures c.in-Some.key.now there valid)

pub returns-clause-met : goal.returns-clause-met
returns-clause-met c = λ d m.
    let l = c.args.array.now in
    let x = slot_at l c.args.i in
    let v = c.args.self.now in
    let bs = c.in_ok-spelling.spelling.items in
    let valid : is_valid x ≡ true = not_null false (is_valid x) (c.if-is_null.ensures x (c.as_slice.ensures.value ∙ c.in_ok-spelling.ensures)) refl in
    let none : None ≡ get_by (λ k. slice_cmp nat_cmp bs k.items) v.spelled =
    c.in_default.ensures.value ∙ ap (λ cs. get_by (λ k. slice_cmp nat_cmp cs k.items) v.spelled) c.as_slice-2.ensures.value in
    let items = λ (k : Vec ℕ Global). k.items in
    met_new l d v (record { known = v.known; spelled = c.insert.new.self; firsts = c.push.new.self }) c.args.i m c.invariant.ensures c.requires valid
    (not_met l d v c.args.i bs m c.requires c.in_ok-spelling.ensures none) c.in_ok-push.ensures.items
    (c.in_ok-insert.ensures.len ∙ ap (λ o. btree_map_len v.spelled + (if is_some o then 0 else 1)) (c.in_ok-insert.ensures.old ∙ sym none))
    (λ cs. ap (λ es. lookup (is_at (λ (k : Vec ℕ Global). slice_cmp nat_cmp cs k.items)) es) c.in_ok-insert.ensures.entries
    ∙ looked_up items cs c.in_ok-spelling.spelling c.len-key.result v.spelled.entries
    ∙ ap₂ (λ ds n. cond (is_eq (slice_cmp nat_cmp cs ds)) (Some n) (get_by (λ k. slice_cmp nat_cmp cs k.items) v.spelled)) c.in_ok-spelling.ensures (c.len-key.ensures.len ∙ m.count))
    refl

pub returns-clause-key : goal.returns-clause-key
returns-clause-key c = λ d m.
    let l = c.args.array.now in
    let x = slot_at l c.args.i in
    let v = c.args.self.now in
    let bs = c.in_ok-spelling.spelling.items in
    let valid : is_valid x ≡ true = not_null false (is_valid x) (c.if-is_null.ensures x (c.as_slice.ensures.value ∙ c.in_ok-spelling.ensures)) refl in
    let none : None ≡ get_by (λ k. slice_cmp nat_cmp bs k.items) v.spelled =
    c.in_default.ensures.value ∙ ap (λ cs. get_by (λ k. slice_cmp nat_cmp cs k.items) v.spelled) c.as_slice-2.ensures.value in
    let new = not_met l d v c.args.i bs m c.requires c.in_ok-spelling.ensures none in
    subst (λ e. IsKeyOf e x (Some c.len-key.result)) (sym (is_new d x valid new))
    (subst (λ n. IsKeyOf (d ++ x ∷ []) x (Some n)) (sym (c.len-key.ensures.len ∙ m.count)) (key_last d x valid new))
