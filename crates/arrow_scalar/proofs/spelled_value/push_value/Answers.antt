use Rattle.std.proofs.Common.{[], ◌∷◌, OnOk, flat_map, subst, sym}
use Rattle.std.proofs.lemmas.Result.{on_ok_weaker}
use Rattle.arrow_layout.specs.Spelling.{number_bytes, slot_bytes}
use Rattle.arrow_scalar.proofs.Slots.{number_at}
use Rattle.arrow_scalar.proofs.spelled_value.push_value.Goals as goal

pub returns : goal.returns
returns g c =
    let A = g.W.SpellingOut.Appended in
    let parts = g.T.NativeType.parts in
    let x = c.args.out.now in
    let z = c.push_parts.new.out in
    let v = c.value.result in
    subst (λ s. OnOk c.push_parts.result (A x (slot_bytes s) z)) (sym (number_at parts c.args.array.now.values c.args.i v c.value.ensures))
    (on_ok_weaker c.push_parts.result (λ h. g.W.SpellingOut.joined x c.push_byte.new.self z (2 ∷ []) (flat_map number_bytes (parts v)) c.in_ok-push_byte.ensures h) c.push_parts.ensures)
