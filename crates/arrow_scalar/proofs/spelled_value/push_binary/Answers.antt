use Rattle.std.proofs.Common.{[], ◌∷◌, ◌++◌, length, subst, sym}
use Rattle.std.proofs.lemmas.Result.{on_ok_weaker}
use Rattle.arrow_flat.specs.Natives.{octets}
use Rattle.arrow_layout.specs.Spelling.{length_bytes}
use Rattle.arrow_meaning.proofs.Octets.{octets_count}
use Rattle.arrow_scalar.proofs.spelled_value.push_binary.Goals as goal

pub returns : goal.returns
returns g c =
    let A = g.W.SpellingOut.Appended in
    let joined = g.W.SpellingOut.joined in
    let x = c.args.out.now in
    let y = c.push_byte.new.self in
    let z = c.push_length.new.self in
    let u = c.push_bytes.new.self in
    let bs = octets c.args.bytes.now in
    let counted = subst (λ k. A y (length_bytes k) z) (sym (octets_count c.args.bytes.now)) c.in_ok-push_length.ensures in
    on_ok_weaker c.push_bytes.result (λ h. joined x y u (3 ∷ []) (length_bytes (length bs) ++ bs) c.in_ok-push_byte.ensures (joined y z u (length_bytes (length bs)) bs counted h)) c.push_bytes.ensures
