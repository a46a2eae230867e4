use Rattle.std.proofs.Common.{ℕ, length, ap, ◌∙◌, arith, length-append}
use Rattle.arrow_buffers.specs.Bits.{bits_of}
use Rattle.arrow_buffers.proofs.Bytes.{same_longer}
use Rattle.arrow_buffers.proofs.mutable.make_room.Goals as goal

pub returns-in_ok-push-clause-ok : goal.returns-in_ok-push-clause-ok
returns-in_ok-push-clause-ok c =
    let e = c.in_ok-push.ensures.items in
    let l = ap length e in
    (ap (λ bs. bits_of bs 0 c.args.slots) e ∙ same_longer c.args.bytes.now.items 0 c.args.slots c.requires, omega (arith, length-append {A = ℕ}))
