use Rattle.std.proofs.Common.{[], ◌∷◌, ◌++◌, ap, ◌∙◌, arith}
use Rattle.arrow_buffers.proofs.Bytes.{same_after}
use Rattle.arrow_buffers.proofs.mutable.grow.Goals as goal

pub returns-clause-ok : goal.returns-clause-ok
returns-clause-ok c = (
  same_after c.make_room.new.bytes.items c.write_bit.new.bytes.items c.args.slots c.args.bit c.write_bit.ensures.bits
      ∙ ap (λ bs. bs ++ c.args.bit ∷ []) c.in_ok-make_room.ensures.ok.0,
  (let e = c.write_bit.ensures.len in let m = c.in_ok-make_room.ensures.ok.1 in omega arith),
)
