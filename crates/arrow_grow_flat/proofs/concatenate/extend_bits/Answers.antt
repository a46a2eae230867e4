use Rattle.std.proofs.Common.{false, ◌++◌, replicate, ap, sym, ◌∙◌}
use Rattle.arrow_grow_flat.proofs.JoinedBits.{bits_unset}
use Rattle.arrow_grow_flat.proofs.concatenate.extend_bits.Goals as goal

pub returns-then-null_count-len : goal.returns-then-null_count-len
returns-then-null_count-len c =
    c.in_ok-extend_constant.ensures.ok
    ∙ ap (λ bs. c.args.bits.now ++ bs)
    (ap (λ n. replicate n false) c.len-then-null_count-len.ensures ∙ sym (bits_unset c.args.array.now c.invariant.ensures (sym c.null_count.ensures ∙ c.if-null_count-len.true ∙ c.len.ensures)))
