use Rattle.std.proofs.Common.{length, sym, ◌∙◌, ◌+◌, ◌*◌, ◌≤◌, subst}
use Rattle.arrow_flat.proofs.Pieces.{span_within}
use Rattle.arrow_grow_flat.proofs.fixed_size_binary.bytes_of_slots.Goals as goal

pub pieces-requires : goal.pieces-requires
pieces-requires c =
    let a = c.args.array.now in
    subst (λ (xs : Rattle.std.specs.Prelude.List Rattle.std.specs.Prelude.ℕ). c.args.start * c.size.result + c.args.len * c.size.result ≤ length xs) (sym (c.as_slice.ensures ∙ c.values.ensures))
    (subst (λ k. c.args.start * k + c.args.len * k ≤ length a.values) (sym c.size.ensures.value) (span_within (length a.values) a.size c.args.start c.args.len c.requires))
