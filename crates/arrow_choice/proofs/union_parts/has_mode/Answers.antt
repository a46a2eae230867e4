use Rattle.std.proofs.Common.{IsTrue, not, subst, sym, ◌↔◌}
use Rattle.arrow_types.specs.Seen.{seen}
use Rattle.arrow_layout.specs.Forms.{form_of, mode_by}
use Rattle.arrow_choice.specs.Unions.{AreOffsetsOf}
use Rattle.arrow_choice.proofs.Unions.{dense_mode, sparse_mode}
use Rattle.arrow_choice.proofs.union_parts.has_mode.Goals as goal

pub returns-in-Some : goal.returns-in-Some
returns-in-Some c =
    let mode = mode_by (form_of (seen c.args.dtype.now)) in
    subst (λ os. IsTrue (not c.is_sparse.result) ↔ AreOffsetsOf mode os) (sym c.in-Some.is) (dense_mode c.is_sparse.result mode c.in-Some.field-0 c.is_sparse.ensures)

pub returns-in-None : goal.returns-in-None
returns-in-None c =
    let mode = mode_by (form_of (seen c.args.dtype.now)) in
    subst (λ os. IsTrue c.is_sparse-in-None.result ↔ AreOffsetsOf mode os) (sym c.in-None.is) (sparse_mode c.is_sparse-in-None.result mode c.is_sparse-in-None.ensures)
