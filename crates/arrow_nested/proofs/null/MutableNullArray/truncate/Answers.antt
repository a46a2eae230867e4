use Rattle.std.proofs.Common.{◌≤◌, subst, sym}
use Rattle.arrow_flat.specs.Built.{IsCutTo}
use Rattle.arrow_nested.specs.Nulls.{nulls_built}
use Rattle.arrow_nested.proofs.Nulls.{cut_nulls}
use Rattle.arrow_nested.proofs.null.MutableNullArray.truncate.Goals as goal

pub returns : goal.returns
returns c =
    let b = c.self.inside in
    subst (λ a. IsCutTo c.args.len (nulls_built a) (nulls_built record { dtype = b.dtype; length = c.args.len })) c.self.view_is
    (cut_nulls b.dtype b.length c.args.len (subst (λ a. c.args.len ≤ a.length) (sym c.self.view_is) c.requires))
