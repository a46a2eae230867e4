use Rattle.std.proofs.Common.{◌≡◌, map, subst, rules}
use Rattle.arrow_flat.specs.Natives.{octets}
use Rattle.arrow_views.specs.ViewArrays.{Refused, RefusedIn}
use Rattle.arrow_types.specs.declared.error.PolarsError.TheVariants.{ComputeError}
use Rattle.column_read.proofs.BadViews.{bad_views}
use Rattle.column_read.proofs.view.view_array.Goals as goal

pub returns-in-Err-ComputeError : goal.returns-in-Err-ComputeError
returns-in-Err-ComputeError g c = λ _ w.
    let buffers = map octets c.args.parts.buffers.items in
    let error = ComputeError c.in-Err-ComputeError.field-0-0 in
    let is : c.in-Err-ComputeError.field-0 ≡ error = search rules in
    let refused : Refused error g.T.ViewType.IS_TEXT c.args.dtype c.args.parts.validity c.in_ok-views.views buffers =
    subst (λ e. RefusedIn e g.T.ViewType.IS_TEXT c.args.dtype c.args.parts.validity c.in_ok-views.views buffers) is c.in-Err-ComputeError.ensures in
    bad_views error g.T.ViewType.IS_TEXT c.args.dtype c.args.parts.validity c.args.parts.views.items buffers c.requires
    (subst (λ vs. Refused error g.T.ViewType.IS_TEXT c.args.dtype c.args.parts.validity vs buffers) c.in_ok-views.ensures refused) w
