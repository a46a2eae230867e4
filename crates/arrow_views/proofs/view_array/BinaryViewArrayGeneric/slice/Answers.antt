use Rattle.std.proofs.Common.{◌+◌, ◌≤◌, length, map, sym, subst}
use Rattle.arrow_flat.specs.Natives.{octets}
use Rattle.arrow_views.proofs.Windows.{sound_window}
use Rattle.arrow_views.proofs.view_array.BinaryViewArrayGeneric.slice.Goals as goal

pub invariant_of-self : goal.invariant_of-self
invariant_of-self g c =
    let old = c.self.inside in
    let range = subst (λ a. c.args.offset + c.args.length ≤ length a.views) (sym c.self.view_is) c.requires in
    sound_window g.T.ViewType.IS_TEXT old.dtype old.validity c.slice_mask.new.validity old.views c.slice.new.self (map octets old.buffers.items) c.args.offset c.args.length
    c.self.invariant range c.slice_mask.ensures c.slice.ensures
