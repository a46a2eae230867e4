use Rattle.std.proofs.Common.{map, subst}
use Rattle.arrow_flat.specs.Natives.{octets}
use Rattle.arrow_views.specs.ViewArrays.{IsSound}
use Rattle.arrow_views.proofs.Windows.{sound_parts, stored_flat}
use Rattle.arrow_views.proofs.view_array.BinaryViewArrayGeneric.invariant.Goals as goal

pub returns : goal.returns
returns g c =
    let a = c.self.inside in
    let text = g.T.ViewType.IS_TEXT in
    subst (λ a. IsSound text a.dtype a.mask a.views a.buffers) c.self.view_is
    (sound_parts text a.dtype a.validity a.views (map octets a.buffers.items) c.self.invariant c.invariant.ensures
    (c.invariant-2.ensures (stored_flat text _ c.self.invariant.laid.stored)))
