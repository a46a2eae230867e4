use Rattle.std.proofs.Common.{ap, sym, ◌∙◌, arith}
use Rattle.arrow_flat.specs.Views.{inline_view}
use Rattle.arrow_views.specs.ViewBytes.{bytes_from, octets_same, inline_seen, zeros_behind}
use Rattle.arrow_views.proofs.view.View.new_inline.Goals as goal

pub returns : goal.returns
returns c =
    let value = c.args.value.now in
    let small = bytes_from value (λ i l. omega (arith, c.type_inv.value i)) in
    rw c.copy_from_slice.ensures.after (inline_seen value _ c.requires ∙ zeros_behind value c.requires ∙ ap inline_view (sym (octets_same value small)))
