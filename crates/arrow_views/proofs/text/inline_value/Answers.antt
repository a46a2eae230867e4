use Rattle.std.proofs.Common.{◌+◌, ◌-◌, take, drop, ap, ◌∙◌}
use Rattle.arrow_flat.specs.Natives.{octets}
use Rattle.arrow_views.proofs.Checks.{inline_octets}
use Rattle.arrow_views.proofs.text.inline_value.Goals as goal

pub returns : goal.returns
returns c =
    λ buffers.
    ap (λ bs. octets (take (4 + c.length-length.result - 4) (drop 4 bs))) c.as_bytes.ensures.bytes
    ∙ inline_octets c.args.view.now c.length-length.result buffers c.as_bytes.ensures.placed c.requires c.length-length.ensures.value
