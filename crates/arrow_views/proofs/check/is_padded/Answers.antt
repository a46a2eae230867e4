use Rattle.std.proofs.Common.{◌+◌, ◌-◌, length, take, drop, ap, ◌∙◌}
use Rattle.arrow_views.proofs.Checks.{padded, sixteen, all_rest}
use Rattle.arrow_views.proofs.check.is_padded.Goals as goal

pub returns : goal.returns
returns c =
    λ buffers.
    let many = ap length c.as_bytes.ensures.bytes ∙ sixteen c.args.view.now c.as_bytes.ensures.placed in
    padded c.are_zeros.result c.args.view.now c.length-length.result (take (16 - (4 + c.length-length.result)) (drop (4 + c.length-length.result) c.as_bytes.result.now)) buffers c.as_bytes.ensures.placed c.requires
    c.length-length.ensures.value (all_rest (4 + c.length-length.result) 16 c.as_bytes.result.now many ∙ ap (drop (4 + c.length-length.result)) c.as_bytes.ensures.bytes) c.are_zeros.ensures
