use Rattle.std.proofs.Common.{◌+◌, ◌-◌, ◌<◌, ◌≤◌, [], length, get_or, take, drop, ap, ◌∙◌, subst, arith}
use Rattle.std.specs.Prelude.{◌≡◌}
use Rattle.arrow_flat.specs.Views.{view_length}
use Rattle.arrow_views.specs.ViewParts.{buffer_of, offset_of}
use Rattle.arrow_views.proofs.Checks.{stands, any_default, part_at}
use Rattle.arrow_views.proofs.check.is_within.Goals as goal

pub returns-then-end-bytes : goal.returns-then-end-bytes
returns-then-end-bytes c =
    let raw = c.args.buffers.now in
    let v = c.args.view.now in
    let start = c.offset-start.result in
    let n = c.length.result in
    let within : c.buffer-number.result < length raw = omega (arith, c.if-number-buffers.false) in
    let item : c.as_slice-bytes.result.now ≡ get_or raw (buffer_of v) [] =
    c.as_slice-bytes.ensures ∙ c.index-buffers-number.is ∙ any_default raw c.buffer-number.result c.index-buffers-number.result [] within
    ∙ ap (λ k. get_or raw k []) c.buffer-number.ensures in
    let named = subst (λ k. k < length raw) c.buffer-number.ensures within in
    let end : offset_of v + view_length v ≤ length (get_or raw (buffer_of v) []) =
    (let o = c.offset-start.ensures in let l = c.length.ensures.value in let e = c.if-end-bytes.true in let many = ap length item in omega arith) in
    stands raw c.begins_with_prefix.result v (take (start + n - start) (drop start c.as_slice-bytes.result.now)) c.length.ensures.placed c.requires named end
    (part_at start n (offset_of v) (view_length v) c.as_slice-bytes.result.now (get_or raw (buffer_of v) []) c.offset-start.ensures c.length.ensures.value item)
    c.begins_with_prefix.ensures
