use Rattle.std.proofs.Common.{◌<◌, [], length, get_or, ap, sym, ◌∙◌, subst}
use Rattle.std.specs.Prelude.{◌≡◌}
use Rattle.arrow_flat.specs.Natives.{octets}
use Rattle.arrow_flat.specs.Views.{view_length}
use Rattle.arrow_views.specs.ViewParts.{buffer_of, offset_of}
use Rattle.arrow_views.proofs.Checks.{named_within, named_bytes, any_default, part_at, octets_part}
use Rattle.arrow_views.proofs.text.long_value.Goals as goal

pub returns : goal.returns
returns c =
    let raw = c.args.buffers.now in
    let v = c.args.view.now in
    let within = named_within raw v c.requires.long c.requires.view in
    let here = subst (λ k. k < length raw) (sym c.buffer.ensures) within.0 in
    let item : c.as_slice-bytes.result.now ≡ get_or raw (buffer_of v) [] =
    c.as_slice-bytes.ensures ∙ c.index-buffers-buffer.is ∙ any_default raw c.buffer.result c.index-buffers-buffer.result [] here ∙ ap (λ k. get_or raw k []) c.buffer.ensures in
    ap octets (part_at c.offset-start.result c.length.result (offset_of v) (view_length v) c.as_slice-bytes.result.now (get_or raw (buffer_of v) []) c.offset-start.ensures c.length.ensures.value item)
    ∙ octets_part (view_length v) (offset_of v) (get_or raw (buffer_of v) []) ∙ sym (named_bytes raw v c.requires.long c.requires.view)
