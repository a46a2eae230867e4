use Rattle.std.proofs.Common.{◌+◌, ◌%◌, ◌<◌, ◌≤◌, [], false, true, List, ℕ, length, get_or, map, ap, sym, ◌∙◌, subst, arith}
use Rattle.std.specs.Prelude.{◌≡◌, IsUtf8}
use Rattle.std.specs.Str.{IsCharBoundary}
use Rattle.std.proofs.lemmas.List.{length-map}
use Rattle.arrow_flat.specs.Natives.{octets}
use Rattle.arrow_flat.specs.Pieces.{AreTexts}
use Rattle.arrow_flat.specs.Views.{View, IsView, view_bytes, view_length}
use Rattle.arrow_views.specs.ViewParts.{buffer_of, offset_of}
use Rattle.arrow_views.proofs.Borders.{part_text, part_begins, part_ends, text_of}
use Rattle.arrow_views.proofs.Checks.{named_within, named_bytes, any_default}
use Rattle.arrow_views.proofs.text.has_borders.Goals as goal

clash : false ≡ true → ⊥
clash e = cc

-- at both ends, and at one
module _ (raw : List (List ℕ)) (v : View) (bytes : List ℕ) where
  borders : 12 < view_length v → IsView (map octets raw) v → AreTexts (map octets raw) → bytes ≡ get_or raw (buffer_of v) [] → (s e : ℕ) → s ≡ offset_of v → e ≡ s + view_length v
      → (IsCharBoundary (octets bytes) s → IsCharBoundary (octets bytes) e → IsUtf8 (view_bytes (map octets raw) v))
      × (IsUtf8 (view_bytes (map octets raw) v) → IsCharBoundary (octets bytes) s × IsCharBoundary (octets bytes) e)
  borders l h t item s e at to =
      let within = named_within raw v l h in
      let bs = octets (get_or raw (buffer_of v) []) in
      let o = offset_of v in
      let n = view_length v in
      let text = text_of raw (buffer_of v) t within.0 in
      let end : e ≡ o + n = omega arith in
      let room : o + n ≤ length bs = (let w = within.1 in omega (arith, length-map (get_or raw (buffer_of v) []) (λ b. b % 256))) in (
        λ a b.
            subst IsUtf8 (sym (named_bytes raw v l h))
            (part_text bs o n text (subst (λ bs. IsCharBoundary bs o) (ap octets item) (subst (IsCharBoundary (octets bytes)) at a))
            (subst (λ bs. IsCharBoundary bs (o + n)) (ap octets item) (subst (IsCharBoundary (octets bytes)) end b))),
        λ u.
            let part = subst IsUtf8 (named_bytes raw v l h) u in (
              subst (IsCharBoundary (octets bytes)) (sym at) (subst (λ bs. IsCharBoundary bs o) (sym (ap octets item)) (part_begins bs o n (omega arith) room part)),
              subst (IsCharBoundary (octets bytes)) (sym end) (subst (λ bs. IsCharBoundary bs (o + n)) (sym (ap octets item)) (part_ends bs o n (omega arith) room text part)),
            ),
      )

pub returns-then-is_border : goal.returns-then-is_border
returns-then-is_border c =
    let raw = c.args.buffers.now in
    let v = c.args.view.now in
    let here = subst (λ k. k < length raw) (sym c.buffer.ensures) (named_within raw v c.requires.long c.requires.view).0 in
    let item : c.as_slice-bytes.result.now ≡ get_or raw (buffer_of v) [] =
    c.as_slice-bytes.ensures ∙ c.index-buffers-buffer.is ∙ any_default raw c.buffer.result c.index-buffers-buffer.result [] here ∙ ap (λ k. get_or raw k []) c.buffer.ensures in
    let both = borders raw v c.as_slice-bytes.result.now c.requires.long c.requires.view c.requires.whole item c.offset-start.result (c.offset-start.result + c.length.result)
    c.offset-start.ensures (ap (λ n. c.offset-start.result + n) c.length.ensures.value) in
    (λ e. both.0 (c.is_border.ensures.0 c.if-is_border.true) (c.is_border-then-is_border.ensures.0 e), λ u. c.is_border-then-is_border.ensures.1 (both.1 u).1)

pub returns-else-is_border : goal.returns-else-is_border
returns-else-is_border c =
    let raw = c.args.buffers.now in
    let v = c.args.view.now in
    let here = subst (λ k. k < length raw) (sym c.buffer.ensures) (named_within raw v c.requires.long c.requires.view).0 in
    let item : c.as_slice-bytes.result.now ≡ get_or raw (buffer_of v) [] =
    c.as_slice-bytes.ensures ∙ c.index-buffers-buffer.is ∙ any_default raw c.buffer.result c.index-buffers-buffer.result [] here ∙ ap (λ k. get_or raw k []) c.buffer.ensures in
    let both = borders raw v c.as_slice-bytes.result.now c.requires.long c.requires.view c.requires.whole item c.offset-start.result (c.offset-start.result + c.length.result)
    c.offset-start.ensures (ap (λ n. c.offset-start.result + n) c.length.ensures.value) in
    (λ e. absurd (clash (sym c.if-is_border.false ∙ e)), λ u. c.is_border.ensures.1 (both.1 u).0)
