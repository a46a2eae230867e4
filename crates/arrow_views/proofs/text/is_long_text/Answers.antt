use Rattle.std.proofs.Common.{◌≡◌, ◌+◌, ◌-◌, ◌<◌, [], List, ℕ, length, get_or, take, drop, map, ap, sym, ◌∙◌, subst, arith}
use Rattle.std.specs.Prelude.{IsUtf8}
use Rattle.arrow_flat.specs.Natives.{octets}
use Rattle.arrow_flat.specs.Views.{View, IsView, view_bytes, view_length}
use Rattle.arrow_views.specs.TextEnds.{AreTextEnds}
use Rattle.arrow_views.specs.ViewParts.{buffer_of, offset_of}
use Rattle.arrow_views.proofs.Checks.{named_within, named_bytes, any_default}
use Rattle.arrow_views.proofs.text.is_long_text.Goals as goal

-- the range is the value
module _ (raw : List (List ℕ)) (v : View) (bytes : List ℕ) (b s n : ℕ) (l : 12 < view_length v) (h : IsView (map octets raw) v) where
  range : b ≡ buffer_of v → bytes ≡ get_or raw b [] → s ≡ offset_of v → n ≡ view_length v
      → take (s + n - s) (drop s (octets bytes)) ≡ view_bytes (map octets raw) v
  range at item from many =
      let q : s + n - s ≡ view_length v = omega arith in
      ap (λ k. take k (drop s (octets bytes))) q
      ∙ ap (λ k. take (view_length v) (drop k (octets bytes))) from
      ∙ ap (λ bs. take (view_length v) (drop (offset_of v) (octets bs))) (item ∙ ap (λ k. get_or raw k []) at)
      ∙ sym (named_bytes raw v l h)

  here : b ≡ buffer_of v → b < length raw
  here at = subst (λ k. k < length raw) (sym at) (named_within raw v l h).0

pub is_text-requires-clause-ends : goal.is_text-requires-clause-ends
is_text-requires-clause-ends c =
    let raw = c.args.buffers.now in
    let b = c.buffer-number.result in
    let at = here raw c.args.view.now c.as_slice-bytes.result.now b 0 0 c.requires.long c.requires.view c.buffer-number.ensures in
    let item : c.as_slice-bytes.result.now ≡ get_or raw b [] =
    c.as_slice-bytes.ensures ∙ c.index-buffers-number.is ∙ any_default raw b c.index-buffers-number.result [] at in
    let end : c.index-ends-number.result ≡ get_or c.args.ends.now b [] =
    c.index-ends-number.is ∙ any_default c.args.ends.now b c.index-ends-number.result [] (omega (arith, at, c.requires.ends.count)) in
    subst (λ e. AreTextEnds (octets c.as_slice-bytes.result.now) e) (sym end)
    (subst (λ bs. AreTextEnds (octets bs) (get_or c.args.ends.now b [])) (sym item) (c.requires.ends.each b at))

pub returns : goal.returns
returns c =
    let raw = c.args.buffers.now in
    let v = c.args.view.now in
    let b = c.buffer-number.result in
    let at = here raw v c.as_slice-bytes.result.now b 0 0 c.requires.long c.requires.view c.buffer-number.ensures in
    let item : c.as_slice-bytes.result.now ≡ get_or raw b [] =
    c.as_slice-bytes.ensures ∙ c.index-buffers-number.is ∙ any_default raw b c.index-buffers-number.result [] at in
    let same = range raw v c.as_slice-bytes.result.now b c.offset-start.result c.length.result c.requires.long c.requires.view c.buffer-number.ensures item c.offset-start.ensures c.length.ensures.value in
    (λ e. subst IsUtf8 same (c.is_text.ensures.0 e), λ u. c.is_text.ensures.1 (subst IsUtf8 (sym same) u))
