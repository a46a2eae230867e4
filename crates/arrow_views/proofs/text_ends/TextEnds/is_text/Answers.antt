use Rattle.std.proofs.Common.{◌≡◌, ◌<◌, ◌≤◌, ◌%◌, false, true, List, ℕ, length, get_or, sym, ◌∙◌, subst, arith, eq-eqb}
use Rattle.std.proofs.lemmas.List.{length-map}
use Rattle.arrow_flat.specs.Natives.{octets}
use Rattle.arrow_views.specs.TextEnds.{EndsAround, AreTextEnds}
use Rattle.arrow_views.proofs.TextRanges.{not_past, text_to_end, text_before, text_begins, text_ends}
use Rattle.arrow_views.proofs.text_ends.TextEnds.is_text.Goals as goal

clash : false ≡ true → ⊥
clash e = cc

within : (bytes : List ℕ) (b : ℕ) → b ≤ length bytes → b ≤ length (octets bytes)
within bytes b l = omega (arith, length-map bytes (λ c. c % 256), l)

ends : (bytes ts : List ℕ) (a b t : ℕ) → AreTextEnds (octets bytes) ts → a < b → b ≤ length bytes → t ≡ get_or ts a 0 → EndsAround (octets bytes) a t
ends bytes ts a b t h l m e = subst (EndsAround (octets bytes) a) (sym e) (h.around a (omega (arith, within bytes b m)))

pub returns-then-end-text_end : goal.returns-then-end-text_end
returns-then-end-text_end c =
    let bs = octets c.args.bytes.now in
    let h = ends c.args.bytes.now c.args.self.now c.args.start c.args.end c.end_at-text_end.result c.requires.ends c.requires.some c.requires.within c.end_at-text_end.ensures in
    let w = within c.args.bytes.now c.args.end c.requires.within in
    (λ e. absurd (clash e), λ u. absurd (not_past bs c.args.start c.args.end c.end_at-text_end.result h c.requires.some w c.if-end-text_end.true u))

pub returns-then-end-text_end-2 : goal.returns-then-end-text_end-2
returns-then-end-text_end-2 c =
    let bs = octets c.args.bytes.now in
    let h = ends c.args.bytes.now c.args.self.now c.args.start c.args.end c.end_at-text_end.result c.requires.ends c.requires.some c.requires.within c.end_at-text_end.ensures in
    let w = within c.args.bytes.now c.args.end c.requires.within in
    (λ e. text_to_end bs c.args.start c.args.end c.end_at-text_end.result h c.requires.some w c.if-end-text_end-2.true (c.is_border.ensures.0 c.if-is_border.true), λ u. eq-eqb c.args.end c.end_at-text_end.result c.if-end-text_end-2.true)

pub returns-else-end-text_end-2 : goal.returns-else-end-text_end-2
returns-else-end-text_end-2 c =
    let bs = octets c.args.bytes.now in
    let h = ends c.args.bytes.now c.args.self.now c.args.start c.args.end c.end_at-text_end.result c.requires.ends c.requires.some c.requires.within c.end_at-text_end.ensures in
    let w = within c.args.bytes.now c.args.end c.requires.within in
    let before : c.args.end < c.end_at-text_end.result = omega (arith, c.if-end-text_end.false, c.if-end-text_end-2.false) in (
      λ e.
          text_before bs c.args.start c.args.end c.end_at-text_end.result h c.requires.some w before (c.is_border.ensures.0 c.if-is_border.true)
          (c.is_border-else-end-text_end-2.ensures.0 e),
      λ u. c.is_border-else-end-text_end-2.ensures.1 (text_ends bs c.args.start c.args.end c.end_at-text_end.result h c.requires.some w before u),
    )

pub returns-else-is_border : goal.returns-else-is_border
returns-else-is_border c =
    let bs = octets c.args.bytes.now in
    let h = ends c.args.bytes.now c.args.self.now c.args.start c.args.end c.end_at-text_end.result c.requires.ends c.requires.some c.requires.within c.end_at-text_end.ensures in
    let w = within c.args.bytes.now c.args.end c.requires.within in
    (λ e. absurd (clash (sym c.if-is_border.false ∙ e)), λ u. c.is_border.ensures.1 (text_begins bs c.args.start c.args.end c.end_at-text_end.result h c.requires.some w u))
