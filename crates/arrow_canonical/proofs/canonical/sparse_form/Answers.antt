use Rattle.std.proofs.Common.{◌≡◌, ◌↔◌, IsTrue}
use Rattle.arrow_layout.specs.Canonical.{AreSelected}
use Rattle.arrow_layout.specs.Layouts.{layouts}
use Rattle.arrow_canonical.specs.Counted.{AllElsewhere}
use Rattle.arrow_canonical.proofs.Children.{ok_then}
use Rattle.arrow_canonical.proofs.Parts.{selected_is}
use Rattle.arrow_canonical.proofs.canonical.sparse_form.Goals as goal

pub returns : goal.returns
returns c =
    let fs = c.args.fields.now in
    let ls = c.args.children.now in
    let both = selected_is fs ls c.requires in
    ok_then c.all_elsewhere.result (λ b. IsTrue b ↔ AllElsewhere fs ls) (λ b. IsTrue b ↔ ((c.args.shift ≡ 0) × AreSelected 0 fs (layouts ls)))
    (λ b h. (λ t. (c.if-shift-ne0.false, both.0 (h.0 t)), λ q. h.1 (both.1 q.1))) c.all_elsewhere.ensures
