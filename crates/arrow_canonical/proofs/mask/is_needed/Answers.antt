use Rattle.std.proofs.Common.{◌↔◌, IsTrue, sym, subst, ◌∙◌}
use Rattle.std.specs.Prelude.{nat_lt}
use Rattle.std.specs.Option.{option_copied}
use Rattle.arrow_layout.specs.Canonical.{MaskIsNeeded}
use Rattle.arrow_canonical.proofs.Nulls.{needed}
use Rattle.arrow_canonical.proofs.mask.is_needed.Goals as goal

pub returns-then-lead-eq0 : goal.returns-then-lead-eq0
returns-then-lead-eq0 c =
    let b = c.in-Some.bits.now in
    subst (λ m. IsTrue (nat_lt 0 c.unset_bits.result) ↔ MaskIsNeeded (option_copied m)) (sym c.in-Some.is)
    (needed b c.unset_bits.result (sym c.lead.ensures.value ∙ c.if-lead-eq0.true) c.unset_bits.ensures)
