use Rattle.std.proofs.Common.{◌≡◌, Some, None, if◌then◌else◌, ap, sym, ◌∙◌}
use Rattle.arrow_buffers.specs.Bits.{count_unset}
use Rattle.arrow_buffers.proofs.Bytes.{none_unset, some_unset}
use Rattle.arrow_buffers.proofs.bitmap.Bitmap.into_opt_validity.Goals as goal

pub returns-then-unset_bits-eq0 : goal.returns-then-unset_bits-eq0
returns-then-unset_bits-eq0 c =
    let u : count_unset c.args.self.bits ≡ 0 = sym c.unset_bits.ensures ∙ c.if-unset_bits-eq0.true in
    sym (ap (λ all. if all then None else Some c.args.self) (none_unset c.args.self.bits u))

pub returns : goal.returns
returns c =
    sym (ap (λ all. if all then None else Some c.args.self)
    (some_unset c.args.self.bits (λ u. c.if-unset_bits-eq0.false (c.unset_bits.ensures ∙ u))))
