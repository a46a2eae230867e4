use Rattle.std.proofs.Common.{ap, sym, ◌∙◌}
use Rattle.arrow_types.specs.Seen.{seen}
use Rattle.arrow_types.proofs.Back.{seen_one}
use Rattle.arrow_choice.proofs.dictionary.is_integer_type.Goals as goal

pub returns : goal.returns
returns c = (
  λ h. ap seen (c.is_same.ensures.0 h) ∙ c.from.ensures,
  λ e. c.is_same.ensures.1 (seen_one c.args.dtype.now c.from.result (e ∙ sym c.from.ensures)),
)
