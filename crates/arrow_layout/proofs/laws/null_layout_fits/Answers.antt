use Rattle.arrow_layout.proofs.NullsFit.{fit_nulls, nulls_fit}
use Rattle.arrow_layout.proofs.laws.null_layout_fits.Goals as goal

pub returns : goal.returns
returns c = λ t n s. (fit_nulls t n, nulls_fit t n s)
