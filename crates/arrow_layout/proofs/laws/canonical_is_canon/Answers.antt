use Rattle.arrow_layout.proofs.Unique.{canonical-is_canon}
use Rattle.arrow_layout.proofs.laws.canonical_is_canon.Goals as goal

pub returns : goal.returns
returns c = canonical-is_canon
