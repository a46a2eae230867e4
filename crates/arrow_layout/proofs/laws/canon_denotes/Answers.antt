use Rattle.arrow_layout.proofs.Denotes.{denote_canon}
use Rattle.arrow_layout.proofs.laws.canon_denotes.Goals as goal

pub returns : goal.returns
returns c = denote_canon
