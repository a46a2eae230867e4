use Rattle.arrow_layout.proofs.CutDenotes.{denote-cut}
use Rattle.arrow_layout.proofs.laws.cut_denotes.Goals as goal

pub returns : goal.returns
returns c = denote-cut
