use Rattle.type_json.proofs.TypeBack.{type_back}
use Rattle.type_json.proofs.TypeDepth.{type_depth}
use Rattle.type_json.proofs.laws.type_reads_back.Goals as goal

pub returns-clause-spelled : goal.returns-clause-spelled
returns-clause-spelled c = λ t h. type_back t h

pub returns-clause-depth : goal.returns-clause-depth
returns-clause-depth c = λ t h. type_depth t h
