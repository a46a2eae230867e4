use Rattle.column_grammar.proofs.ColumnBack.{column_back}
use Rattle.column_grammar.proofs.laws.column_reads_back.Goals as goal

pub returns : goal.returns
returns c = column_back
