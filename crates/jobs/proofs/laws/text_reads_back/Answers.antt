use Rattle.column_grammar.proofs.ColumnBack.{column_back}
use Rattle.column_grammar.proofs.TextBack.{text_reads, line_is_utf8}
use Rattle.jobs.proofs.Readings.{reading_some}
use Rattle.jobs.proofs.laws.text_reads_back.Goals as goal

pub returns-clause-reading : goal.returns-clause-reading
returns-clause-reading c = λ l w h. reading_some _ _ (line_is_utf8 l w h) (text_reads l w h)

pub returns-clause-column : goal.returns-clause-column
returns-clause-column c = column_back
