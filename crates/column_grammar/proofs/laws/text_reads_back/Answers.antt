use Rattle.column_grammar.proofs.TextBack.{text_reads, line_is_utf8}
use Rattle.column_grammar.proofs.laws.text_reads_back.Goals as goal

pub returns-clause-utf8 : goal.returns-clause-utf8
returns-clause-utf8 c = line_is_utf8

pub returns-clause-value : goal.returns-clause-value
returns-clause-value c = text_reads
