use Rattle.type_json.proofs.Told.{told_written}
use Rattle.type_json.proofs.Written.{line_reads, line_utf8}
use Rattle.type_json.proofs.laws.value_reads_back.Goals as goal

pub returns-clause-utf8 : goal.returns-clause-utf8
returns-clause-utf8 c = λ d h. line_utf8 d (told_written d h)

pub returns-clause-value : goal.returns-clause-value
returns-clause-value c = λ d h deep. line_reads d (told_written d h) deep
