use Rattle.type_json.proofs.Told.{told_written}
use Rattle.type_json.proofs.Written.{line_reads, line_utf8}
use Rattle.jobs.proofs.Readings.{reading_some}
use Rattle.jobs.proofs.laws.value_reads_back.Goals as goal

pub returns : goal.returns
returns c = λ d h deep. reading_some _ d (line_utf8 d (told_written d h)) (line_reads d (told_written d h) deep)
