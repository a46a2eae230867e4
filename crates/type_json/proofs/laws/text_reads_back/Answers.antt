use Rattle.std.proofs.Common.{arith}
use Rattle.type_json.specs.TypeJson.{type_value}
use Rattle.type_json.proofs.TypeDepth.{type_depth}
use Rattle.type_json.proofs.TypeWritten.{type_written}
use Rattle.type_json.proofs.Written.{line_reads, line_utf8}
use Rattle.type_json.proofs.laws.text_reads_back.Goals as goal

pub returns-clause-utf8 : goal.returns-clause-utf8
returns-clause-utf8 c = λ t h k. line_utf8 (type_value t) (type_written t h k)

pub returns-clause-value : goal.returns-clause-value
returns-clause-value c = λ t h k d. line_reads (type_value t) (type_written t h k) (omega (arith, type_depth t h, d))
