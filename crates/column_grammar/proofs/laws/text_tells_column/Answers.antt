use Rattle.column_grammar.proofs.TextBack.{text_tells}
use Rattle.column_grammar.proofs.laws.text_tells_column.Goals as goal

pub returns : goal.returns
returns c = text_tells
