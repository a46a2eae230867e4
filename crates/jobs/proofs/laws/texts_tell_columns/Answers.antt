use Rattle.jobs.proofs.Equal.{equal_texts, same_texts}
use Rattle.jobs.proofs.laws.texts_tell_columns.Goals as goal

pub returns : goal.returns
returns c = λ t u s r ht hu hs hr fs fr ms mr. (equal_texts t u s r ht hu hs hr fs fr ms mr, same_texts t u s r)
