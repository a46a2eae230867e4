use Rattle.std.proofs.Common.{sym, ◌∙◌}
use Rattle.std.proofs.lemmas.Bool.{false≢true}
use Rattle.jobs.proofs.Readings.{reading_some, reading_none}
use Rattle.jobs.proofs.job.parse.Goals as goal

pub returns-in-Ok-clause-ok : goal.returns-in-Ok-clause-ok
returns-in-Ok-clause-ok c = let h = c.in-Ok.ensures.ok in reading_some _ _ h.0 h.1

pub returns-else-is_memory-clause-bad : goal.returns-else-is_memory-clause-bad
returns-else-is_memory-clause-bad c = λ command. (c.requires, reading_none _ (c.in-Err.ensures.err (λ e. false≢true (sym c.if-is_memory.false ∙ c.is_memory.ensures.1 e))))
