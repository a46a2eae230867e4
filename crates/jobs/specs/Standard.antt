-- What the standard ends show.
use Rattle.std.specs.Prelude.{ℕ}
use Rattle.jobs.specs.declared.standard.StdSource.{StdSource}
use Rattle.jobs.specs.declared.standard.StdSink.{StdSink}

-- how often a read has failed
abbrev pub std_source_faults : {R : Type 0} → StdSource R → ℕ
std_source_faults s = s.faults

-- how often a write has failed
abbrev pub std_sink_faults : {W : Type 0} → StdSink W → ℕ
std_sink_faults s = s.faults
