-- What a source and a sink over memory show.
use Rattle.std.specs.Prelude.{ℕ, ◌-◌, List, length, take, drop}
use Rattle.jobs.specs.declared.memory.MemorySource.{MemorySource}
use Rattle.jobs.specs.declared.memory.MemorySink.{MemorySink}

-- the bytes still to come
abbrev pub source_left : MemorySource → List ℕ
source_left s = drop s.at s.bytes.items

abbrev pub source_faults : MemorySource → ℕ
source_faults s = s.faults

-- how many reads were called
abbrev pub source_calls : MemorySource → ℕ
source_calls s = s.calls

-- the most bytes that a read gives
abbrev pub source_piece : MemorySource → ℕ
source_piece s = s.piece

-- the numbers of the reads that fail
abbrev pub source_fails : MemorySource → List ℕ
source_fails s = s.fails.items

-- the bytes taken so far
abbrev pub sink_held : MemorySink → List ℕ
sink_held s = take s.len s.buffer.items

-- how many more bytes there is room for
abbrev pub sink_room : MemorySink → ℕ
sink_room s = length s.buffer.items - s.len

abbrev pub sink_faults : MemorySink → ℕ
sink_faults s = s.faults

-- how many writes were called
abbrev pub sink_calls : MemorySink → ℕ
sink_calls s = s.calls

-- the most bytes that a write takes
abbrev pub sink_piece : MemorySink → ℕ
sink_piece s = s.piece

-- the numbers of the writes that fail
abbrev pub sink_fails : MemorySink → List ℕ
sink_fails s = s.fails.items
