-- What a plain source and a plain sink show.
use Rattle.std.specs.Prelude.{ℕ, ◌-◌, List, length, take, drop}
use Rattle.jobs.specs.declared.plain.PlainSource.{PlainSource}
use Rattle.jobs.specs.declared.plain.PlainSink.{PlainSink}

-- the bytes still to come
abbrev pub plain_left : PlainSource → List ℕ
plain_left s = drop s.at s.bytes.items

-- the part written so far
abbrev pub plain_held : PlainSink → List ℕ
plain_held s = take s.len s.buffer.items

-- how many more bytes there is room for
abbrev pub plain_room : PlainSink → ℕ
plain_room s = length s.buffer.items - s.len

abbrev pub plain_faults : PlainSink → ℕ
plain_faults s = s.faults
