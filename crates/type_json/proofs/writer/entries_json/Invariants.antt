use Rattle.std.proofs.Common.{◌≡◌}
use Rattle.serde_json.specs.Data.{no_members}
use Rattle.serde_json.specs.View.{members_view}
use Rattle.type_json.specs.TypeJson.{with_entries}
use Rattle.type_json.proofs.writer.entries_json.Given as goal

-- the entries that are left, put behind the members so far
abbrev pub invariant-loop-key : goal.invariant-loop-key
invariant-loop-key l = with_entries l.metadata.entries no_members ≡ with_entries l.key-iterator (members_view l.map.entries)
