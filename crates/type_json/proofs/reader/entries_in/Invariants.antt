use Rattle.std.proofs.Common.{◌≡◌, []}
use Rattle.serde_json.specs.View.{members_view}
use Rattle.type_json.specs.TypeJson.{entries_in}
use Rattle.type_json.proofs.reader.entries_in.Given as goal

-- the members that are left, behind the entries so far
abbrev pub invariant-loop-key : goal.invariant-loop-key
invariant-loop-key l = entries_in (members_view l.members.entries) [] ≡ entries_in (members_view l.key-iterator) l.map.entries
