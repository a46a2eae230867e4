-- Parts of arrays of slots that say nothing.
use Rattle.std.specs.Prelude.{ℕ, ◌<◌, ◌≤◌, ℤ, List, Option, Some, None, ⊤}
use Rattle.arrow_types.specs.Carried.{AreIds, count_fields}
use Rattle.arrow_types.specs.TypeData.{TypeData}
use Rattle.arrow_types.specs.TypeData as T
use Rattle.arrow_types.specs.declared.datatype.UnionMode.{UnionMode}
use Rattle.arrow_types.specs.declared.datatype.UnionMode.TheVariants.{Dense, Sparse}
use Rattle.arrow_flat.specs.Natives.{IsNative}
use Rattle.arrow_layout.specs.Forms.{Form, nulls_of, booleans_of, primitives_of, binaries_of, views_of}
use Rattle.arrow_layout.specs.NullLayout.{count_from}

-- The forms of arrays without children, but for those of fixed-size values.
abbrev pub IsSimple : Form → Type 0
IsSimple nulls_of = ⊤
IsSimple booleans_of = ⊤
IsSimple (primitives_of p) = IsNative p
IsSimple (binaries_of large text) = ⊤
IsSimple (views_of text) = ⊤
IsSimple _ = ⊥

-- The offsets of n slots of a union, where it has offsets.
abbrev pub null_dense_offsets : UnionMode → ℕ → Option (List ℤ)
null_dense_offsets Dense n = Some (count_from 0 n)
null_dense_offsets Sparse n = None

-- A union has 1 to 127 fields, and no ids or one from 0 to 127 for each field.
abbrev pub HasLegalFields : TypeData → Type 0
HasLegalFields (T.union fs ids mode) = (0 < count_fields fs) × (count_fields fs ≤ 127) × AreIds ids (count_fields fs)
HasLegalFields _ = ⊥
