-- A type that columns have has a spelling, where it is a type.
use Rattle.std.proofs.Common.{◌<◌, ◌≡◌, ℕ, subst}
use Rattle.arrow_types.specs.TypeData.{TypeData, FieldList, no_fields, and_field}
use Rattle.arrow_types.specs.TypeData as T
use Rattle.arrow_types.specs.Carried.{IsCarried, AreCarried}
use Rattle.type_json.specs.TypeJson.{IsSpelled, AreSpelled, IsType, AreFields}
use Rattle.arrow_layout.specs.Forms.{form_of, fixed_size_binaries_of}

mutual
  pub type_spelled : (t : TypeData) → IsCarried t → IsType t → IsSpelled t
  type_spelled (T.extension n t m) h k = type_spelled t h k.1
  type_spelled (T.decimal p s) h k = h
  type_spelled (T.fixed_size_binary n) h k = h.1
  type_spelled (T.list (T.field n t b m)) h k = (type_spelled t h k.1, k.0.1.0)
  type_spelled (T.large_list (T.field n t b m)) h k = (type_spelled t h k.1, k.0.1.0)
  type_spelled (T.fixed_size_list (T.field n t b m) c) h k = (h.0, (type_spelled t h.1 k.1, k.0.1.0))
  type_spelled (T.struct fs) h k = fields_spelled fs h k
  type_spelled (T.map (T.field n t b m) o) h k = (type_spelled t h.1 k.1, k.0.1.0)
  type_spelled (T.union fs is mode) h k = (k.0, fields_spelled fs h.3 k.1)
  type_spelled (T.dictionary key t o) h k = type_spelled t h k
  type_spelled T.float16 h k = absurd h
  type_spelled T.float32 h k = absurd h
  type_spelled T.float64 h k = absurd h
  type_spelled (T.decimal256 p s) h k = absurd h
  type_spelled T.unknown h k = absurd h
  type_spelled T.null h k = tt
  type_spelled T.boolean h k = tt
  type_spelled T.int8 h k = tt
  type_spelled T.int16 h k = tt
  type_spelled T.int32 h k = tt
  type_spelled T.int64 h k = tt
  type_spelled T.int128 h k = tt
  type_spelled T.uint8 h k = tt
  type_spelled T.uint16 h k = tt
  type_spelled T.uint32 h k = tt
  type_spelled T.uint64 h k = tt
  type_spelled (T.timestamp u z) h k = tt
  type_spelled T.date32 h k = tt
  type_spelled T.date64 h k = tt
  type_spelled (T.time32 u) h k = tt
  type_spelled (T.time64 u) h k = tt
  type_spelled (T.duration u) h k = tt
  type_spelled (T.interval i) h k = tt
  type_spelled T.binary h k = tt
  type_spelled T.large_binary h k = tt
  type_spelled T.utf8 h k = tt
  type_spelled T.large_utf8 h k = tt
  type_spelled T.binary_view h k = tt
  type_spelled T.utf8_view h k = tt

  fields_spelled : (fs : FieldList) → AreCarried fs → AreFields fs → AreSpelled fs
  fields_spelled no_fields h k = tt
  fields_spelled (and_field (T.field n t b m) fs) h k = ((type_spelled t h.0 k.0.1, k.0.0.1.0), fields_spelled fs h.1 k.1)

-- a size that a type of a column declares is not 0
pub size_positive : (t : TypeData) (k : ℕ) → IsCarried t → form_of t ≡ fixed_size_binaries_of k → 0 < k
size_positive (T.extension n t m) k h e = size_positive t k h e
size_positive (T.fixed_size_binary n) k h e = let same : n ≡ k = cc in subst (λ c. 0 < c) same h.0
size_positive (T.list (T.field n t b m)) k h e = let no : ⊥ = cc in absurd no
size_positive (T.large_list (T.field n t b m)) k h e = let no : ⊥ = cc in absurd no
size_positive (T.fixed_size_list (T.field n t b m) c) k h e = let no : ⊥ = cc in absurd no
size_positive (T.map (T.field n t b m) o) k h e = let no : ⊥ = cc in absurd no
size_positive _ k h e = let no : ⊥ = cc in absurd no
