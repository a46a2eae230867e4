-- Two types of one variant without parts are equal.
use Rattle.std.proofs.Common.{◌≡◌, ◌↔◌, IsTrue, ℕ, Bool, true, false, List, [], ◌∷◌, Option, get_or, refl, sym, ap, ◌∙◌}
use Rattle.std.proofs.lemmas.Bool.{false≢true}
use Rattle.arrow_types.specs.TypeData.{TypeData}
use Rattle.arrow_types.specs.TypeData as T
use Rattle.arrow_types.specs.Types.{variant_number, is_nested}
use Rattle.arrow_types.specs.Seen.{seen, back}
use Rattle.arrow_types.proofs.Back.{back-seen, seen_one}
use Rattle.arrow_types.specs.declared.datatype.ArrowDataType.{ArrowDataType}
use Rattle.arrow_types.specs.declared.datatype.ArrowDataType as A
use Rattle.arrow_types.specs.declared.datatype.IntervalUnit.{IntervalUnit}
use Rattle.arrow_types.specs.declared.datatype.TimeUnit.{TimeUnit}

-- the variants by their numbers, where one with parts has `T.unknown`
abbrev bare_types : List TypeData
bare_types = T.null ∷ T.boolean ∷ T.int8 ∷ T.int16 ∷ T.int32 ∷ T.int64 ∷ T.int128 ∷ T.uint8 ∷ T.uint16 ∷ T.uint32 ∷ T.uint64 ∷ T.float16 ∷ T.float32 ∷ T.float64 ∷ T.unknown ∷ T.date32 ∷ T.date64 ∷ T.unknown ∷ T.unknown ∷ T.unknown ∷ T.unknown ∷ T.binary ∷ T.unknown ∷ T.large_binary ∷ T.utf8 ∷ T.large_utf8 ∷ T.binary_view ∷ T.utf8_view ∷ T.unknown ∷ T.unknown ∷ T.unknown ∷ T.unknown ∷ T.unknown ∷ T.unknown ∷ T.unknown ∷ T.unknown ∷ T.unknown ∷ T.unknown ∷ T.unknown ∷ []

abbrev bare_at : ℕ → TypeData
bare_at n = get_or bare_types n T.unknown

-- which numbers are those of variants with parts
abbrev parts_flags : List Bool
parts_flags = false ∷ false ∷ false ∷ false ∷ false ∷ false ∷ false ∷ false ∷ false ∷ false ∷ false ∷ false ∷ false ∷ false ∷ true ∷ false ∷ false ∷ true ∷ true ∷ true ∷ true ∷ false ∷ true ∷ false ∷ false ∷ false ∷ false ∷ false ∷ true ∷ true ∷ true ∷ true ∷ true ∷ true ∷ true ∷ true ∷ true ∷ true ∷ false ∷ []

abbrev has_parts_at : ℕ → Bool
has_parts_at n = get_or parts_flags n false

bare-is : (s : TypeData) → has_parts_at (variant_number s) ≡ false → bare_at (variant_number s) ≡ s
bare-is T.null e = refl
bare-is T.boolean e = refl
bare-is T.int8 e = refl
bare-is T.int16 e = refl
bare-is T.int32 e = refl
bare-is T.int64 e = refl
bare-is T.int128 e = refl
bare-is T.uint8 e = refl
bare-is T.uint16 e = refl
bare-is T.uint32 e = refl
bare-is T.uint64 e = refl
bare-is T.float16 e = refl
bare-is T.float32 e = refl
bare-is T.float64 e = refl
bare-is (T.timestamp u z) e = absurd (false≢true (sym e))
bare-is T.date32 e = refl
bare-is T.date64 e = refl
bare-is (T.time32 u) e = absurd (false≢true (sym e))
bare-is (T.time64 u) e = absurd (false≢true (sym e))
bare-is (T.duration u) e = absurd (false≢true (sym e))
bare-is (T.interval i) e = absurd (false≢true (sym e))
bare-is T.binary e = refl
bare-is (T.fixed_size_binary k) e = absurd (false≢true (sym e))
bare-is T.large_binary e = refl
bare-is T.utf8 e = refl
bare-is T.large_utf8 e = refl
bare-is T.binary_view e = refl
bare-is T.utf8_view e = refl
bare-is (T.list f) e = absurd (false≢true (sym e))
bare-is (T.large_list f) e = absurd (false≢true (sym e))
bare-is (T.fixed_size_list f k) e = absurd (false≢true (sym e))
bare-is (T.struct fs) e = absurd (false≢true (sym e))
bare-is (T.map f o) e = absurd (false≢true (sym e))
bare-is (T.union fs is d) e = absurd (false≢true (sym e))
bare-is (T.dictionary k t o) e = absurd (false≢true (sym e))
bare-is (T.decimal p s) e = absurd (false≢true (sym e))
bare-is (T.decimal256 p s) e = absurd (false≢true (sym e))
bare-is (T.extension n t m) e = absurd (false≢true (sym e))
bare-is T.unknown e = refl

bare_one : (s r : TypeData) → has_parts_at (variant_number s) ≡ false → variant_number s ≡ variant_number r → s ≡ r
bare_one s r none e = sym (bare-is s none) ∙ ap bare_at e ∙ bare-is r (ap has_parts_at (sym e) ∙ none)

module _ (t : ArrowDataType) (timestamp : (u : TimeUnit) (z : Option (List ℕ)) → t ≡ A.Timestamp u z → ⊥) (time32 : (u : TimeUnit) → t ≡ A.Time32 u → ⊥) (time64 : (u : TimeUnit) → t ≡ A.Time64 u → ⊥) (duration : (u : TimeUnit) → t ≡ A.Duration u → ⊥) (interval : (i : IntervalUnit) → t ≡ A.Interval i → ⊥) (fixed : (k : ℕ) → t ≡ A.FixedSizeBinary k → ⊥) (decimal : (p s : ℕ) → t ≡ A.Decimal p s → ⊥) (decimal256 : (p s : ℕ) → t ≡ A.Decimal256 p s → ⊥) where
  bare_by : (s : TypeData) → back s ≡ t → is_nested s ≡ false → has_parts_at (variant_number s) ≡ false
  bare_by (T.timestamp u z) e n = absurd (timestamp u z (sym e))
  bare_by (T.time32 u) e n = absurd (time32 u (sym e))
  bare_by (T.time64 u) e n = absurd (time64 u (sym e))
  bare_by (T.duration u) e n = absurd (duration u (sym e))
  bare_by (T.interval i) e n = absurd (interval i (sym e))
  bare_by (T.fixed_size_binary k) e n = absurd (fixed k (sym e))
  bare_by (T.decimal p d) e n = absurd (decimal p d (sym e))
  bare_by (T.decimal256 p d) e n = absurd (decimal256 p d (sym e))
  bare_by (T.list f) e n = absurd (false≢true (sym n))
  bare_by (T.large_list f) e n = absurd (false≢true (sym n))
  bare_by (T.fixed_size_list f k) e n = absurd (false≢true (sym n))
  bare_by (T.struct fs) e n = absurd (false≢true (sym n))
  bare_by (T.map f o) e n = absurd (false≢true (sym n))
  bare_by (T.union fs is d) e n = absurd (false≢true (sym n))
  bare_by (T.dictionary k t o) e n = absurd (false≢true (sym n))
  bare_by (T.extension m v d) e n = absurd (false≢true (sym n))
  bare_by T.null e n = refl
  bare_by T.boolean e n = refl
  bare_by T.int8 e n = refl
  bare_by T.int16 e n = refl
  bare_by T.int32 e n = refl
  bare_by T.int64 e n = refl
  bare_by T.int128 e n = refl
  bare_by T.uint8 e n = refl
  bare_by T.uint16 e n = refl
  bare_by T.uint32 e n = refl
  bare_by T.uint64 e n = refl
  bare_by T.float16 e n = refl
  bare_by T.float32 e n = refl
  bare_by T.float64 e n = refl
  bare_by T.date32 e n = refl
  bare_by T.date64 e n = refl
  bare_by T.binary e n = refl
  bare_by T.large_binary e n = refl
  bare_by T.utf8 e n = refl
  bare_by T.large_utf8 e n = refl
  bare_by T.binary_view e n = refl
  bare_by T.utf8_view e n = refl
  bare_by T.unknown e n = refl

  pub same_bare : (b : ArrowDataType) → is_nested (seen t) ≡ false → variant_number (seen t) ≡ variant_number (seen b) → IsTrue true ↔ (t ≡ b)
  same_bare b plain e = (λ _. seen_one t b (bare_one (seen t) (seen b) (bare_by (seen t) (back-seen t) plain) e), λ _. refl)
