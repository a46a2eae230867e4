-- What the definitions say where the match has named each other variant.
use Rattle.std.proofs.Common.{◌≡◌, ℕ, Bool, false, Option, Some, None, refl, sym}
use Rattle.arrow_types.specs.TypeData.{TypeData, field_type}
use Rattle.arrow_types.specs.TypeData as T
use Rattle.arrow_types.specs.Seen.{seen, back, back_field, back_fields}
use Rattle.arrow_types.specs.Types.{is_nested, is_view, is_numeric, contains_dictionary, child_of, logical_of, underlying}
use Rattle.arrow_types.proofs.Back.{back-seen}
use Rattle.std.specs.Prelude.{option_map}
use Rattle.arrow_types.specs.declared.datatype.ArrowDataType.{ArrowDataType}
use Rattle.arrow_types.specs.declared.datatype.ArrowDataType as A
use Rattle.arrow_types.specs.declared.datatype.ExtensionType.{ExtensionType}
use Rattle.arrow_types.specs.declared.datatype.Field.{Field}
use Rattle.arrow_types.specs.declared.datatype.UnionType.{UnionType, roll-UnionType}
use Rattle.arrow_types.specs.declared.datatype.IntegerType.{IntegerType}
use Rattle.arrow_types.specs.declared.datatype.IntervalUnit.{IntervalUnit}
use Rattle.arrow_types.specs.declared.datatype.TimeUnit.{TimeUnit}
use Rattle.std.specs.Prelude.{List}

module _ (t : ArrowDataType) (list : (f : Field) → t ≡ A.List f → ⊥) (large : (f : Field) → t ≡ A.LargeList f → ⊥) (fixed : (f : Field) (k : ℕ) → t ≡ A.FixedSizeList f k → ⊥) where
  child_by : (s : TypeData) → back s ≡ t → child_of s ≡ None
  child_by (T.list f) e = absurd (list (back_field f) (sym e))
  child_by (T.large_list f) e = absurd (large (back_field f) (sym e))
  child_by (T.fixed_size_list f k) e = absurd (fixed (back_field f) k (sym e))
  child_by _ e = refl

  pub child_other : None ≡ option_map field_type (child_of (seen t))
  child_other = λ i. option_map field_type (sym (child_by (seen t) (back-seen t)) i)

  module _ (struct : (fs : List Field) → t ≡ A.Struct fs → ⊥) (map : (f : Field) (o : Bool) → t ≡ A.Map f o → ⊥) (union : (u : UnionType) → t ≡ A.Union u → ⊥) (dictionary : (k : IntegerType) (v : ArrowDataType) (o : Bool) → t ≡ A.Dictionary k v o → ⊥) (extension : (e : ExtensionType) → t ≡ A.Extension e → ⊥) where
    nested_by : (s : TypeData) → back s ≡ t → false ≡ is_nested s
    nested_by (T.list f) e = absurd (list (back_field f) (sym e))
    nested_by (T.large_list f) e = absurd (large (back_field f) (sym e))
    nested_by (T.fixed_size_list f k) e = absurd (fixed (back_field f) k (sym e))
    nested_by (T.struct fs) e = absurd (struct (back_fields fs) (sym e))
    nested_by (T.map f o) e = absurd (map (back_field f) o (sym e))
    nested_by (T.union fs is d) e = absurd (union (roll-UnionType record { fields = back_fields fs; ids = is; mode = d }) (sym e))
    nested_by (T.dictionary k v o) e = absurd (dictionary k (back v) o (sym e))
    nested_by (T.extension n v m) e = absurd (extension record { name = n; inner = back v; metadata = m } (sym e))
    nested_by _ e = refl

    pub nested_other : false ≡ is_nested (seen t)
    nested_other = nested_by (seen t) (back-seen t)

    dictionary_by : (s : TypeData) → back s ≡ t → false ≡ contains_dictionary s
    dictionary_by (T.list f) e = absurd (list (back_field f) (sym e))
    dictionary_by (T.large_list f) e = absurd (large (back_field f) (sym e))
    dictionary_by (T.fixed_size_list f k) e = absurd (fixed (back_field f) k (sym e))
    dictionary_by (T.struct fs) e = absurd (struct (back_fields fs) (sym e))
    dictionary_by (T.map f o) e = absurd (map (back_field f) o (sym e))
    dictionary_by (T.union fs is d) e = absurd (union (roll-UnionType record { fields = back_fields fs; ids = is; mode = d }) (sym e))
    dictionary_by (T.dictionary k v o) e = absurd (dictionary k (back v) o (sym e))
    dictionary_by (T.extension n v m) e = absurd (extension record { name = n; inner = back v; metadata = m } (sym e))
    dictionary_by _ e = refl

    pub dictionary_other : false ≡ contains_dictionary (seen t)
    dictionary_other = dictionary_by (seen t) (back-seen t)

module _ (t : ArrowDataType) (extension : (e : ExtensionType) → t ≡ A.Extension e → ⊥) where
  logical_by : (s : TypeData) → back s ≡ t → s ≡ logical_of s
  logical_by (T.extension n v m) e = absurd (extension record { name = n; inner = back v; metadata = m } (sym e))
  logical_by _ e = refl

  pub logical_other : seen t ≡ logical_of (seen t)
  logical_other = logical_by (seen t) (back-seen t)

module _ (t : ArrowDataType) (utf8 : t ≡ A.Utf8View → ⊥) (binary : t ≡ A.BinaryView → ⊥) where
  view_by : (s : TypeData) → back s ≡ t → false ≡ is_view s
  view_by T.utf8_view e = absurd (utf8 (sym e))
  view_by T.binary_view e = absurd (binary (sym e))
  view_by _ e = refl

  pub view_other : false ≡ is_view (seen t)
  view_other = view_by (seen t) (back-seen t)

module _ (t : ArrowDataType) (int8 : t ≡ A.Int8 → ⊥) (int16 : t ≡ A.Int16 → ⊥) (int32 : t ≡ A.Int32 → ⊥) (int64 : t ≡ A.Int64 → ⊥) (int128 : t ≡ A.Int128 → ⊥) (uint8 : t ≡ A.UInt8 → ⊥) (uint16 : t ≡ A.UInt16 → ⊥) (uint32 : t ≡ A.UInt32 → ⊥) (uint64 : t ≡ A.UInt64 → ⊥) (float32 : t ≡ A.Float32 → ⊥) (float64 : t ≡ A.Float64 → ⊥) (decimal : (p s : ℕ) → t ≡ A.Decimal p s → ⊥) (decimal256 : (p s : ℕ) → t ≡ A.Decimal256 p s → ⊥) where
  numeric_by : (s : TypeData) → back s ≡ t → false ≡ is_numeric s
  numeric_by T.int8 e = absurd (int8 (sym e))
  numeric_by T.int16 e = absurd (int16 (sym e))
  numeric_by T.int32 e = absurd (int32 (sym e))
  numeric_by T.int64 e = absurd (int64 (sym e))
  numeric_by T.int128 e = absurd (int128 (sym e))
  numeric_by T.uint8 e = absurd (uint8 (sym e))
  numeric_by T.uint16 e = absurd (uint16 (sym e))
  numeric_by T.uint32 e = absurd (uint32 (sym e))
  numeric_by T.uint64 e = absurd (uint64 (sym e))
  numeric_by T.float32 e = absurd (float32 (sym e))
  numeric_by T.float64 e = absurd (float64 (sym e))
  numeric_by (T.decimal p s) e = absurd (decimal p s (sym e))
  numeric_by (T.decimal256 p s) e = absurd (decimal256 p s (sym e))
  numeric_by _ e = refl

  pub numeric_other : false ≡ is_numeric (seen t)
  numeric_other = numeric_by (seen t) (back-seen t)

module _ (t : ArrowDataType) (timestamp : (u : TimeUnit) (z : Option (List ℕ)) → t ≡ A.Timestamp u z → ⊥) (date32 : t ≡ A.Date32 → ⊥) (date64 : t ≡ A.Date64 → ⊥) (time32 : (u : TimeUnit) → t ≡ A.Time32 u → ⊥) (time64 : (u : TimeUnit) → t ≡ A.Time64 u → ⊥) (duration : (u : TimeUnit) → t ≡ A.Duration u → ⊥) (interval : (i : IntervalUnit) → t ≡ A.Interval i → ⊥) (list : (f : Field) → t ≡ A.List f → ⊥) (large : (f : Field) → t ≡ A.LargeList f → ⊥) (fixed : (f : Field) (k : ℕ) → t ≡ A.FixedSizeList f k → ⊥) (struct : (fs : List Field) → t ≡ A.Struct fs → ⊥) (map : (f : Field) (o : Bool) → t ≡ A.Map f o → ⊥) (union : (u : UnionType) → t ≡ A.Union u → ⊥) (dictionary : (k : IntegerType) (v : ArrowDataType) (o : Bool) → t ≡ A.Dictionary k v o → ⊥) (extension : (e : ExtensionType) → t ≡ A.Extension e → ⊥) where
  underlying_by : (s : TypeData) → back s ≡ t → Some s ≡ underlying s
  underlying_by (T.timestamp u z) e = absurd (timestamp u z (sym e))
  underlying_by T.date32 e = absurd (date32 (sym e))
  underlying_by T.date64 e = absurd (date64 (sym e))
  underlying_by (T.time32 u) e = absurd (time32 u (sym e))
  underlying_by (T.time64 u) e = absurd (time64 u (sym e))
  underlying_by (T.duration u) e = absurd (duration u (sym e))
  underlying_by (T.interval i) e = absurd (interval i (sym e))
  underlying_by (T.list f) e = absurd (list (back_field f) (sym e))
  underlying_by (T.large_list f) e = absurd (large (back_field f) (sym e))
  underlying_by (T.fixed_size_list f k) e = absurd (fixed (back_field f) k (sym e))
  underlying_by (T.struct fs) e = absurd (struct (back_fields fs) (sym e))
  underlying_by (T.map f o) e = absurd (map (back_field f) o (sym e))
  underlying_by (T.union fs is d) e = absurd (union (roll-UnionType record { fields = back_fields fs; ids = is; mode = d }) (sym e))
  underlying_by (T.dictionary k v o) e = absurd (dictionary k (back v) o (sym e))
  underlying_by (T.extension n v m) e = absurd (extension record { name = n; inner = back v; metadata = m } (sym e))
  underlying_by _ e = refl

  pub underlying_other : Some (seen t) ≡ underlying (seen t)
  underlying_other = underlying_by (seen t) (back-seen t)
