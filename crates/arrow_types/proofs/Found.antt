-- What the definitions say where the match has found one of several variants.
use Rattle.std.proofs.Common.{◌≡◌, ◌⊎◌, inl, inr, ℕ, Bool, true, List}
use Rattle.arrow_types.specs.Types.{is_nested, is_view, is_numeric, contains_dictionary}
use Rattle.arrow_types.specs.Seen.{seen}
use Rattle.arrow_types.specs.SeenAt as at
use Rattle.arrow_types.proofs.AtVariant.{at_variant}
use Rattle.arrow_types.specs.declared.datatype.ArrowDataType.{ArrowDataType}
use Rattle.arrow_types.specs.declared.datatype.ArrowDataType as A
use Rattle.arrow_types.specs.declared.datatype.ExtensionType.{ExtensionType}
use Rattle.arrow_types.specs.declared.datatype.Field.{Field}
use Rattle.arrow_types.specs.declared.datatype.IntegerType.{IntegerType}
use Rattle.arrow_types.specs.declared.datatype.UnionType.{UnionType}

pub nested_found : (t : ArrowDataType) → ((f : Field) × (t ≡ A.List f)) ⊎ (((f : Field) × (t ≡ A.LargeList f)) ⊎ (((f : Field) × (k : ℕ) × (t ≡ A.FixedSizeList f k)) ⊎ (((fs : List Field) × (t ≡ A.Struct fs)) ⊎ (((u : UnionType) × (t ≡ A.Union u)) ⊎ (((f : Field) × (o : Bool) × (t ≡ A.Map f o)) ⊎ (((k : IntegerType) × (v : ArrowDataType) × (o : Bool) × (t ≡ A.Dictionary k v o)) ⊎ ((e : ExtensionType) × (t ≡ A.Extension e)))))))) → true ≡ is_nested (seen t)
nested_found t (inl w) = at_variant is_nested (at.seen-List w.0) w.1
nested_found t (inr (inl w)) = at_variant is_nested (at.seen-LargeList w.0) w.1
nested_found t (inr (inr (inl w))) = at_variant is_nested (at.seen-FixedSizeList w.0 w.1) w.2
nested_found t (inr (inr (inr (inl w)))) = at_variant is_nested (at.seen-Struct w.0) w.1
nested_found t (inr (inr (inr (inr (inl w))))) = at_variant is_nested (at.seen-Union w.0) w.1
nested_found t (inr (inr (inr (inr (inr (inl w)))))) = at_variant is_nested (at.seen-Map w.0 w.1) w.2
nested_found t (inr (inr (inr (inr (inr (inr (inl w))))))) = at_variant is_nested (at.seen-Dictionary w.0 w.1 w.2) w.3
nested_found t (inr (inr (inr (inr (inr (inr (inr w))))))) = at_variant is_nested (at.seen-Extension w.0) w.1

pub view_found : (t : ArrowDataType) → (t ≡ A.Utf8View) ⊎ (t ≡ A.BinaryView) → true ≡ is_view (seen t)
view_found t (inl w) = at_variant is_view at.seen-Utf8View w
view_found t (inr w) = at_variant is_view at.seen-BinaryView w

pub numeric_found : (t : ArrowDataType) → (t ≡ A.Int8) ⊎ ((t ≡ A.Int16) ⊎ ((t ≡ A.Int32) ⊎ ((t ≡ A.Int64) ⊎ ((t ≡ A.Int128) ⊎ ((t ≡ A.UInt8) ⊎ ((t ≡ A.UInt16) ⊎ ((t ≡ A.UInt32) ⊎ ((t ≡ A.UInt64) ⊎ ((t ≡ A.Float32) ⊎ ((t ≡ A.Float64) ⊎ (((p : ℕ) × (s : ℕ) × (t ≡ A.Decimal p s)) ⊎ ((p : ℕ) × (s : ℕ) × (t ≡ A.Decimal256 p s))))))))))))) → true ≡ is_numeric (seen t)
numeric_found t (inl w) = at_variant is_numeric at.seen-Int8 w
numeric_found t (inr (inl w)) = at_variant is_numeric at.seen-Int16 w
numeric_found t (inr (inr (inl w))) = at_variant is_numeric at.seen-Int32 w
numeric_found t (inr (inr (inr (inl w)))) = at_variant is_numeric at.seen-Int64 w
numeric_found t (inr (inr (inr (inr (inl w))))) = at_variant is_numeric at.seen-Int128 w
numeric_found t (inr (inr (inr (inr (inr (inl w)))))) = at_variant is_numeric at.seen-UInt8 w
numeric_found t (inr (inr (inr (inr (inr (inr (inl w))))))) = at_variant is_numeric at.seen-UInt16 w
numeric_found t (inr (inr (inr (inr (inr (inr (inr (inl w)))))))) = at_variant is_numeric at.seen-UInt32 w
numeric_found t (inr (inr (inr (inr (inr (inr (inr (inr (inl w))))))))) = at_variant is_numeric at.seen-UInt64 w
numeric_found t (inr (inr (inr (inr (inr (inr (inr (inr (inr (inl w)))))))))) = at_variant is_numeric at.seen-Float32 w
numeric_found t (inr (inr (inr (inr (inr (inr (inr (inr (inr (inr (inl w))))))))))) = at_variant is_numeric at.seen-Float64 w
numeric_found t (inr (inr (inr (inr (inr (inr (inr (inr (inr (inr (inr (inl w)))))))))))) = at_variant is_numeric (at.seen-Decimal w.0 w.1) w.2
numeric_found t (inr (inr (inr (inr (inr (inr (inr (inr (inr (inr (inr (inr w)))))))))))) = at_variant is_numeric (at.seen-Decimal256 w.0 w.1) w.2

pub item_found : (t : ArrowDataType) (f : Field) → (t ≡ A.List f) ⊎ ((t ≡ A.LargeList f) ⊎ (((k : ℕ) × (t ≡ A.FixedSizeList f k)) ⊎ ((o : Bool) × (t ≡ A.Map f o)))) → contains_dictionary (seen f.dtype) ≡ contains_dictionary (seen t)
item_found t f (inl e) = at_variant contains_dictionary (at.seen-List f) e
item_found t f (inr (inl e)) = at_variant contains_dictionary (at.seen-LargeList f) e
item_found t f (inr (inr (inl w))) = at_variant contains_dictionary (at.seen-FixedSizeList f w.0) w.1
item_found t f (inr (inr (inr w))) = at_variant contains_dictionary (at.seen-Map f w.0) w.1
