-- `back` undoes `seen`, so `seen` tells types apart.
use Rattle.arrow_types.specs.TypeData.{TypeData}
use Rattle.arrow_types.specs.TypeData as T
use Rattle.arrow_types.specs.declared.datatype.UnionMode.TheVariants.{Dense}
use Rattle.std.proofs.Common.{◌≡◌, None, List, [], ◌∷◌, map, refl, sym, ap, ◌∙◌, subst}
use Rattle.arrow_types.specs.Seen.{seen, seen_field, seen_fields, seen_union, seen_extension, back, back_field, back_fields}
use Rattle.arrow_types.specs.SeenAt as at
use Rattle.arrow_types.specs.declared.datatype.ArrowDataType.{ArrowDataType}
use Rattle.arrow_types.specs.declared.datatype.ArrowDataType as A
use Rattle.arrow_types.specs.declared.datatype.ArrowDataType.TheOpen as layer
use Rattle.arrow_types.specs.declared.datatype.ArrowDataType.TheOpen.{ArrowDataType-F}
use Rattle.arrow_types.specs.declared.datatype.ArrowDataType.TheFolds as folds
use Rattle.arrow_types.specs.declared.datatype.ArrowDataType.TheVariants as variants
use Rattle.arrow_types.specs.declared.datatype.Field.{Field}
use Rattle.arrow_types.specs.declared.datatype.UnionType.{UnionType, out-UnionType, roll-UnionType, roll-out-UnionType, out-roll-UnionType}
use Rattle.arrow_types.specs.declared.datatype.ExtensionType.{ExtensionType}

abbrev Comes : ArrowDataType → Type 0
Comes t = back (seen t) ≡ t

abbrev ExtensionComes : ExtensionType → Type 0
ExtensionComes e = Comes e.inner

abbrev FieldComes : Field → Type 0
FieldComes f = back_field (seen_field f) ≡ f

abbrev FieldsCome : List Field → Type 0
FieldsCome fs = back_fields (seen_fields fs) ≡ fs

abbrev UnionComes : UnionType → Type 0
UnionComes u = FieldsCome (out-UnionType u).fields

abbrev AType : Type 0
AType = (t : ArrowDataType) × Comes t

abbrev AnExtension : Type 0
AnExtension = (e : ExtensionType) × ExtensionComes e

abbrev AField : Type 0
AField = (f : Field) × FieldComes f

abbrev AUnion : Type 0
AUnion = (u : UnionType) × UnionComes u

fields_come : (fs : List AField) → FieldsCome (map (λ e. e.0) fs)
fields_come [] = refl
fields_come (f ∷ fs) = λ i. f.1 i ∷ fields_come fs i

abbrev bare : ArrowDataType-F AType AnExtension AField AUnion → ArrowDataType-F ArrowDataType ExtensionType Field UnionType
bare = A.map-ArrowDataType AType AnExtension AField AUnion ArrowDataType ExtensionType Field UnionType (λ e. e.0) (λ e. e.0) (λ e. e.0) (λ e. e.0)

at_type : (y : ArrowDataType-F AType AnExtension AField AUnion) → Comes (A.roll-ArrowDataType (bare y))
at_type layer.Null = subst Comes (sym variants.rolls-Null) (ap back at.seen-Null)
at_type layer.Boolean = subst Comes (sym variants.rolls-Boolean) (ap back at.seen-Boolean)
at_type layer.Int8 = subst Comes (sym variants.rolls-Int8) (ap back at.seen-Int8)
at_type layer.Int16 = subst Comes (sym variants.rolls-Int16) (ap back at.seen-Int16)
at_type layer.Int32 = subst Comes (sym variants.rolls-Int32) (ap back at.seen-Int32)
at_type layer.Int64 = subst Comes (sym variants.rolls-Int64) (ap back at.seen-Int64)
at_type layer.Int128 = subst Comes (sym variants.rolls-Int128) (ap back at.seen-Int128)
at_type layer.UInt8 = subst Comes (sym variants.rolls-UInt8) (ap back at.seen-UInt8)
at_type layer.UInt16 = subst Comes (sym variants.rolls-UInt16) (ap back at.seen-UInt16)
at_type layer.UInt32 = subst Comes (sym variants.rolls-UInt32) (ap back at.seen-UInt32)
at_type layer.UInt64 = subst Comes (sym variants.rolls-UInt64) (ap back at.seen-UInt64)
at_type layer.Float16 = subst Comes (sym variants.rolls-Float16) (ap back at.seen-Float16)
at_type layer.Float32 = subst Comes (sym variants.rolls-Float32) (ap back at.seen-Float32)
at_type layer.Float64 = subst Comes (sym variants.rolls-Float64) (ap back at.seen-Float64)
at_type (layer.Timestamp unit place) = subst Comes (sym (variants.rolls-Timestamp unit place)) (ap back (at.seen-Timestamp unit place))
at_type layer.Date32 = subst Comes (sym variants.rolls-Date32) (ap back at.seen-Date32)
at_type layer.Date64 = subst Comes (sym variants.rolls-Date64) (ap back at.seen-Date64)
at_type (layer.Time32 unit) = subst Comes (sym (variants.rolls-Time32 unit)) (ap back (at.seen-Time32 unit))
at_type (layer.Time64 unit) = subst Comes (sym (variants.rolls-Time64 unit)) (ap back (at.seen-Time64 unit))
at_type (layer.Duration unit) = subst Comes (sym (variants.rolls-Duration unit)) (ap back (at.seen-Duration unit))
at_type (layer.Interval interval) = subst Comes (sym (variants.rolls-Interval interval)) (ap back (at.seen-Interval interval))
at_type layer.Binary = subst Comes (sym variants.rolls-Binary) (ap back at.seen-Binary)
at_type (layer.FixedSizeBinary size) = subst Comes (sym (variants.rolls-FixedSizeBinary size)) (ap back (at.seen-FixedSizeBinary size))
at_type layer.LargeBinary = subst Comes (sym variants.rolls-LargeBinary) (ap back at.seen-LargeBinary)
at_type layer.Utf8 = subst Comes (sym variants.rolls-Utf8) (ap back at.seen-Utf8)
at_type layer.LargeUtf8 = subst Comes (sym variants.rolls-LargeUtf8) (ap back at.seen-LargeUtf8)
at_type layer.BinaryView = subst Comes (sym variants.rolls-BinaryView) (ap back at.seen-BinaryView)
at_type layer.Utf8View = subst Comes (sym variants.rolls-Utf8View) (ap back at.seen-Utf8View)
at_type (layer.List f) = subst Comes (sym (variants.rolls-List f.0)) (ap back (at.seen-List f.0) ∙ ap (λ g. A.List g) f.1)
at_type (layer.LargeList f) = subst Comes (sym (variants.rolls-LargeList f.0)) (ap back (at.seen-LargeList f.0) ∙ ap (λ g. A.LargeList g) f.1)
at_type (layer.FixedSizeList f size) = subst Comes (sym (variants.rolls-FixedSizeList f.0 size)) (ap back (at.seen-FixedSizeList f.0 size) ∙ ap (λ g. A.FixedSizeList g size) f.1)
at_type (layer.Struct fs) = subst Comes (sym (variants.rolls-Struct (map (λ e. e.0) fs))) (ap back (at.seen-Struct (map (λ e. e.0) fs)) ∙ ap A.Struct (fields_come fs))
at_type (layer.Map f is_sorted) = subst Comes (sym (variants.rolls-Map f.0 is_sorted)) (ap back (at.seen-Map f.0 is_sorted) ∙ ap (λ g. A.Map g is_sorted) f.1)
at_type (layer.Union u) = subst Comes (sym (variants.rolls-Union u.0)) (ap back (at.seen-Union u.0) ∙ ap (λ fs. A.Union (roll-UnionType record { fields = fs; ids = (out-UnionType u.0).ids; mode = (out-UnionType u.0).mode })) u.1 ∙ ap A.Union (roll-out-UnionType u.0))
at_type (layer.Dictionary key v is_ordered) = subst Comes (sym (variants.rolls-Dictionary key v.0 is_ordered)) (ap back (at.seen-Dictionary key v.0 is_ordered) ∙ ap (λ t. A.Dictionary key t is_ordered) v.1)
at_type (layer.Decimal precision scale) = subst Comes (sym (variants.rolls-Decimal precision scale)) (ap back (at.seen-Decimal precision scale))
at_type (layer.Decimal256 precision scale) = subst Comes (sym (variants.rolls-Decimal256 precision scale)) (ap back (at.seen-Decimal256 precision scale))
at_type (layer.Extension e) = subst Comes (sym (variants.rolls-Extension e.0)) (ap back (at.seen-Extension e.0) ∙ ap (λ t. A.Extension record { name = e.0.name; inner = t; metadata = e.0.metadata }) e.1)
at_type layer.Unknown = subst Comes (sym variants.rolls-Unknown) (ap back at.seen-Unknown)

pub back-seen : (t : ArrowDataType) → back (seen t) ≡ t
back-seen =
    folds.ind-ArrowDataType Comes ExtensionComes FieldComes UnionComes
    (λ x y is. subst (λ z. Comes (A.roll-ArrowDataType z)) is (at_type y))
    (λ x y is. subst (λ z. Comes z.inner) is y.inner.1)
    (λ x y is. subst (λ z. FieldComes record { name = z.name; dtype = z.dtype; is_nullable = z.is_nullable; metadata = z.metadata }) is (ap (λ t. record { name = y.name; dtype = t; is_nullable = y.is_nullable; metadata = y.metadata }) y.dtype.1))
    (λ x y is. subst (λ z. FieldsCome z.fields) (sym (out-roll-UnionType x)) (subst (λ z. FieldsCome z.fields) is (fields_come y.fields)))

pub back_field-seen : (f : Field) → back_field (seen_field f) ≡ f
back_field-seen f = ap (λ t. record { name = f.name; dtype = t; is_nullable = f.is_nullable; metadata = f.metadata }) (back-seen f.dtype)

pub back_fields-seen : (fs : List Field) → back_fields (seen_fields fs) ≡ fs
back_fields-seen [] = refl
back_fields-seen (f ∷ fs) = λ i. back_field-seen f i ∷ back_fields-seen fs i

abbrev back_union : TypeData → UnionType
back_union (T.union fs is d) = roll-UnionType record { fields = back_fields fs; ids = is; mode = d }
back_union _ = roll-UnionType record { fields = []; ids = None; mode = Dense }

abbrev back_extension : TypeData → ExtensionType
back_extension (T.extension n t m) = record { name = n; inner = back t; metadata = m }
back_extension t = record { name = []; inner = back t; metadata = None }

back_union-seen : (u : UnionType) → back_union (seen_union u) ≡ u
back_union-seen u = ap (λ fs. roll-UnionType record { fields = fs; ids = (out-UnionType u).ids; mode = (out-UnionType u).mode }) (back_fields-seen (out-UnionType u).fields) ∙ roll-out-UnionType u

back_extension-seen : (e : ExtensionType) → back_extension (seen_extension e) ≡ e
back_extension-seen e = ap (λ t. record { name = e.name; inner = t; metadata = e.metadata }) (back-seen e.inner)

pub seen_field-one : (a b : Field) → seen_field a ≡ seen_field b → a ≡ b
seen_field-one a b e = sym (back_field-seen a) ∙ ap back_field e ∙ back_field-seen b

pub seen_fields-one : (fs gs : List Field) → seen_fields fs ≡ seen_fields gs → fs ≡ gs
seen_fields-one fs gs e = sym (back_fields-seen fs) ∙ ap back_fields e ∙ back_fields-seen gs

pub seen_union-one : (a b : UnionType) → seen_union a ≡ seen_union b → a ≡ b
seen_union-one a b e = sym (back_union-seen a) ∙ ap back_union e ∙ back_union-seen b

pub seen_extension-one : (a b : ExtensionType) → seen_extension a ≡ seen_extension b → a ≡ b
seen_extension-one a b e = sym (back_extension-seen a) ∙ ap back_extension e ∙ back_extension-seen b

-- a type is what is seen of it
pub seen_one : (a b : ArrowDataType) → seen a ≡ seen b → a ≡ b
seen_one a b e = sym (back-seen a) ∙ ap back e ∙ back-seen b
