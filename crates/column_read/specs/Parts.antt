-- The parts of a column as the program reads them, before they are known to fit together.
use Rattle.std.specs.Prelude.{◌≡◌, ℕ, ◌+◌, true, false, ◌/◌, nat_le, if◌then◌else◌, ℤ, List, length, map, take, drop, replicate, Option, Some, None, ⊤}
use Rattle.std.specs.Int.{w8, w16, w32, w64, w128}
use Rattle.serde_json.specs.Data.{Data}
use Rattle.arrow_buffers.specs.Bits.{Bits}
use Rattle.arrow_types.specs.Seen.{seen}
use Rattle.arrow_types.specs.TypeData.{TypeData}
use Rattle.arrow_types.specs.Types.{physical_of}
use Rattle.arrow_types.specs.declared.datatype.PhysicalType.{PhysicalType}
use Rattle.arrow_types.specs.declared.datatype.PhysicalType.TheVariants as physical
use Rattle.arrow_types.specs.declared.datatype.PrimitiveType.{PrimitiveType}
use Rattle.arrow_types.specs.declared.datatype.PrimitiveType.TheVariants as primitive
use Rattle.arrow_bytes.specs.FixedSizeBinaries.{declared_size}
use Rattle.arrow_flat.specs.Natives.{signed, unsigned, days_ms, month_day_nano, octets, IsNative}
use Rattle.arrow_layout.specs.Layouts.{Layout, booleans, primitives, binaries, fixed_size_binaries, views}
use Rattle.column_grammar.specs.Values.{first_integer}
use Rattle.column_grammar.specs.Reads.{booleans_in, primitives_in, binaries_in, fixed_size_binaries_in, views_in}
use Rattle.column_read.specs.declared.parts.FlatParts.{FlatParts}
use Rattle.column_read.specs.declared.parts.FlatParts.TheVariants as flat
use Rattle.column_read.specs.declared.parts.PrimitiveData.{PrimitiveData}
use Rattle.column_read.specs.declared.parts.PrimitiveData.TheVariants as numbers
use Rattle.column_read.specs.declared.parts.BooleanParts.{BooleanParts}
use Rattle.column_read.specs.declared.parts.PrimitiveParts.{PrimitiveParts}
use Rattle.column_read.specs.declared.parts.BinaryParts.{BinaryParts}
use Rattle.column_read.specs.declared.parts.FixedSizeBinaryParts.{FixedSizeBinaryParts}
use Rattle.column_read.specs.declared.parts.ListParts.{ListParts}
use Rattle.column_read.specs.declared.parts.SizedParts.{SizedParts}
use Rattle.column_read.specs.declared.parts.UnionParts.{UnionParts}
use Rattle.column_read.specs.declared.parts.ViewParts.{ViewParts}

-- ---- the layout of the parts, given the type

abbrev pub booleans_layout : TypeData → BooleanParts → Layout
booleans_layout t p = booleans t p.validity p.values

abbrev pub primitives_layout : {T : Type 0} → (T → List ℤ) → TypeData → PrimitiveParts T → Layout
primitives_layout parts t p = primitives t p.validity (map parts p.values)

abbrev pub binaries_layout : {O : Type 0} → (O → ℤ) → TypeData → BinaryParts O → Layout
binaries_layout number t p = binaries t p.validity (map number p.offsets.items) (octets p.values)

abbrev pub key_parts_seen : {K : Type 0} → (K → List ℤ) → PrimitiveParts K → List ℤ × Option Bits
key_parts_seen parts p = (map first_integer (map parts p.values), p.validity)

abbrev pub list_parts_seen : {O : Type 0} → (O → ℤ) → ListParts O → Option Bits × List ℤ
list_parts_seen number p = (p.validity, map number p.offsets.items)

abbrev pub sized_parts_seen : SizedParts → ℕ × Option Bits
sized_parts_seen p = (p.length, p.validity)

abbrev pub union_parts_seen : UnionParts → Option (List ℤ) × List ℤ
union_parts_seen p = (p.offsets, p.types)

abbrev pub fixed_size_binaries_layout : TypeData → FixedSizeBinaryParts → Layout
fixed_size_binaries_layout t p = fixed_size_binaries t p.validity p.size (length p.values / p.size) (octets p.values)

-- The first four of n bytes from o on, zeros where they aren't there.
abbrev pub four_of : List ℕ → ℕ → ℕ → List ℕ
four_of bs n o = if nat_le (o + n) (length bs) then take 4 (drop o bs) else replicate 4 0

abbrev pub views_layout : TypeData → ViewParts → Layout
views_layout t p = views t p.validity p.views.items (map octets p.buffers.items)

abbrev pub numbers_layout : TypeData → PrimitiveData → Layout
numbers_layout t (numbers.Int8 p) = primitives_layout (signed w8) t p
numbers_layout t (numbers.Int16 p) = primitives_layout (signed w16) t p
numbers_layout t (numbers.Int32 p) = primitives_layout (signed w32) t p
numbers_layout t (numbers.Int64 p) = primitives_layout (signed w64) t p
numbers_layout t (numbers.Int128 p) = primitives_layout (signed w128) t p
numbers_layout t (numbers.UInt8 p) = primitives_layout (unsigned 8) t p
numbers_layout t (numbers.UInt16 p) = primitives_layout (unsigned 16) t p
numbers_layout t (numbers.UInt32 p) = primitives_layout (unsigned 32) t p
numbers_layout t (numbers.UInt64 p) = primitives_layout (unsigned 64) t p
numbers_layout t (numbers.DaysMs p) = primitives_layout days_ms t p
numbers_layout t (numbers.MonthDayNano p) = primitives_layout month_day_nano t p

abbrev pub data_layout : TypeData → FlatParts → Layout
data_layout t (flat.Boolean p) = booleans_layout t p
data_layout t (flat.Primitive p) = numbers_layout t p
data_layout t (flat.Binary p) = binaries_layout (λ x. x) t p
data_layout t (flat.LargeBinary p) = binaries_layout (λ x. x) t p
data_layout t (flat.Utf8 p) = binaries_layout (λ x. x) t p
data_layout t (flat.LargeUtf8 p) = binaries_layout (λ x. x) t p
data_layout t (flat.FixedSizeBinary p) = fixed_size_binaries_layout t p
data_layout t (flat.BinaryView p) = views_layout t p
data_layout t (flat.Utf8View p) = views_layout t p

-- ---- that the parts are those of the type

abbrev pub number_kind : PrimitiveData → PrimitiveType
number_kind (numbers.Int8 p) = primitive.Int8
number_kind (numbers.Int16 p) = primitive.Int16
number_kind (numbers.Int32 p) = primitive.Int32
number_kind (numbers.Int64 p) = primitive.Int64
number_kind (numbers.Int128 p) = primitive.Int128
number_kind (numbers.UInt8 p) = primitive.UInt8
number_kind (numbers.UInt16 p) = primitive.UInt16
number_kind (numbers.UInt32 p) = primitive.UInt32
number_kind (numbers.UInt64 p) = primitive.UInt64
number_kind (numbers.DaysMs p) = primitive.DaysMs
number_kind (numbers.MonthDayNano p) = primitive.MonthDayNano

abbrev pub data_kind : FlatParts → PhysicalType
data_kind (flat.Boolean p) = physical.Boolean
data_kind (flat.Primitive p) = physical.Primitive (number_kind p)
data_kind (flat.Binary p) = physical.Binary
data_kind (flat.LargeBinary p) = physical.LargeBinary
data_kind (flat.Utf8 p) = physical.Utf8
data_kind (flat.LargeUtf8 p) = physical.LargeUtf8
data_kind (flat.FixedSizeBinary p) = physical.FixedSizeBinary
data_kind (flat.BinaryView p) = physical.BinaryView
data_kind (flat.Utf8View p) = physical.Utf8View

-- The bytes are in range: each is its own number.
abbrev pub AreOctets : List ℕ → Type 0
AreOctets bs = octets bs ≡ bs

-- The bytes of the parts are in range, and the size of values of one size is that which the type declares.
abbrev pub IsReadAs : Option ℕ → FlatParts → Type 0
IsReadAs size (flat.Binary p) = AreOctets p.values
IsReadAs size (flat.LargeBinary p) = AreOctets p.values
IsReadAs size (flat.Utf8 p) = AreOctets p.values
IsReadAs size (flat.LargeUtf8 p) = AreOctets p.values
IsReadAs size (flat.FixedSizeBinary p) = AreOctets p.values × (size ≡ Some p.size)
IsReadAs size _ = ⊤

-- The parts are of the layout of the type.
pub record HasKind (t : TypeData) (d : FlatParts) : Type 0 where
  pub stored : physical_of t ≡ Some (data_kind d)
  pub read : IsReadAs (declared_size t) d

-- ---- what a value is read as, by the layout of the type and the size that it declares

-- Values that columns hold, where the layout is one of primitive values.
abbrev pub IsNativeLayout : PhysicalType → Type 0
IsNativeLayout (physical.Primitive p) = IsNative p
IsNativeLayout _ = ⊤

abbrev pub IsNativeStored : Option PhysicalType → Type 0
IsNativeStored None = ⊤
IsNativeStored (Some p) = IsNativeLayout p

abbrev pub sized_of : TypeData → Option ℕ → Data → Option Layout
sized_of t None d = None
sized_of t (Some k) d = fixed_size_binaries_in t k d

abbrev pub data_of : TypeData → PhysicalType → Option ℕ → Data → Option Layout
data_of t physical.Boolean size d = booleans_in t d
data_of t (physical.Primitive p) size d = primitives_in t p d
data_of t physical.Binary size d = binaries_in t false d
data_of t physical.LargeBinary size d = binaries_in t true d
data_of t physical.Utf8 size d = binaries_in t false d
data_of t physical.LargeUtf8 size d = binaries_in t true d
data_of t physical.FixedSizeBinary size d = sized_of t size d
data_of t physical.BinaryView size d = views_in t d
data_of t physical.Utf8View size d = views_in t d
data_of t _ size d = None
