-- Nodes of the program as layouts.
use Rattle.std.specs.Prelude.{◌≡◌, ◌+◌, ◌≤◌, ℕ, ℤ, pos, Bool, true, false, List, [], ◌∷◌, length, map, Option, Some, None, ⊤}
use Rattle.std.specs.Int.{w8, w16, w32, w64, w128}
use Rattle.arrow_buffers.specs.Bits.{Bits}
use Rattle.arrow_types.specs.Carried.{IsBelow}
use Rattle.arrow_types.specs.Seen.{seen}
use Rattle.arrow_types.specs.Types.{physical_of}
use Rattle.arrow_types.specs.declared.datatype.ArrowDataType.{ArrowDataType}
use Rattle.arrow_types.specs.declared.datatype.IntegerType.{IntegerType}
use Rattle.arrow_types.specs.declared.datatype.IntegerType.TheVariants as integer
use Rattle.arrow_types.specs.declared.datatype.PhysicalType.{PhysicalType}
use Rattle.arrow_types.specs.declared.datatype.PhysicalType.TheVariants as physical
use Rattle.arrow_types.specs.declared.datatype.PrimitiveType.{PrimitiveType}
use Rattle.arrow_types.specs.declared.datatype.PrimitiveType.TheVariants as primitive
use Rattle.arrow_bytes.specs.Binaries.{Binaries}
use Rattle.arrow_bytes.specs.FixedSizeBinaries.{FixedSizeBinaries, slot_count}
use Rattle.arrow_flat.specs.Booleans.{Booleans}
use Rattle.arrow_flat.specs.Natives.{signed, unsigned, days_ms, month_day_nano, octets}
use Rattle.arrow_flat.specs.Primitives.{Primitives}
use Rattle.arrow_views.specs.ViewArrays.{ViewArray}
use Rattle.arrow_meaning.specs.declared.primitive.PrimitiveNode.{PrimitiveNode}
use Rattle.arrow_meaning.specs.declared.primitive.PrimitiveNode.TheVariants as array
use Rattle.arrow_meaning.specs.declared.keys.KeyNode.{KeyNode}
use Rattle.arrow_meaning.specs.declared.keys.KeyNode.TheVariants as keys
use Rattle.arrow_meaning.specs.declared.node.Node.{Node}
use Rattle.arrow_meaning.specs.declared.node.Node.TheVariants as node
use Rattle.arrow_layout.specs.Cut.{part}
use Rattle.arrow_layout.specs.Denote.{validity_of}
use Rattle.arrow_layout.specs.FitsHere.{FitsHere}
use Rattle.arrow_layout.specs.Layouts.{Layout, Layouts, nulls, booleans, primitives, binaries, fixed_size_binaries, views, lists, fixed_size_lists, structs, sparse_unions, dense_unions, dictionaries, layouts, type_of}
use Rattle.arrow_layout.specs.WellFormed.{AllSet, mask_bits}

-- The layout of an array, given the numbers of its values.
abbrev pub primitive_layout : {T : Type 0} → (T → List ℤ) → Primitives T → Layout
primitive_layout parts a = primitives (seen a.dtype) a.mask (map parts a.values)

abbrev pub boolean_layout : Booleans → Layout
boolean_layout a = booleans (seen a.dtype) a.mask a.values

-- Of byte strings or texts, given the number of an offset.
abbrev pub binary_layout : {O : Type 0} → (O → ℤ) → Binaries O → Layout
binary_layout number a = binaries (seen a.dtype) a.mask (map number a.offsets) (octets a.values)

abbrev pub fixed_size_binary_layout : FixedSizeBinaries → Layout
fixed_size_binary_layout a = fixed_size_binaries (seen a.dtype) a.mask a.size (slot_count a) (octets a.values)

abbrev pub view_layout : ViewArray → Layout
view_layout a = views (seen a.dtype) a.mask a.views a.buffers

-- ---- what the type of a layout says

-- The type is stored in the physical type.
abbrev pub IsStoredAs : PhysicalType → Layout → Type 0
IsStoredAs p l = physical_of (type_of l) ≡ Some p

-- Lists, by whether the offsets are large.
abbrev pub physical_list : Bool → PhysicalType
physical_list false = physical.List
physical_list true = physical.LargeList

-- ---- layouts over others

-- The number of a key.
abbrev pub key_number : List ℤ → ℤ
key_number (z ∷ zs) = z
key_number [] = pos 0

abbrev pub key_numbers : Layout → List ℤ
key_numbers (primitives t m rows) = map key_number rows
key_numbers _ = []

-- Each key that is valid under the mask names one of n values.
abbrev pub AreKeysBelow : ℕ → Option Bits → Layout → Type 0
AreKeysBelow n m keys = AllSet (IsBelow n) (mask_bits m (length (key_numbers keys))) (key_numbers keys)

-- Of a list, a large list or a map, given the number of an offset.
abbrev pub list_layout : {O : Type 0} → (O → ℤ) → ArrowDataType → List O → Layout → Option Bits → Layout
list_layout number t os l m = lists (seen t) m (map number os) l

-- The offsets of lists, large lists and maps.
abbrev pub list_offsets : Layout → List ℤ
list_offsets (lists t m os l) = os
list_offsets _ = []

-- The size of the lists, of fixed-size lists.
abbrev pub list_size : Layout → ℕ
list_size (fixed_size_lists t m k n l) = k
list_size _ = 0

-- Dense with offsets, sparse without.
abbrev pub union_layout : ArrowDataType → List ℤ → Option (List ℤ) → Layouts → ℕ → Layout
union_layout t ts (Some os) ls shift = dense_unions (seen t) shift ts os ls
union_layout t ts None ls shift = sparse_unions (seen t) shift ts ls

-- Over the layout of its keys, which are numbers of one part each.
abbrev pub dictionary_layout : ArrowDataType → Layout → Layout → Layout
dictionary_layout t keys l = dictionaries (seen t) (type_of keys) (validity_of keys) (key_numbers keys) l

-- ---- nodes

abbrev pub primitive_type_of : PrimitiveNode → PrimitiveType
primitive_type_of (array.Int8 a) = primitive.Int8
primitive_type_of (array.Int16 a) = primitive.Int16
primitive_type_of (array.Int32 a) = primitive.Int32
primitive_type_of (array.Int64 a) = primitive.Int64
primitive_type_of (array.Int128 a) = primitive.Int128
primitive_type_of (array.UInt8 a) = primitive.UInt8
primitive_type_of (array.UInt16 a) = primitive.UInt16
primitive_type_of (array.UInt32 a) = primitive.UInt32
primitive_type_of (array.UInt64 a) = primitive.UInt64
primitive_type_of (array.DaysMs a) = primitive.DaysMs
primitive_type_of (array.MonthDayNano a) = primitive.MonthDayNano

abbrev pub primitive_node_layout : PrimitiveNode → Layout
primitive_node_layout (array.Int8 a) = primitive_layout (signed w8) a
primitive_node_layout (array.Int16 a) = primitive_layout (signed w16) a
primitive_node_layout (array.Int32 a) = primitive_layout (signed w32) a
primitive_node_layout (array.Int64 a) = primitive_layout (signed w64) a
primitive_node_layout (array.Int128 a) = primitive_layout (signed w128) a
primitive_node_layout (array.UInt8 a) = primitive_layout (unsigned 8) a
primitive_node_layout (array.UInt16 a) = primitive_layout (unsigned 16) a
primitive_node_layout (array.UInt32 a) = primitive_layout (unsigned 32) a
primitive_node_layout (array.UInt64 a) = primitive_layout (unsigned 64) a
primitive_node_layout (array.DaysMs a) = primitive_layout days_ms a
primitive_node_layout (array.MonthDayNano a) = primitive_layout month_day_nano a

abbrev pub key_type_of : KeyNode → IntegerType
key_type_of (keys.Int8 a) = integer.Int8
key_type_of (keys.Int16 a) = integer.Int16
key_type_of (keys.Int32 a) = integer.Int32
key_type_of (keys.Int64 a) = integer.Int64
key_type_of (keys.Int128 a) = integer.Int128
key_type_of (keys.UInt8 a) = integer.UInt8
key_type_of (keys.UInt16 a) = integer.UInt16
key_type_of (keys.UInt32 a) = integer.UInt32
key_type_of (keys.UInt64 a) = integer.UInt64

-- The primitive type that keys of a type are stored as.
abbrev pub key_primitive : IntegerType → PrimitiveType
key_primitive integer.Int8 = primitive.Int8
key_primitive integer.Int16 = primitive.Int16
key_primitive integer.Int32 = primitive.Int32
key_primitive integer.Int64 = primitive.Int64
key_primitive integer.Int128 = primitive.Int128
key_primitive integer.UInt8 = primitive.UInt8
key_primitive integer.UInt16 = primitive.UInt16
key_primitive integer.UInt32 = primitive.UInt32
key_primitive integer.UInt64 = primitive.UInt64

abbrev pub key_layout : KeyNode → Layout
key_layout (keys.Int8 a) = primitive_layout (signed w8) a
key_layout (keys.Int16 a) = primitive_layout (signed w16) a
key_layout (keys.Int32 a) = primitive_layout (signed w32) a
key_layout (keys.Int64 a) = primitive_layout (signed w64) a
key_layout (keys.Int128 a) = primitive_layout (signed w128) a
key_layout (keys.UInt8 a) = primitive_layout (unsigned 8) a
key_layout (keys.UInt16 a) = primitive_layout (unsigned 16) a
key_layout (keys.UInt32 a) = primitive_layout (unsigned 32) a
key_layout (keys.UInt64 a) = primitive_layout (unsigned 64) a

abbrev pub layout_of : Node → Layout
layout_of (node.Null t n) = nulls (seen t) n
layout_of (node.Boolean a) = boolean_layout a
layout_of (node.Primitive a) = primitive_node_layout a
layout_of (node.Binary a) = binary_layout (λ o. o) a
layout_of (node.LargeBinary a) = binary_layout (λ o. o) a
layout_of (node.Utf8 a) = binary_layout (λ o. o) a
layout_of (node.LargeUtf8 a) = binary_layout (λ o. o) a
layout_of (node.FixedSizeBinary a) = fixed_size_binary_layout a
layout_of (node.BinaryView a) = view_layout a
layout_of (node.Utf8View a) = view_layout a
layout_of (node.List t os l m) = list_layout (λ o. o) t os l m
layout_of (node.LargeList t os l m) = list_layout (λ o. o) t os l m
layout_of (node.Map t os l m) = list_layout (λ o. o) t os l m
layout_of (node.FixedSizeList t k n l m) = fixed_size_lists (seen t) m k n l
layout_of (node.Struct t n ls m) = structs (seen t) m n (layouts ls.items)
layout_of (node.Union t ts os ls shift) = union_layout t ts os (layouts ls.items) shift
layout_of (node.Dictionary t ks l) = dictionary_layout t (key_layout ks) l

-- The physical type of each variant. Lists and maps have one layout, and differ in it.
abbrev pub node_physical : Node → PhysicalType
node_physical (node.Null t n) = physical.Null
node_physical (node.Boolean a) = physical.Boolean
node_physical (node.Primitive a) = physical.Primitive (primitive_type_of a)
node_physical (node.Binary a) = physical.Binary
node_physical (node.LargeBinary a) = physical.LargeBinary
node_physical (node.Utf8 a) = physical.Utf8
node_physical (node.LargeUtf8 a) = physical.LargeUtf8
node_physical (node.FixedSizeBinary a) = physical.FixedSizeBinary
node_physical (node.BinaryView a) = physical.BinaryView
node_physical (node.Utf8View a) = physical.Utf8View
node_physical (node.List t os l m) = physical.List
node_physical (node.LargeList t os l m) = physical.LargeList
node_physical (node.Map t os l m) = physical.Map
node_physical (node.FixedSizeList t k n l m) = physical.FixedSizeList
node_physical (node.Struct t n ls m) = physical.Struct
node_physical (node.Union t ts os ls shift) = physical.Union
node_physical (node.Dictionary t ks l) = physical.Dictionary (key_type_of ks)

-- The type is stored as the variant stores it.
abbrev pub IsOfItsType : Node → Type 0
IsOfItsType n = IsStoredAs (node_physical n) (layout_of n)

-- What a node owes beside what its parts keep: nothing of a flat array, which keeps all itself.
abbrev pub IsSoundNode : Node → Type 0
IsSoundNode (node.Boolean a) = ⊤
IsSoundNode (node.Primitive a) = ⊤
IsSoundNode (node.Binary a) = ⊤
IsSoundNode (node.LargeBinary a) = ⊤
IsSoundNode (node.Utf8 a) = ⊤
IsSoundNode (node.LargeUtf8 a) = ⊤
IsSoundNode (node.FixedSizeBinary a) = ⊤
IsSoundNode (node.BinaryView a) = ⊤
IsSoundNode (node.Utf8View a) = ⊤
IsSoundNode n = FitsHere (layout_of n) × IsOfItsType n

-- ---- parts of nodes

-- No child is cut with the slots.
abbrev pub HasOwnSlots : Node → Type 0
HasOwnSlots (node.FixedSizeList t k n l m) = ⊥
HasOwnSlots (node.Struct t n ls m) = ⊥
HasOwnSlots n = ⊤

-- A union has an offset for each of n slots, where it has offsets.
abbrev pub CoverSlots : ℕ → Option (List ℤ) → Type 0
CoverSlots n None = ⊤
CoverSlots n (Some os) = n ≤ length os

abbrev pub cut_dense : ℕ → ℕ → Option (List ℤ) → Option (List ℤ)
cut_dense o n None = None
cut_dense o n (Some os) = Some (part o n os)

-- The shift of a union without offsets rises.
abbrev pub cut_shift : ℕ → Option (List ℤ) → ℕ → ℕ
cut_shift o None shift = shift + o
cut_shift o (Some os) shift = shift
