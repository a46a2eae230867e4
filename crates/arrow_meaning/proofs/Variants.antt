-- The variant of a node, from the type that it stores.
use Rattle.std.proofs.Common.{◌≡◌, Option, Some, None, refl, subst, sym, ◌∙◌}
use Rattle.std.specs.Prelude.{MatchOption, ⊤}
use Rattle.arrow_layout.specs.Layouts.{Layout}
use Rattle.arrow_types.specs.declared.datatype.IntegerType.{IntegerType}
use Rattle.arrow_types.specs.declared.datatype.IntegerType.TheVariants as integer
use Rattle.arrow_types.specs.declared.datatype.PhysicalType.{PhysicalType}
use Rattle.arrow_types.specs.declared.datatype.PhysicalType.TheVariants as physical
use Rattle.arrow_types.specs.declared.datatype.PrimitiveType.{PrimitiveType}
use Rattle.arrow_types.specs.declared.datatype.PrimitiveType.TheVariants as primitive
use Rattle.arrow_meaning.specs.declared.keys.KeyNode.{KeyNode}
use Rattle.arrow_meaning.specs.declared.keys.KeyNode.TheVariants as keys
use Rattle.arrow_meaning.specs.declared.node.Node.{Node}
use Rattle.arrow_meaning.specs.declared.node.Node.TheVariants as node
use Rattle.arrow_meaning.specs.declared.primitive.PrimitiveNode.{PrimitiveNode}
use Rattle.arrow_meaning.specs.declared.primitive.PrimitiveNode.TheVariants as array
use Rattle.arrow_meaning.specs.Nodes.{IsStoredAs, key_type_of, layout_of, node_physical, primitive_node_layout, primitive_type_of}

-- n is the variant of p
abbrev pub IsArrayOf : PrimitiveType → PrimitiveNode → Type 0
IsArrayOf primitive.Int8 n = (a : _) × (n ≡ array.Int8 a)
IsArrayOf primitive.Int16 n = (a : _) × (n ≡ array.Int16 a)
IsArrayOf primitive.Int32 n = (a : _) × (n ≡ array.Int32 a)
IsArrayOf primitive.Int64 n = (a : _) × (n ≡ array.Int64 a)
IsArrayOf primitive.Int128 n = (a : _) × (n ≡ array.Int128 a)
IsArrayOf primitive.UInt8 n = (a : _) × (n ≡ array.UInt8 a)
IsArrayOf primitive.UInt16 n = (a : _) × (n ≡ array.UInt16 a)
IsArrayOf primitive.UInt32 n = (a : _) × (n ≡ array.UInt32 a)
IsArrayOf primitive.UInt64 n = (a : _) × (n ≡ array.UInt64 a)
IsArrayOf primitive.DaysMs n = (a : _) × (n ≡ array.DaysMs a)
IsArrayOf primitive.MonthDayNano n = (a : _) × (n ≡ array.MonthDayNano a)
IsArrayOf _ n = ⊤

is_array : (n : PrimitiveNode) → IsArrayOf (primitive_type_of n) n
is_array (array.Int8 a) = (a, refl)
is_array (array.Int16 a) = (a, refl)
is_array (array.Int32 a) = (a, refl)
is_array (array.Int64 a) = (a, refl)
is_array (array.Int128 a) = (a, refl)
is_array (array.UInt8 a) = (a, refl)
is_array (array.UInt16 a) = (a, refl)
is_array (array.UInt32 a) = (a, refl)
is_array (array.UInt64 a) = (a, refl)
is_array (array.DaysMs a) = (a, refl)
is_array (array.MonthDayNano a) = (a, refl)

pub array_of : (n : PrimitiveNode) (p : PrimitiveType) → primitive_type_of n ≡ p → IsArrayOf p n
array_of n p e = subst (λ q. IsArrayOf q n) e (is_array n)

abbrev pub AreKeysOf : IntegerType → KeyNode → Type 0
AreKeysOf integer.Int8 n = (a : _) × (n ≡ keys.Int8 a)
AreKeysOf integer.Int16 n = (a : _) × (n ≡ keys.Int16 a)
AreKeysOf integer.Int32 n = (a : _) × (n ≡ keys.Int32 a)
AreKeysOf integer.Int64 n = (a : _) × (n ≡ keys.Int64 a)
AreKeysOf integer.Int128 n = (a : _) × (n ≡ keys.Int128 a)
AreKeysOf integer.UInt8 n = (a : _) × (n ≡ keys.UInt8 a)
AreKeysOf integer.UInt16 n = (a : _) × (n ≡ keys.UInt16 a)
AreKeysOf integer.UInt32 n = (a : _) × (n ≡ keys.UInt32 a)
AreKeysOf integer.UInt64 n = (a : _) × (n ≡ keys.UInt64 a)

are_keys : (n : KeyNode) → AreKeysOf (key_type_of n) n
are_keys (keys.Int8 a) = (a, refl)
are_keys (keys.Int16 a) = (a, refl)
are_keys (keys.Int32 a) = (a, refl)
are_keys (keys.Int64 a) = (a, refl)
are_keys (keys.Int128 a) = (a, refl)
are_keys (keys.UInt8 a) = (a, refl)
are_keys (keys.UInt16 a) = (a, refl)
are_keys (keys.UInt32 a) = (a, refl)
are_keys (keys.UInt64 a) = (a, refl)

pub keys_of : (n : KeyNode) (p : IntegerType) → key_type_of n ≡ p → AreKeysOf p n
keys_of n p e = subst (λ q. AreKeysOf q n) e (are_keys n)

abbrev pub IsNodeOf : PhysicalType → Node → Type 0
IsNodeOf physical.Boolean n = (a : _) × (n ≡ node.Boolean a)
IsNodeOf physical.Binary n = (a : _) × (n ≡ node.Binary a)
IsNodeOf physical.LargeBinary n = (a : _) × (n ≡ node.LargeBinary a)
IsNodeOf physical.Utf8 n = (a : _) × (n ≡ node.Utf8 a)
IsNodeOf physical.LargeUtf8 n = (a : _) × (n ≡ node.LargeUtf8 a)
IsNodeOf physical.FixedSizeBinary n = (a : _) × (n ≡ node.FixedSizeBinary a)
IsNodeOf physical.BinaryView n = (a : _) × (n ≡ node.BinaryView a)
IsNodeOf physical.Utf8View n = (a : _) × (n ≡ node.Utf8View a)
IsNodeOf physical.List n = (t : _) × (os : _) × (l : _) × (m : _) × (n ≡ node.List t os l m)
IsNodeOf physical.LargeList n = (t : _) × (os : _) × (l : _) × (m : _) × (n ≡ node.LargeList t os l m)
IsNodeOf (physical.Primitive p) n = (a : _) × (n ≡ node.Primitive a)
IsNodeOf _ n = ⊤

is_node : (n : Node) → IsNodeOf (node_physical n) n
is_node (node.Boolean a) = (a, refl)
is_node (node.Binary a) = (a, refl)
is_node (node.LargeBinary a) = (a, refl)
is_node (node.Utf8 a) = (a, refl)
is_node (node.LargeUtf8 a) = (a, refl)
is_node (node.FixedSizeBinary a) = (a, refl)
is_node (node.BinaryView a) = (a, refl)
is_node (node.Utf8View a) = (a, refl)
is_node (node.Primitive a) = (a, refl)
is_node (node.List t os l m) = (t, os, l, m, refl)
is_node (node.LargeList t os l m) = (t, os, l, m, refl)
is_node (node.Null t n) = tt
is_node (node.Map t os l m) = tt
is_node (node.FixedSizeList t k n l m) = tt
is_node (node.Struct t n ls m) = tt
is_node (node.Union t ts os ls s) = tt
is_node (node.Dictionary t ks l) = tt

pub node_of : (n : Node) (p : PhysicalType) → node_physical n ≡ p → IsNodeOf p n
node_of n p e = subst (λ q. IsNodeOf q n) e (is_node n)

-- ---- an array that is found, by the type of its layout

same_physical : (p q : PhysicalType) → Some p ≡ Some q → p ≡ q
same_physical p q e = cc

pub stored_kind : (n : Node) (l : Layout) (p : PhysicalType) → IsStoredAs (node_physical n) l → IsStoredAs p l → node_physical n ≡ p
stored_kind n l p kind s = same_physical (node_physical n) p (sym kind ∙ s)

pub found_as : {A : Type 0} (r : Option A) (n : Node) (l : Layout) (p : PhysicalType) (seen_as : A → Layout) → layout_of n ≡ l → IsStoredAs (node_physical n) l
    → MatchOption r (node_physical n ≡ p → ⊥) (λ a. seen_as a ≡ layout_of n) → MatchOption r (IsStoredAs p l → ⊥) (λ a. seen_as a ≡ l)
found_as None n l p seen_as same kind h = λ s. h (stored_kind n l p kind s)
found_as (Some a) n l p seen_as same kind h = h ∙ same

same_primitive : (p q : PrimitiveType) → physical.Primitive p ≡ physical.Primitive q → p ≡ q
same_primitive p q e = cc

pub found_primitive : {A : Type 0} (r : Option A) (a : PrimitiveNode) (p : PrimitiveType) (seen_as : A → Layout)
    → MatchOption r (primitive_type_of a ≡ p → ⊥) (λ x. seen_as x ≡ primitive_node_layout a)
    → MatchOption r (node_physical (node.Primitive a) ≡ physical.Primitive p → ⊥) (λ x. seen_as x ≡ layout_of (node.Primitive a))
found_primitive None a p seen_as h = λ e. h (same_primitive (primitive_type_of a) p e)
found_primitive (Some x) a p seen_as h = h
