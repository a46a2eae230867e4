-- Parts of nodes: the keys of dictionaries, the offsets and the shift of unions, and the children.
use Rattle.std.proofs.Common.{◌≡◌, ℕ, ◌+◌, ◌^◌, ◌<◌, ◌≤◌, List, length, Option, Some, None, refl, ap, sym, ◌∙◌, arith}
use Rattle.std.specs.Prelude.{ℤ}
use Rattle.std.proofs.lemmas.List.{length-map}
use Rattle.arrow_buffers.specs.Bits.{Bits}
use Rattle.arrow_flat.specs.Primitives.{MaskHasLength, IsLed, cut_mask}
use Rattle.arrow_types.specs.Seen.{seen}
use Rattle.arrow_types.specs.Select.{nat_of}
use Rattle.arrow_types.specs.TypeData.{TypeData}
use Rattle.arrow_types.specs.Types.{physical_of}
use Rattle.arrow_types.specs.declared.datatype.ArrowDataType.{ArrowDataType}
use Rattle.arrow_types.specs.declared.datatype.IntegerType.{IntegerType}
use Rattle.arrow_types.specs.declared.datatype.IntegerType.TheVariants as integer
use Rattle.arrow_types.specs.declared.datatype.PhysicalType.{PhysicalType}
use Rattle.arrow_types.specs.declared.datatype.PhysicalType.TheVariants as physical
use Rattle.arrow_types.specs.declared.datatype.PrimitiveType.{PrimitiveType}
use Rattle.arrow_types.specs.declared.datatype.PrimitiveType.TheVariants as primitive
use Rattle.arrow_layout.specs.Cut.{cut}
use Rattle.arrow_layout.specs.FitsHere.{FitsHere, HaveLengths}
use Rattle.arrow_layout.specs.Layouts.{Layout, Layouts, child, dense_unions, dictionaries, length_of, lengths_of, no_layouts, primitives, sparse_unions, type_of}
use Rattle.arrow_layout.specs.WellFormed.{AreWellFormed, MaskFits, WellFormed}
use Rattle.arrow_layout.proofs.CutForms.{cut_well_formed, type-cut}
use Rattle.arrow_layout.proofs.Cuts.{part-map}
use Rattle.arrow_layout.proofs.Lengths.{offsets_many}
use Rattle.arrow_meaning.specs.declared.keys.KeyNode.{KeyNode}
use Rattle.arrow_meaning.specs.declared.keys.KeyNode.TheVariants as keys
use Rattle.arrow_meaning.specs.declared.node.Node.{Node}
use Rattle.arrow_meaning.specs.declared.node.Node.TheVariants as node
use Rattle.arrow_meaning.specs.Nodes.{CoverSlots, IsOfItsType, IsSoundNode, IsStoredAs, dictionary_layout, key_layout, key_number, key_primitive, layout_of, union_layout}

-- ---- keys

abbrev key_back : PrimitiveType → IntegerType
key_back primitive.Int8 = integer.Int8
key_back primitive.Int16 = integer.Int16
key_back primitive.Int32 = integer.Int32
key_back primitive.Int64 = integer.Int64
key_back primitive.Int128 = integer.Int128
key_back primitive.UInt8 = integer.UInt8
key_back primitive.UInt16 = integer.UInt16
key_back primitive.UInt32 = integer.UInt32
key_back primitive.UInt64 = integer.UInt64
key_back _ = integer.Int8

back-key : (k : IntegerType) → key_back (key_primitive k) ≡ k
back-key integer.Int8 = refl
back-key integer.Int16 = refl
back-key integer.Int32 = refl
back-key integer.Int64 = refl
back-key integer.Int128 = refl
back-key integer.UInt8 = refl
back-key integer.UInt16 = refl
back-key integer.UInt32 = refl
back-key integer.UInt64 = refl

abbrev primitive_in : PhysicalType → PrimitiveType
primitive_in (physical.Primitive p) = p
primitive_in _ = primitive.Int8

-- the type of keys, from what they are stored as
pub same_keys : (a b : IntegerType) → physical.Primitive (key_primitive a) ≡ physical.Primitive (key_primitive b) → physical.Dictionary a ≡ physical.Dictionary b
same_keys a b e = ap physical.Dictionary (sym (back-key a) ∙ (ap (λ p. key_back (primitive_in p)) e ∙ back-key b))

module _ (t : ArrowDataType) (l : Layout) (o n : ℕ) where
  one : (u : TypeData) (m : Option Bits) (rows : List (List ℤ)) → dictionary_layout t (cut (primitives u m rows) o n) l ≡ cut (dictionary_layout t (primitives u m rows) l) o n
  one u m rows = ap (λ ks. dictionaries (seen t) u (cut_mask o n m) ks l) (sym (part-map key_number o n rows))

  pub dictionary_part : (k : KeyNode) → dictionary_layout t (cut (key_layout k) o n) l ≡ cut (dictionary_layout t (key_layout k) l) o n
  dictionary_part (keys.Int8 a) = one _ _ _
  dictionary_part (keys.Int16 a) = one _ _ _
  dictionary_part (keys.Int32 a) = one _ _ _
  dictionary_part (keys.Int64 a) = one _ _ _
  dictionary_part (keys.Int128 a) = one _ _ _
  dictionary_part (keys.UInt8 a) = one _ _ _
  dictionary_part (keys.UInt16 a) = one _ _ _
  dictionary_part (keys.UInt32 a) = one _ _ _
  dictionary_part (keys.UInt64 a) = one _ _ _

-- ---- unions

dense_length : (t : TypeData) (o : ℕ) (ts os : List ℤ) (ls : Layouts) → WellFormed (dense_unions t o ts os ls) → length os ≡ length ts
dense_length t o ts os ls w = sym (length-map os nat_of) ∙ (offsets_many t ts os (lengths_of ls) w.4 ∙ length-map ts nat_of)

pub union_covers : (t : ArrowDataType) (ts : List ℤ) (os : Option (List ℤ)) (ls : Layouts) (shift o n : ℕ) → WellFormed (union_layout t ts os ls shift) → o + n ≤ length_of (union_layout t ts os ls shift)
    → CoverSlots (o + n) os
union_covers t ts None ls shift o n w h = tt
union_covers t ts (Some os) ls shift o n w h = omega (arith, dense_length (seen t) shift ts os ls w, h)

pub union_small : (t : ArrowDataType) (ts : List ℤ) (os : Option (List ℤ)) (ls : Layouts) (shift o n : ℕ) → WellFormed (union_layout t ts os ls shift) → o + n ≤ length_of (union_layout t ts os ls shift)
    → shift + o < 2 ^ 64
union_small t ts None ls shift o n w h = (cut_well_formed (sparse_unions (seen t) shift ts ls) o n w h).2
union_small t ts (Some os) ls shift o n w h = omega (arith, w.0.count, w.2, h)

-- ---- what a node owes

module _
    (n : Node) (boolean : (a : _) → n ≡ node.Boolean a → ⊥) (primitive_array : (a : _) → n ≡ node.Primitive a → ⊥) (binary : (a : _) → n ≡ node.Binary a → ⊥) (large_binary : (a : _) → n ≡ node.LargeBinary a → ⊥)
    (utf8 : (a : _) → n ≡ node.Utf8 a → ⊥) (large_utf8 : (a : _) → n ≡ node.LargeUtf8 a → ⊥) (fixed : (a : _) → n ≡ node.FixedSizeBinary a → ⊥) (view : (a : _) → n ≡ node.BinaryView a → ⊥)
    (utf8_view : (a : _) → n ≡ node.Utf8View a → ⊥)
  where
    by : (k : Node) → k ≡ n → IsSoundNode k → FitsHere (layout_of k) × IsOfItsType k
    by (node.Boolean a) e h = absurd (boolean a (sym e))
    by (node.Primitive a) e h = absurd (primitive_array a (sym e))
    by (node.Binary a) e h = absurd (binary a (sym e))
    by (node.LargeBinary a) e h = absurd (large_binary a (sym e))
    by (node.Utf8 a) e h = absurd (utf8 a (sym e))
    by (node.LargeUtf8 a) e h = absurd (large_utf8 a (sym e))
    by (node.FixedSizeBinary a) e h = absurd (fixed a (sym e))
    by (node.BinaryView a) e h = absurd (view a (sym e))
    by (node.Utf8View a) e h = absurd (utf8_view a (sym e))
    by _ e h = h

    pub nested_fits : IsSoundNode n → FitsHere (layout_of n) × IsOfItsType n
    nested_fits h = by n refl h

-- ---- children

pub least_lengths : (n k : ℕ) (ls : Layouts) → n ≤ k → AreWellFormed (λ i. i ≡ k) ls → HaveLengths (λ i. n ≤ i) ls
least_lengths n k no_layouts h w = tt
least_lengths n k (child l ls) h w = (omega (arith, h, w.0), least_lengths n k ls h w.2)

-- ---- masks

pub mask_fits_led : (m : Option Bits) (n : ℕ) → MaskHasLength m n → IsLed m → MaskFits m n
mask_fits_led None n h k = tt
mask_fits_led (Some b) n h k = (h, k)

-- a node of the same type as an array
pub stored_part : (n : PhysicalType) (l k : Layout) (o c : ℕ) → k ≡ cut l o c → IsStoredAs n l → IsStoredAs n k
stored_part n l k o c e s = ap physical_of (ap type_of e ∙ type-cut l o c) ∙ s
