-- The node of a union, and its parts.
use Rattle.std.proofs.Common.{◌≡◌, ℕ, ◌^◌, ◌<◌, List, length, Option, Some, None, refl, subst}
use Rattle.std.specs.Prelude.{ℤ, ⊤}
use Rattle.std.specs.Global.{Vec}
use Rattle.arrow_types.specs.Seen.{seen}
use Rattle.arrow_types.specs.declared.datatype.ArrowDataType.{ArrowDataType}
use Rattle.arrow_types.specs.declared.datatype.PhysicalType.{PhysicalType}
use Rattle.arrow_types.specs.declared.datatype.PhysicalType.TheVariants as physical
use Rattle.arrow_layout.specs.FitsHere.{AllWellFormed}
use Rattle.arrow_layout.specs.Layouts.{Layout, Layouts, layouts}
use Rattle.arrow_layout.specs.Paths.{children_of}
use Rattle.arrow_meaning.specs.Nodes.{IsSoundNode, IsStoredAs, node_physical, union_layout}
use Rattle.arrow_meaning.specs.Refusals.{IsUnion}
use Rattle.arrow_meaning.specs.declared.node.Node.{Node}
use Rattle.arrow_meaning.specs.declared.node.Node.TheVariants as node
use Rattle.arrow_meaning.proofs.Variants.{stored_kind}
use Rattle.arrow_choice.specs.Unions.{AreUnionParts, given_parts, type_numbers, union_offsets, union_shift}
use Rattle.arrow_choice.proofs.Unions.{dense_fits, sparse_fits}

abbrev pub IsUnionNode : PhysicalType → Node → Type 0
IsUnionNode physical.Union n = (t : _) × (ts : _) × (os : _) × (ls : _) × (s : _) × (n ≡ node.Union t ts os ls s)
IsUnionNode _ n = ⊤

is_node : (n : Node) → IsUnionNode (node_physical n) n
is_node (node.Union t ts os ls s) = (t, ts, os, ls, s, refl)
is_node (node.Null t n) = tt
is_node (node.Boolean a) = tt
is_node (node.Primitive a) = tt
is_node (node.Binary a) = tt
is_node (node.LargeBinary a) = tt
is_node (node.Utf8 a) = tt
is_node (node.LargeUtf8 a) = tt
is_node (node.FixedSizeBinary a) = tt
is_node (node.BinaryView a) = tt
is_node (node.Utf8View a) = tt
is_node (node.List t os l m) = tt
is_node (node.LargeList t os l m) = tt
is_node (node.Map t os l m) = tt
is_node (node.FixedSizeList t k n l m) = tt
is_node (node.Struct t n ls m) = tt
is_node (node.Dictionary t ks l) = tt

pub union_node : (n : Node) (l : Layout) → IsStoredAs (node_physical n) l → IsStoredAs physical.Union l → IsUnionNode physical.Union n
union_node n l kind stored = subst (λ p. IsUnionNode p n) (stored_kind n l physical.Union kind stored) (is_node n)

module _ (t : ArrowDataType) (ts : List ℤ) (ls : Layouts) (shift : ℕ) where
  pub types-union : (os : Option (List ℤ)) → ts ≡ type_numbers (union_layout t ts os ls shift)
  types-union None = refl
  types-union (Some os) = refl

  pub offsets-union : (os : Option (List ℤ)) → os ≡ union_offsets (union_layout t ts os ls shift)
  offsets-union None = refl
  offsets-union (Some os) = refl

  pub children-union : (os : Option (List ℤ)) → ls ≡ children_of (union_layout t ts os ls shift)
  children-union None = refl
  children-union (Some os) = refl

  pub shift-union : (os : Option (List ℤ)) → shift ≡ union_shift (union_layout t ts os ls shift)
  shift-union None = refl
  shift-union (Some os) = refl

  pub is_union : (os : Option (List ℤ)) → IsUnion (union_layout t ts os ls shift)
  is_union None = tt
  is_union (Some os) = tt

pub union_sound : (t : ArrowDataType) (ts : List ℤ) (os : Option (List ℤ)) (ls : Vec Layout) → AreUnionParts (given_parts t ts os ls.items) → AllWellFormed (layouts ls.items) → length ts < 2 ^ 64
    → IsSoundNode (node.Union t ts os ls 0)
union_sound t ts None ls p w n = (sparse_fits (seen t) ts (layouts ls.items) p w n, p.shape.stored)
union_sound t ts (Some os) ls p w n = (dense_fits (seen t) ts os (layouts ls.items) p w n, p.shape.stored)
