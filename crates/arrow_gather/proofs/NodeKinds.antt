-- What a node is, from the variants that it is not.
use Rattle.std.proofs.Common.{◌≡◌, refl, sym, Some, None, Result, Ok, Err, IfOk}
use Rattle.arrow_layout.specs.OfValues.{IsOfValues}
use Rattle.arrow_meaning.specs.Nodes.{IsSoundNode, layout_of, node_physical, primitive_node_layout}
use Rattle.arrow_meaning.specs.declared.node.Node.{Node}
use Rattle.arrow_meaning.specs.declared.node.Node.TheVariants as node
use Rattle.arrow_meaning.specs.declared.primitive.PrimitiveNode.{PrimitiveNode}
use Rattle.arrow_meaning.specs.declared.primitive.PrimitiveNode.TheVariants as array
use Rattle.arrow_gather.specs.Lists.{IsListKind}

primitive_values : (a : PrimitiveNode) → IsOfValues (primitive_node_layout a)
primitive_values (array.Int8 a) = tt
primitive_values (array.Int16 a) = tt
primitive_values (array.Int32 a) = tt
primitive_values (array.Int64 a) = tt
primitive_values (array.Int128 a) = tt
primitive_values (array.UInt8 a) = tt
primitive_values (array.UInt16 a) = tt
primitive_values (array.UInt32 a) = tt
primitive_values (array.UInt64 a) = tt
primitive_values (array.DaysMs a) = tt
primitive_values (array.MonthDayNano a) = tt

module _
    (n : Node) (list : (t os l m : _) → n ≡ node.List t os l m → ⊥) (large_list : (t os l m : _) → n ≡ node.LargeList t os l m → ⊥) (map : (t os l m : _) → n ≡ node.Map t os l m → ⊥)
  where
    not_by : (k : Node) → k ≡ n → IsListKind (node_physical k) → ⊥
    not_by (node.List t os l m) e h = list t os l m (sym e)
    not_by (node.LargeList t os l m) e h = large_list t os l m (sym e)
    not_by (node.Map t os l m) e h = map t os l m (sym e)
    not_by (node.Null t k) e h = h
    not_by (node.Boolean a) e h = h
    not_by (node.Primitive a) e h = h
    not_by (node.Binary a) e h = h
    not_by (node.LargeBinary a) e h = h
    not_by (node.Utf8 a) e h = h
    not_by (node.LargeUtf8 a) e h = h
    not_by (node.FixedSizeBinary a) e h = h
    not_by (node.BinaryView a) e h = h
    not_by (node.Utf8View a) e h = h
    not_by (node.FixedSizeList t k c l m) e h = h
    not_by (node.Struct t k ls m) e h = h
    not_by (node.Union t ts os ls s) e h = h
    not_by (node.Dictionary t ks l) e h = h

    pub not_list : IsListKind (node_physical n) → ⊥
    not_list h = not_by n refl h

    module _
        (null : (t k : _) → n ≡ node.Null t k → ⊥) (fixed : (t k c l m : _) → n ≡ node.FixedSizeList t k c l m → ⊥) (struct : (t k ls m : _) → n ≡ node.Struct t k ls m → ⊥)
        (union : (t ts os ls s : _) → n ≡ node.Union t ts os ls s → ⊥) (dictionary : (t ks l : _) → n ≡ node.Dictionary t ks l → ⊥)
      where
        values_by : (k : Node) → k ≡ n → IsOfValues (layout_of k)
        values_by (node.List t os l m) e = absurd (list t os l m (sym e))
        values_by (node.LargeList t os l m) e = absurd (large_list t os l m (sym e))
        values_by (node.Map t os l m) e = absurd (map t os l m (sym e))
        values_by (node.Null t k) e = absurd (null t k (sym e))
        values_by (node.FixedSizeList t k c l m) e = absurd (fixed t k c l m (sym e))
        values_by (node.Struct t k ls m) e = absurd (struct t k ls m (sym e))
        values_by (node.Union t ts os ls s) e = absurd (union t ts os ls s (sym e))
        values_by (node.Dictionary t ks l) e = absurd (dictionary t ks l (sym e))
        values_by (node.Boolean a) e = tt
        values_by (node.Primitive array) e = primitive_values array
        values_by (node.Binary a) e = tt
        values_by (node.LargeBinary a) e = tt
        values_by (node.Utf8 a) e = tt
        values_by (node.LargeUtf8 a) e = tt
        values_by (node.FixedSizeBinary a) e = tt
        values_by (node.BinaryView a) e = tt
        values_by (node.Utf8View a) e = tt

        pub of_values : IsOfValues (layout_of n)
        of_values = values_by n refl

pub values_sound : (n : Node) → IsOfValues (layout_of n) → IsSoundNode n
values_sound (node.Boolean a) v = tt
values_sound (node.Primitive a) v = tt
values_sound (node.Binary a) v = tt
values_sound (node.LargeBinary a) v = tt
values_sound (node.Utf8 a) v = tt
values_sound (node.LargeUtf8 a) v = tt
values_sound (node.FixedSizeBinary a) v = tt
values_sound (node.BinaryView a) v = tt
values_sound (node.Utf8View a) v = tt
values_sound (node.Null t k) v = absurd v
values_sound (node.List t os l m) v = absurd v
values_sound (node.LargeList t os l m) v = absurd v
values_sound (node.Map t os l m) v = absurd v
values_sound (node.FixedSizeList t k c l m) v = absurd v
values_sound (node.Struct t k ls m) v = absurd v
values_sound (node.Union t ts None ls s) v = absurd v
values_sound (node.Union t ts (Some os) ls s) v = absurd v
values_sound (node.Dictionary t ks l) v = absurd v

pub ok_becomes : {A E : Type 0} (P Q : A → Type 0) → ((x : A) → P x → Q x) → (r : Result A E) → IfOk r P → IfOk r Q
ok_becomes P Q f (Ok x) h = f x h
ok_becomes P Q f (Err e) h = tt
