-- The data of a layout is what stands before its children, the children, and what stands after.
use Rattle.std.proofs.Common.{◌≡◌, ℕ, ◌+◌, List, [], ◌∷◌, ◌++◌, refl, ap, sym, ◌∙◌, append_assoc, append-nil, Option, Some, None, Result, Ok, Err, arith}
use Rattle.std.specs.Prelude.{map, codes, OnOk, ℤ}
use Rattle.std.specs.Int.{Width, w8, w16, w32, w64, w128}
use Rattle.json.specs.Token.{Token, begin_object, end_object, begin_array, end_array, key}
use Rattle.json.specs.Written.{Written}
use Rattle.serde_json.specs.Data.{Data}
use Rattle.arrow_types.specs.declared.datatype.ArrowDataType.{ArrowDataType}
use Rattle.arrow_types.specs.declared.datatype.PrimitiveType.{PrimitiveType}
use Rattle.arrow_flat.specs.Natives.{signed, unsigned}
use Rattle.arrow_layout.specs.Forms.{form_of, primitive_by}
use Rattle.arrow_layout.specs.Layouts.{Layout, nulls, booleans, primitives, binaries, fixed_size_binaries, views, lists, fixed_size_lists, structs, sparse_unions, dense_unions, dictionaries, Layouts, layouts, type_of}
use Rattle.arrow_layout.specs.NodeCount.{node_count, node_counts}
use Rattle.arrow_layout.specs.Paths.{children_of}
use Rattle.arrow_meaning.specs.Nodes.{key_layout, key_number, key_numbers, union_layout}
use Rattle.arrow_meaning.specs.declared.keys.KeyNode.{KeyNode}
use Rattle.arrow_meaning.specs.declared.keys.KeyNode.TheVariants as keys
use Rattle.column_grammar.specs.Values.{list_value, mask_value, integer_value, number_value}
use Rattle.column_grammar.specs.Writes.{data_value, children_values, single_value, union_offsets_value}
use Rattle.column_json.specs.Children.{each_tokens, head_tokens, rows_value, tail_tokens, two_tokens}
use Rattle.column_json.specs.Puts.{Grows, Puts, value_tokens}
use Rattle.column_json.proofs.Tokens.{list_tokens}

one_child : (h t : List Token) (d : Data) → h ++ (value_tokens d ++ t) ≡ h ++ (each_tokens (d ∷ []) ++ t)
one_child h t d = ap (λ ts. h ++ (ts ++ t)) (sym (append-nil (value_tokens d)))

in_list : (k : List ℕ) (ds : List Data) (t : List Token) → begin_object ∷ key k ∷ (value_tokens (list_value ds) ++ t) ≡ begin_object ∷ key k ∷ begin_array ∷ (each_tokens ds ++ end_array ∷ t)
in_list k ds t = ap (λ ts. begin_object ∷ key k ∷ ts) (ap (λ ts. ts ++ t) (list_tokens ds) ∙ ap (λ ts. begin_array ∷ ts) (append_assoc (each_tokens ds) (end_array ∷ []) t))

values_first : (a b c : List Token) → begin_object ∷ key (codes "keys") ∷ (a ++ key (codes "mask") ∷ (b ++ key (codes "values") ∷ (c ++ end_object ∷ [])))
    ≡ (begin_object ∷ key (codes "keys") ∷ (a ++ key (codes "mask") ∷ (b ++ key (codes "values") ∷ []))) ++ (c ++ end_object ∷ [])
values_first a b c = simp append_assoc

pub whole_tokens : (l : Layout) → value_tokens (data_value l) ≡ head_tokens l ++ (each_tokens (children_values (children_of l)) ++ tail_tokens l)
whole_tokens (lists t m os l) = one_child (begin_object ∷ key (codes "child") ∷ []) (tail_tokens (lists t m os l)) (data_value l)
whole_tokens (fixed_size_lists t m k n l) = one_child (begin_object ∷ key (codes "child") ∷ []) (tail_tokens (fixed_size_lists t m k n l)) (data_value l)
whole_tokens (structs t m n ls) = in_list (codes "children") (children_values ls) _
whole_tokens (sparse_unions t o ts ls) = in_list (codes "children") (children_values ls) _
whole_tokens (dense_unions t o ts os ls) = in_list (codes "children") (children_values ls) _
whole_tokens (dictionaries t u m ks l) =
    values_first (value_tokens (list_value (map (single_value (primitive_by (form_of u))) ks))) (value_tokens (mask_value m)) (value_tokens (data_value l)) ∙ one_child (head_tokens (dictionaries t u m ks l)) (end_object ∷ []) (data_value l)
whole_tokens (nulls t n) = sym (append-nil _)
whole_tokens (booleans t m vs) = sym (append-nil _)
whole_tokens (primitives t m xs) = sym (append-nil _)
whole_tokens (binaries t m os bs) = sym (append-nil _)
whole_tokens (fixed_size_binaries t m k n bs) = sym (append-nil _)
whole_tokens (views t m vs buffers) = sym (append-nil _)

values_of_layouts : (ls : List Layout) → children_values (layouts ls) ≡ map data_value ls
values_of_layouts [] = refl
values_of_layouts (l ∷ ls) = ap (λ ds. data_value l ∷ ds) (values_of_layouts ls)

-- before, children and after are the whole
pub whole_put : {E : Type 0} (l : Layout) (ls : List Layout) (r : Result Unit E) (old one two new : Written) → layouts ls ≡ children_of l → Grows old one (head_tokens l)
    → Grows one two (each_tokens (map data_value ls)) → OnOk r (Grows two new (tail_tokens l)) → OnOk r (Puts old new (data_value l))
whole_put l ls (Ok u) old one two new e a b c =
    let inner : map data_value ls ≡ children_values (children_of l) = sym (values_of_layouts ls) ∙ ap children_values e in
    let middle = each_tokens (children_values (children_of l)) in
    let more : two.tokens ≡ (old.tokens ++ head_tokens l) ++ middle = b.tokens ∙ ap (λ ts. ts ++ each_tokens (map data_value ls)) a.tokens ∙ ap (λ ds. (old.tokens ++ head_tokens l) ++ each_tokens ds) inner in
    record {
      tokens = c.tokens ∙ ap (λ ts. ts ++ tail_tokens l) more ∙ append_assoc (old.tokens ++ head_tokens l) middle (tail_tokens l) ∙ append_assoc old.tokens (head_tokens l) (middle ++ tail_tokens l)
          ∙ ap (λ ts. old.tokens ++ ts) (sym (whole_tokens l));
      before = c.before ∙ b.before ∙ a.before;
    }
whole_put l ls (Err error) old one two new e a b c = tt

-- ---- unions

pub union_tail : (t : ArrowDataType) (ts : List ℤ) (os : Option (List ℤ)) (ls : Layouts) (shift : ℕ)
    → end_array ∷ two_tokens (codes "offsets") (union_offsets_value os) (codes "types") (list_value (map integer_value ts)) ≡ tail_tokens (union_layout t ts os ls shift)
union_tail t ts None ls shift = refl
union_tail t ts (Some os) ls shift = refl

pub union_head : (t : ArrowDataType) (ts : List ℤ) (os : Option (List ℤ)) (ls : Layouts) (shift : ℕ) → begin_object ∷ key (codes "children") ∷ begin_array ∷ [] ≡ head_tokens (union_layout t ts os ls shift)
union_head t ts None ls shift = refl
union_head t ts (Some os) ls shift = refl

-- ---- keys, which have one number each

module _ (p : PrimitiveType) where
  one_signed : (w : Width) (xs : List ℤ) → map (number_value p) (map (signed w) xs) ≡ map (single_value p) (map key_number (map (signed w) xs))
  one_signed w [] = refl
  one_signed w (x ∷ xs) = ap (λ ds. single_value p (key_number (signed w x)) ∷ ds) (one_signed w xs)

  one_unsigned : (n : ℕ) (xs : List ℕ) → map (number_value p) (map (unsigned n) xs) ≡ map (single_value p) (map key_number (map (unsigned n) xs))
  one_unsigned n [] = refl
  one_unsigned n (x ∷ xs) = ap (λ ds. single_value p (key_number (unsigned n x)) ∷ ds) (one_unsigned n xs)

abbrev numbers_of : Layout → Data
numbers_of l = list_value (map (single_value (primitive_by (form_of (type_of l)))) (key_numbers l))

pub keys_single : (ks : KeyNode) → rows_value (key_layout ks) ≡ numbers_of (key_layout ks)
keys_single (keys.Int8 a) = ap list_value (one_signed _ w8 a.values)
keys_single (keys.Int16 a) = ap list_value (one_signed _ w16 a.values)
keys_single (keys.Int32 a) = ap list_value (one_signed _ w32 a.values)
keys_single (keys.Int64 a) = ap list_value (one_signed _ w64 a.values)
keys_single (keys.Int128 a) = ap list_value (one_signed _ w128 a.values)
keys_single (keys.UInt8 a) = ap list_value (one_unsigned _ 8 a.values)
keys_single (keys.UInt16 a) = ap list_value (one_unsigned _ 16 a.values)
keys_single (keys.UInt32 a) = ap list_value (one_unsigned _ 32 a.values)
keys_single (keys.UInt64 a) = ap list_value (one_unsigned _ 64 a.values)

-- ---- the recursion falls

pub node_count-children : (l : Layout) → node_count l ≡ node_counts (children_of l) + 1
node_count-children (nulls t n) = refl
node_count-children (booleans t m vs) = refl
node_count-children (primitives t m vs) = refl
node_count-children (binaries t m os bs) = refl
node_count-children (fixed_size_binaries t m k n bs) = refl
node_count-children (views t m vs buffers) = refl
node_count-children (lists t m os l) = omega arith
node_count-children (fixed_size_lists t m k n l) = omega arith
node_count-children (structs t m n ls) = refl
node_count-children (sparse_unions t o ts ls) = refl
node_count-children (dense_unions t o ts os ls) = refl
node_count-children (dictionaries t u m ks l) = omega arith
