-- The node and the type of a dictionary.
use Rattle.std.proofs.Common.{◌≡◌, Bool, true, false, Some, ap, refl, subst, sym, ◌∙◌}
use Rattle.arrow_types.specs.Carried.{IsCarried}
use Rattle.arrow_types.specs.Seen.{seen, back}
use Rattle.arrow_types.specs.TypeData.{TypeData}
use Rattle.arrow_types.specs.TypeData as T
use Rattle.arrow_types.specs.Types.{logical_of, physical_of}
use Rattle.arrow_types.specs.declared.datatype.ArrowDataType.{ArrowDataType}
use Rattle.arrow_types.specs.declared.datatype.ArrowDataType as A
use Rattle.arrow_types.specs.declared.datatype.ExtensionType.{ExtensionType}
use Rattle.arrow_types.specs.declared.datatype.IntegerType.{IntegerType}
use Rattle.arrow_types.specs.declared.datatype.PhysicalType.{PhysicalType}
use Rattle.arrow_types.specs.declared.datatype.PhysicalType.TheVariants as physical
use Rattle.arrow_types.proofs.Back.{back-seen}
use Rattle.arrow_layout.specs.Forms.{Form, nulls_of, booleans_of, primitives_of, binaries_of, fixed_size_binaries_of, views_of, lists_of, fixed_size_lists_of, structs_of, unions_of, dictionaries_of, no_form, form_of, key_by, value_by}
use Rattle.arrow_layout.specs.Layouts.{Layout, nulls, booleans, primitives, binaries, fixed_size_binaries, views, lists, fixed_size_lists, structs, sparse_unions, dense_unions, dictionaries, type_of}
use Rattle.arrow_layout.specs.WellFormed.{WellFormed}
use Rattle.arrow_layout.proofs.Physical.{list_kind, physical_by, physical-by}
use Rattle.arrow_meaning.specs.declared.keys.KeyNode.{KeyNode}
use Rattle.arrow_meaning.specs.declared.node.Node.{Node}
use Rattle.arrow_meaning.specs.declared.node.Node.TheVariants as node
use Rattle.arrow_meaning.specs.Nodes.{IsStoredAs, key_type_of, node_physical}
use Rattle.arrow_choice.specs.Dictionaries.{IsDictionary}

-- ---- the variant

abbrev pub IsDictionaryNode : Node → Type 0
IsDictionaryNode n = (t : ArrowDataType) × (ks : KeyNode) × (l : Layout) × (n ≡ node.Dictionary t ks l)

pub dictionary_node : (n : Node) (k : IntegerType) → node_physical n ≡ physical.Dictionary k → IsDictionaryNode n
dictionary_node (node.Dictionary t ks l) k e = (t, ks, l, refl)
dictionary_node _ k e = cc

same_key : (k j : IntegerType) → Some (physical.Dictionary k) ≡ Some (physical.Dictionary j) → k ≡ j
same_key k j e = cc

same_physical : (p q : PhysicalType) → Some p ≡ Some q → p ≡ q
same_physical p q e = cc

-- a node that is stored as a dictionary's is one
pub stored_dictionary : (n : Node) (l : Layout) (k : IntegerType) → IsStoredAs (node_physical n) l → IsStoredAs (physical.Dictionary k) l → IsDictionaryNode n
stored_dictionary n l k kind s = dictionary_node n k (same_physical (node_physical n) (physical.Dictionary k) (sym kind ∙ s))

-- its keys are those of the type
pub stored_keys : (ks : KeyNode) (l : Layout) (k : IntegerType) → IsStoredAs (physical.Dictionary (key_type_of ks)) l → IsStoredAs (physical.Dictionary k) l → key_type_of ks ≡ k
stored_keys ks l k kind s = same_key (key_type_of ks) k (sym kind ∙ s)

-- ---- the type

no_dictionary : (t : TypeData) (k : IntegerType) → list_kind t ≡ physical.Dictionary k → ⊥
no_dictionary (T.map f o) k e = cc
no_dictionary (T.extension n t m) k e = no_dictionary t k e
no_dictionary _ k e = cc

form_from : (t : TypeData) (f : Form) (k : IntegerType) → physical_by t f ≡ Some (physical.Dictionary k) → f ≡ dictionaries_of k (value_by f)
form_from t (dictionaries_of j u) k e = let same : j ≡ k = cc in ap (λ j. dictionaries_of j u) same
form_from t nulls_of k e = cc
form_from t booleans_of k e = cc
form_from t (primitives_of p) k e = cc
form_from t (binaries_of false false) k e = cc
form_from t (binaries_of false true) k e = cc
form_from t (binaries_of true false) k e = cc
form_from t (binaries_of true true) k e = cc
form_from t (fixed_size_binaries_of j) k e = cc
form_from t (views_of false) k e = cc
form_from t (views_of true) k e = cc
form_from t (lists_of false u) k e = let same : list_kind t ≡ physical.Dictionary k = cc in absurd (no_dictionary t k same)
form_from t (lists_of true u) k e = cc
form_from t (fixed_size_lists_of j u) k e = cc
form_from t (structs_of fs) k e = cc
form_from t (unions_of mode ids fs) k e = cc
form_from t no_form k e = cc

-- a type is stored as a dictionary's exactly where its form says so
pub dictionary_form : (t : TypeData) (k : IntegerType) → physical_of t ≡ Some (physical.Dictionary k) → form_of t ≡ dictionaries_of k (value_by (form_of t))
dictionary_form t k e = form_from t (form_of t) k (sym (physical-by t) ∙ e)

pub dictionary_physical : (t : TypeData) (k : IntegerType) (v : TypeData) → form_of t ≡ dictionaries_of k v → physical_of t ≡ Some (physical.Dictionary k)
dictionary_physical t k v e = physical-by t ∙ ap (physical_by t) e

pub is_dictionary : (t : TypeData) (k : IntegerType) (v : TypeData) → form_of t ≡ dictionaries_of k v → IsDictionary t
is_dictionary t k v e = e ∙ sym (ap (λ f. dictionaries_of (key_by f) (value_by f)) e)

-- any other variant is none
not_dictionary : (t : ArrowDataType) (s : TypeData) → back s ≡ t → ((k : IntegerType) (v : ArrowDataType) (o : Bool) → t ≡ A.Dictionary k v o → ⊥) → ((e : ExtensionType) → t ≡ A.Extension e → ⊥) → IsDictionary s → ⊥
not_dictionary t (T.dictionary k v o) b d x h = d k (back v) o (sym b)
not_dictionary t (T.extension n v m) b d x h = x record { name = n; inner = back v; metadata = m } (sym b)
not_dictionary t (T.list (T.field n u c m)) b d x h = cc
not_dictionary t (T.large_list (T.field n u c m)) b d x h = cc
not_dictionary t (T.fixed_size_list (T.field n u c m) k) b d x h = cc
not_dictionary t (T.map (T.field n u c m) o) b d x h = cc
not_dictionary t _ b d x h = cc

pub others_are_none : (t : ArrowDataType) → ((k : IntegerType) (v : ArrowDataType) (o : Bool) → t ≡ A.Dictionary k v o → ⊥) → ((e : ExtensionType) → t ≡ A.Extension e → ⊥) → IsDictionary (seen t) → ⊥
others_are_none t d x h = not_dictionary t (seen t) (back-seen t) d x h

-- ---- that columns have it

-- what is inside an extension decides
from_logical : (t : TypeData) → IsCarried (logical_of t) → IsCarried t
from_logical (T.extension n t m) h = from_logical t h
from_logical _ h = h

to_logical : (t : TypeData) → IsCarried t → IsCarried (logical_of t)
to_logical (T.extension n t m) h = to_logical t h
to_logical _ h = h

same_value : (k j : IntegerType) (v w : TypeData) → dictionaries_of k v ≡ dictionaries_of j w → v ≡ w
same_value k j v w e = cc

carried_by : (t : TypeData) (k : IntegerType) (v : TypeData) → form_of t ≡ dictionaries_of k v → IsCarried v → IsCarried t
carried_by (T.dictionary j w o) k v e h = subst IsCarried (sym (same_value j k w v e)) h
carried_by (T.extension n t m) k v e h = carried_by t k v e h
carried_by (T.list (T.field n u c m)) k v e h = cc
carried_by (T.large_list (T.field n u c m)) k v e h = cc
carried_by (T.fixed_size_list (T.field n u c m) j) k v e h = cc
carried_by (T.map (T.field n u c m) o) k v e h = cc
carried_by _ k v e h = cc

-- a dictionary's is carried where its values' own is
pub dictionary_carried : (t u : TypeData) (k : IntegerType) (v : TypeData) → form_of t ≡ dictionaries_of k v → logical_of v ≡ logical_of u → IsCarried u → IsCarried t
dictionary_carried t u k v e same h = carried_by t k v e (from_logical v (subst IsCarried (sym same) (to_logical u h)))

pub well_formed_carried : (l : Layout) → WellFormed l → IsCarried (type_of l)
well_formed_carried (nulls t n) w = w.carried
well_formed_carried (booleans t m vs) w = w.0.carried
well_formed_carried (primitives t m vs) w = w.0.carried
well_formed_carried (binaries t m os bs) w = w.0.carried
well_formed_carried (fixed_size_binaries t m k n bs) w = w.0.carried
well_formed_carried (views t m vs buffers) w = w.0.carried
well_formed_carried (lists t m os l) w = w.0.carried
well_formed_carried (fixed_size_lists t m k n l) w = w.0.carried
well_formed_carried (structs t m n ls) w = w.0.carried
well_formed_carried (sparse_unions t o ts ls) w = w.0.carried
well_formed_carried (dense_unions t o ts os ls) w = w.0.carried
well_formed_carried (dictionaries t u m ks l) w = w.0.carried
