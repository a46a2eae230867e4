-- Dictionaries of keys that were read.
use Rattle.std.proofs.Common.{◌≡◌, ◌<◌, ◌^◌, List, length, map, subst, refl, sym, ap, ap₂, ◌∙◌, arith}
use Rattle.std.specs.Prelude.{ℤ, Option, Some}
use Rattle.std.specs.List.{AllByRecursion}
use Rattle.std.proofs.lemmas.List.{length-map}
use Rattle.arrow_buffers.specs.Bits.{Bits}
use Rattle.serde_json.specs.Data.{Data}
use Rattle.arrow_types.specs.Seen.{seen}
use Rattle.arrow_types.specs.TypeData.{TypeData}
use Rattle.arrow_types.specs.Types.{integer_type, logical_of, physical_of}
use Rattle.arrow_types.specs.declared.datatype.ArrowDataType.{ArrowDataType}
use Rattle.arrow_types.specs.declared.datatype.IntegerType.{IntegerType}
use Rattle.arrow_types.specs.declared.datatype.IntegerType.TheVariants as integer
use Rattle.arrow_types.specs.declared.datatype.PhysicalType.TheVariants as physical
use Rattle.arrow_types.specs.declared.datatype.PrimitiveType.{PrimitiveType}
use Rattle.arrow_types.specs.declared.error.PolarsError.{PolarsError}
use Rattle.arrow_flat.specs.Numbers.{InRange, IsNumber}
use Rattle.arrow_flat.specs.Refusals as flat
use Rattle.arrow_flat.proofs.Lists.{all_map}
use Rattle.arrow_layout.specs.FitsHere.{FitsHere}
use Rattle.arrow_layout.specs.Forms.{form_of, dictionaries_of, key_by, key_range, value_by, primitive_by}
use Rattle.arrow_layout.specs.Layouts.{Layout, dictionaries, primitives, length_of, type_of}
use Rattle.arrow_layout.specs.WellFormed.{MaskFits, WellFormed}
use Rattle.arrow_meaning.specs.Nodes.{AreKeysBelow, IsSoundNode, dictionary_layout, key_layout, key_number, key_primitive, key_type_of}
use Rattle.arrow_meaning.specs.declared.keys.KeyNode.{KeyNode}
use Rattle.arrow_meaning.specs.declared.node.Node.TheVariants as node
use Rattle.arrow_choice.proofs.DictionaryKeys.{key_in_range}
use Rattle.arrow_choice.proofs.DictionaryNodes.{dictionary_carried, dictionary_physical, well_formed_carried}
use Rattle.column_grammar.specs.Reads.{keys_in, singles_in}
use Rattle.column_read.proofs.BadParts.{flat_refused}

plain_primitive : (k : IntegerType) → primitive_by (form_of (integer_type k)) ≡ key_primitive k
plain_primitive integer.Int8 = refl
plain_primitive integer.Int16 = refl
plain_primitive integer.Int32 = refl
plain_primitive integer.Int64 = refl
plain_primitive integer.Int128 = refl
plain_primitive integer.UInt8 = refl
plain_primitive integer.UInt16 = refl
plain_primitive integer.UInt32 = refl
plain_primitive integer.UInt64 = refl

pub keys_by : (k : IntegerType) (p : PrimitiveType) (d : Data) → p ≡ key_primitive k → keys_in k d ≡ singles_in p d
keys_by k p d e = ap (λ q. singles_in q d) (plain_primitive k ∙ sym e)

pub plain_physical : (k : IntegerType) → physical_of (integer_type k) ≡ Some (physical.Primitive (key_primitive k))
plain_physical integer.Int8 = refl
plain_physical integer.Int16 = refl
plain_physical integer.Int32 = refl
plain_physical integer.Int64 = refl
plain_physical integer.Int128 = refl
plain_physical integer.UInt8 = refl
plain_physical integer.UInt16 = refl
plain_physical integer.UInt32 = refl
plain_physical integer.UInt64 = refl

in_range : (k : IntegerType) (u : TypeData) (vs : List (List ℤ)) → u ≡ integer_type k → AllByRecursion (IsNumber (primitive_by (form_of u))) vs → AllByRecursion (InRange (key_range k)) (map key_number vs)
in_range k u vs e h =
    let same : primitive_by (form_of u) ≡ key_primitive k = ap (λ t. primitive_by (form_of t)) e ∙ plain_primitive k in
    all_map (IsNumber (key_primitive k)) (InRange (key_range k)) key_number (key_in_range k) vs (subst (λ p. AllByRecursion (IsNumber p) vs) same h)

-- Keys that are null may name no value.
pub keys_fit : (k : IntegerType) (t u : TypeData) (m : Option Bits) (vs : List (List ℤ)) (l : Layout) → form_of t ≡ dictionaries_of k (type_of l) → u ≡ integer_type k
    → WellFormed (primitives u m vs) → WellFormed l → AreKeysBelow (length_of l) m (primitives u m vs) → FitsHere (dictionaries t u m (map key_number vs) l)
keys_fit k t u m vs l form plain w wl below =
    let key : key_by (form_of t) ≡ k = ap key_by form in
    let value : value_by (form_of t) ≡ type_of l = ap value_by form in
    let of_form : form_of t ≡ dictionaries_of (key_by (form_of t)) (value_by (form_of t)) = subst (λ f. f ≡ dictionaries_of (key_by f) (value_by f)) (sym form) refl in
    let same : logical_of (value_by (form_of t)) ≡ logical_of (type_of l) = ap logical_of value in
    let count : length (map key_number vs) ≡ length vs = length-map vs key_number in
    let short : length vs < 2 ^ 64 = w.0.count in
    let plainly : u ≡ integer_type (key_by (form_of t)) = plain ∙ ap integer_type (sym key) in (
      record {
        carried = dictionary_carried t (type_of l) (key_by (form_of t)) (value_by (form_of t)) of_form same (well_formed_carried l wl);
        of_form = of_form;
        mask = subst (MaskFits m) (sym count) w.0.mask;
        count = omega (arith, count, short);
      },
      plainly,
      in_range (key_by (form_of t)) u vs plainly w.1,
      below,
      same,
    )

pub keys_sound : (k : IntegerType) (t : ArrowDataType) (ks : KeyNode) (u : TypeData) (m : Option Bits) (vs : List (List ℤ)) (l : Layout) → form_of (seen t) ≡ dictionaries_of k (type_of l)
    → key_layout ks ≡ primitives u m vs → key_type_of ks ≡ k → u ≡ integer_type k → WellFormed (primitives u m vs) → WellFormed l → AreKeysBelow (length_of l) m (primitives u m vs)
    → IsSoundNode (node.Dictionary t ks l)
keys_sound k t ks u m vs l form e kind plain w wl below =
    let fits : FitsHere (dictionaries (seen t) u m (map key_number vs) l) = keys_fit k (seen t) u m vs l form plain w wl below in (
      subst (λ x. FitsHere (dictionary_layout t x l)) (sym e) fits,
      dictionary_physical (seen t) k (type_of l) form ∙ ap (λ j. Some (physical.Dictionary j)) (sym kind),
    )

-- ---- what is refused

pub bad_keys : {K : Type 0} (parts : K → List ℤ) (k : IntegerType) (p : PrimitiveType) (e : PolarsError) (plain : ArrowDataType) (t u : TypeData) (m : Option Bits) (xs : List K) (l : Layout)
    → seen plain ≡ integer_type k → p ≡ key_primitive k → flat.Refused e (physical.Primitive p) plain m (length xs) → WellFormed (dictionaries t u m (map key_number (map parts xs)) l) → ⊥
bad_keys parts k p e plain t u m xs l is key h w =
    let stored : physical_of (seen plain) ≡ Some (physical.Primitive p) = ap physical_of is ∙ plain_physical k ∙ ap (λ q. Some (physical.Primitive q)) (sym key) in
    flat_refused e (physical.Primitive p) plain m (length xs) stored (subst (MaskFits m) (length-map (map parts xs) key_number ∙ length-map xs parts) w.0.mask) h

pub unnamed_keys : (t u v : TypeData) (m : Option Bits) (vs : List (List ℤ)) (l : Layout) → (AreKeysBelow (length_of l) m (primitives v m vs) → ⊥) → WellFormed (dictionaries t u m (map key_number vs) l) → ⊥
unnamed_keys t u v m vs l h w = h w.3

-- ---- the layout that is made

pub keys_layout : (k : IntegerType) (t again : ArrowDataType) (ks : KeyNode) (u : TypeData) (m : Option Bits) (vs : List (List ℤ)) (l : Layout) → again ≡ t → key_layout ks ≡ primitives u m vs → u ≡ integer_type k
    → dictionary_layout again (key_layout ks) l ≡ dictionaries (seen t) (integer_type k) m (map key_number vs) l
keys_layout k t again ks u m vs l e f plain =
    ap₂ (λ d kl. dictionary_layout d kl l) e f ∙ ap (λ v. dictionaries (seen t) v m (map key_number vs) l) plain
