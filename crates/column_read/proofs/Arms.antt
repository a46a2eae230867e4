-- The arms of the reader: what the type in which a column is stored tells of its parts.
use Rattle.std.proofs.Common.{◌≡◌, ℕ, ◌+◌, ◌<◌, ◌≤◌, zero, suc, max, List, [], ◌∷◌, length, map, get_or, refl, sym, ap, subst, ◌∙◌, arith, Option, Some, None, Result, Ok, Err, Bool, MatchResult}
use Rattle.std.specs.Prelude.{option_and_then, option_map}
use Rattle.std.specs.Option.{option_zip}
use Rattle.serde_json.specs.Data.{Data}
use Rattle.arrow_types.specs.Depth.{depth_of, fields_depth}
use Rattle.arrow_types.specs.Seen.{seen, seen_fields, back, back_field, back_fields}
use Rattle.arrow_types.proofs.Back.{back-seen}
use Rattle.arrow_types.specs.SeenAt.{seen-List, seen-LargeList, seen-FixedSizeList, seen-Struct, seen-Map, seen-Union, seen-Dictionary, seen-Extension}
use Rattle.arrow_types.specs.TypeData.{TypeData}
use Rattle.arrow_types.specs.TypeData as T
use Rattle.arrow_types.specs.Types.{integer_type}
use Rattle.arrow_types.specs.declared.datatype.ArrowDataType.{ArrowDataType}
use Rattle.arrow_types.specs.declared.datatype.ArrowDataType as A
use Rattle.arrow_types.specs.declared.datatype.ExtensionType.{ExtensionType}
use Rattle.arrow_types.specs.declared.datatype.Field.{Field}
use Rattle.arrow_types.specs.declared.datatype.IntegerType.{IntegerType}
use Rattle.arrow_types.specs.declared.datatype.UnionType.{UnionType, out-UnionType, roll-UnionType}
use Rattle.arrow_layout.specs.Layouts.{Layout, Layouts, dictionaries}
use Rattle.arrow_layout.specs.Forms.{form_of}
use Rattle.type_json.specs.declared.error.JsonError.{JsonError}
use Rattle.type_json.specs.declared.error.JsonError.TheVariants.{BadValue}
use Rattle.column_grammar.specs.Values.{mask_in}
use Rattle.column_grammar.specs.Reads.{data_by, dictionaries_from, flat_in, keys_in}
use Rattle.column_read.specs.Arrays.{NoChild, ReadsArray}
use Rattle.column_read.proofs.OverChildren.{zip_second}

-- ---- the type, seen by its kind

pub list_type : (storage : ArrowDataType) (f g : Field) → storage ≡ A.List f → g ≡ f → seen storage ≡ T.list (T.field f.name (seen g.dtype) f.is_nullable f.metadata)
list_type storage f g e got = ap seen e ∙ seen-List f ∙ ap (λ (x : Field). T.list (T.field f.name (seen x.dtype) f.is_nullable f.metadata)) (sym got)

pub large_list_type : (storage : ArrowDataType) (f g : Field) → storage ≡ A.LargeList f → g ≡ f → seen storage ≡ T.large_list (T.field f.name (seen g.dtype) f.is_nullable f.metadata)
large_list_type storage f g e got = ap seen e ∙ seen-LargeList f ∙ ap (λ (x : Field). T.large_list (T.field f.name (seen x.dtype) f.is_nullable f.metadata)) (sym got)

pub map_type : (storage : ArrowDataType) (f g : Field) (o : Bool) → storage ≡ A.Map f o → g ≡ f → seen storage ≡ T.map (T.field f.name (seen g.dtype) f.is_nullable f.metadata) o
map_type storage f g o e got = ap seen e ∙ seen-Map f o ∙ ap (λ (x : Field). T.map (T.field f.name (seen x.dtype) f.is_nullable f.metadata) o) (sym got)

pub fixed_size_list_type : (storage : ArrowDataType) (f g : Field) (k : ℕ) → storage ≡ A.FixedSizeList f k → g ≡ f → seen storage ≡ T.fixed_size_list (T.field f.name (seen g.dtype) f.is_nullable f.metadata) k
fixed_size_list_type storage f g k e got = ap seen e ∙ seen-FixedSizeList f k ∙ ap (λ (x : Field). T.fixed_size_list (T.field f.name (seen x.dtype) f.is_nullable f.metadata) k) (sym got)

-- ---- fields

pub field_depth_at : (fs : List Field) (i : ℕ) (f : Field) → i < length fs → f ≡ get_or fs i f → depth_of (seen f.dtype) ≤ fields_depth (seen_fields fs)
field_depth_at [] i f below is = absurd (omega (arith, below))
field_depth_at (g ∷ fs) zero f below is = let same : depth_of (seen f.dtype) ≡ depth_of (seen g.dtype) = ap (λ (x : Field). depth_of (seen x.dtype)) is in omega (arith, same)
field_depth_at (g ∷ fs) (suc i) f below is = let rest = field_depth_at fs i f (omega (arith, below)) is in omega (arith, rest)

-- ---- what is refused

pub err_reads : (found : Option Layout) (r : Result (Option Layout) JsonError) (e : JsonError) → r ≡ Err e → (e ≡ BadValue → found ≡ None) → ReadsArray found r
err_reads found r e is h = subst (ReadsArray found) (sym is) h

pub no_child_reads : {L : Type 0} (make : Option L → Data × Data → Option Layout) (child_of : Data → Option L) (members : Option (Data × (Data × Data))) (found : Option Layout) (r : Result (Option Layout) JsonError) (e : JsonError)
    → found ≡ option_and_then (λ p. make (child_of p.0) p.1) members → ((d : Data × Data) → make None d ≡ None) → r ≡ Err e → (e ≡ BadValue → NoChild child_of members) → ReadsArray found r
no_child_reads make child_of members found r e same none is h = err_reads found r e is (λ bad. same ∙ h bad make none)

-- ---- the type of each kind, as the program holds its parts

pub struct_type : (storage : ArrowDataType) (fs gs : List Field) → storage ≡ A.Struct fs → gs ≡ fs → seen storage ≡ T.struct (seen_fields gs)
struct_type storage fs gs e got = ap seen e ∙ seen-Struct fs ∙ ap (λ xs. T.struct (seen_fields xs)) (sym got)

pub union_type : (storage : ArrowDataType) (u g : UnionType) (gs : List Field) → storage ≡ A.Union u → g ≡ u → gs ≡ (out-UnionType g).fields
    → seen storage ≡ T.union (seen_fields gs) (out-UnionType u).ids (out-UnionType u).mode
union_type storage u g gs e got fields =
    let same : (out-UnionType u).fields ≡ gs = ap (λ x. (out-UnionType x).fields) (sym got) ∙ sym fields in
    ap seen e ∙ seen-Union u ∙ ap (λ xs. T.union (seen_fields xs) (out-UnionType u).ids (out-UnionType u).mode) same

pub dictionary_type : (storage v g : ArrowDataType) (k : IntegerType) (o : Bool) → storage ≡ A.Dictionary k v o → g ≡ v → seen storage ≡ T.dictionary k (seen g) o
dictionary_type storage v g k o e got = ap seen e ∙ seen-Dictionary k v o ∙ ap (λ x. T.dictionary k (seen x) o) (sym got)

pub extension_type : (storage : ArrowDataType) (x g : ExtensionType) → storage ≡ A.Extension x → g ≡ x → seen storage ≡ T.extension g.name (seen g.inner) g.metadata
extension_type storage x g e got = ap seen e ∙ seen-Extension x ∙ ap (λ (y : ExtensionType). T.extension y.name (seen y.inner) y.metadata) (sym got)

-- ---- a refusal

pub err_matches : {X E : Type 0} (P : X → Type 0) (Q : E → Type 0) (r : Result X E) (e : E) → r ≡ Err e → Q e → MatchResult r P Q
err_matches P Q r e is q = subst (λ r. MatchResult r P Q) (sym is) q

-- ---- dictionaries, whose values come last

pub dictionary_members : {L : Type 0} (make : Option L → Data × Data → Option Layout) (child_of : Data → Option L) (o : Option (Data × (Data × Data)))
    → option_and_then (λ (p : Data × (Data × Data)). make (child_of p.1.1) (p.0, p.1.0)) o ≡ option_and_then (λ (p : Data × (Data × Data)). make (child_of p.0) p.1) (option_map (λ (p : Data × (Data × Data)). (p.1.1, (p.0, p.1.0))) o)
dictionary_members make child_of None = refl
dictionary_members make child_of (Some p) = refl

pub no_values : (t : TypeData) (k : IntegerType) (d : Data × Data) → dictionaries_from t k d None ≡ None
no_values t k d = ap (option_map (λ q. dictionaries t (integer_type k) q.1.0 q.0 q.1.1)) (zip_second (keys_in k d.0) (option_zip (mask_in d.1) None) (zip_second (mask_in d.1) None refl))

-- ---- a type without parts

module _
    (k : ArrowDataType) (list : (f : Field) → k ≡ A.List f → ⊥) (large : (f : Field) → k ≡ A.LargeList f → ⊥) (fixed : (f : Field) (n : ℕ) → k ≡ A.FixedSizeList f n → ⊥)
    (map : (f : Field) (o : Bool) → k ≡ A.Map f o → ⊥) (struct : (fs : List Field) → k ≡ A.Struct fs → ⊥) (union : (u : UnionType) → k ≡ A.Union u → ⊥)
    (dictionary : (i : IntegerType) (v : ArrowDataType) (o : Bool) → k ≡ A.Dictionary i v o → ⊥) (extension : (e : ExtensionType) → k ≡ A.Extension e → ⊥) (t : TypeData) (d : Data)
  where
    flat_by : (s : TypeData) → back s ≡ k → data_by (form_of s) t d ≡ flat_in (form_of s) t d
    flat_by (T.list f) e = absurd (list (back_field f) (sym e))
    flat_by (T.large_list f) e = absurd (large (back_field f) (sym e))
    flat_by (T.fixed_size_list f n) e = absurd (fixed (back_field f) n (sym e))
    flat_by (T.struct fs) e = absurd (struct (back_fields fs) (sym e))
    flat_by (T.map f o) e = absurd (map (back_field f) o (sym e))
    flat_by (T.union fs is m) e = absurd (union (roll-UnionType record { fields = back_fields fs; ids = is; mode = m }) (sym e))
    flat_by (T.dictionary i v o) e = absurd (dictionary i (back v) o (sym e))
    flat_by (T.extension n v m) e = absurd (extension record { name = n; inner = back v; metadata = m } (sym e))
    flat_by _ e = refl

    pub flat_form : data_by (form_of (seen k)) t d ≡ flat_in (form_of (seen k)) t d
    flat_form = flat_by (seen k) (back-seen k)
