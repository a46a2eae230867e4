-- Parts over children that are refused are not well formed.
use Rattle.std.proofs.Common.{◌≡◌, ℕ, ◌*◌, ◌/◌, ◌%◌, ◌<◌, ◌≤◌, List, subst, refl, sym, ap, ◌∙◌, arith, Option, Some, None}
use Rattle.std.specs.Prelude.{ℤ}
use Rattle.std.proofs.Math.Nat.{mul-div_cancel}
use Rattle.std.proofs.lemmas.Nat.{div-add-mod'}
use Rattle.arrow_buffers.specs.Bits.{Bits}
use Rattle.arrow_types.specs.Seen.{seen}
use Rattle.arrow_types.specs.TypeData.{TypeData, FieldList}
use Rattle.arrow_types.specs.Types.{physical_of}
use Rattle.arrow_types.specs.declared.datatype.ArrowDataType.{ArrowDataType}
use Rattle.arrow_types.specs.declared.datatype.PhysicalType.{PhysicalType}
use Rattle.arrow_types.specs.declared.datatype.PhysicalType.TheVariants as physical
use Rattle.arrow_types.specs.declared.error.PolarsError.{PolarsError}
use Rattle.arrow_types.specs.declared.error.PolarsError.TheVariants.{ComputeError}
use Rattle.arrow_types.specs.declared.error.Reason.{Reason}
use Rattle.arrow_types.specs.declared.error.Reason.TheVariants.{OffsetPastValues, MaskLength, WrongLogicalType, ChildTypeDiffers, EntriesNotPair, NotMultiple, LengthDiffers, ZeroWidthValues, FieldCount, ChildLength, TooManyFields, OffsetsLength, OffsetsMode, IdCount, IdRange, TypeRange, NotCarried, DenseOffset, SparseLength}
use Rattle.arrow_flat.specs.Primitives.{MaskHasLength}
use Rattle.arrow_layout.specs.FitsHere.{AllWellFormed, HaveLengths}
use Rattle.arrow_layout.specs.Forms.{form_of, fixed_size_lists_of, structs_of, fields_by}
use Rattle.arrow_layout.specs.Layouts.{Layout, lists, fixed_size_lists, structs, sparse_unions, dense_unions, dictionaries, Layouts, length_of, type_of}
use Rattle.arrow_layout.specs.WellFormed.{HaveTypes, MaskFits, WellFormed}
use Rattle.arrow_layout.proofs.FromParts.{all_well, fits_here}
use Rattle.arrow_meaning.specs.Nodes.{union_layout}
use Rattle.arrow_nested.specs.Lists.{ListFits, MapFits, ListRefusedFor, ListRefused, MapRefusedFor, MapRefused}
use Rattle.arrow_nested.specs.FixedSizeLists as sized
use Rattle.arrow_nested.specs.Structs as struct
use Rattle.arrow_nested.proofs.Lists.{fit_lists, fit_maps}
use Rattle.arrow_choice.specs.Unions.{UnionParts, AreUnionParts, RefusedFor, Refused}
use Rattle.column_grammar.specs.Reads.{union_of}
use Rattle.arrow_choice.proofs.Unions.{sparse_parts, dense_parts, types_count}

-- ---- lists and maps

list_fits : (reason : Reason) (q : PhysicalType) (l : Layout) → ListFits q l → ListRefusedFor reason q l → ⊥
list_fits OffsetPastValues q l f h = h f.within
list_fits MaskLength q l f h = h.1 f.covers
list_fits WrongLogicalType q l f h = h.2 f.stored
list_fits ChildTypeDiffers q l f h = h.3 f.child
list_fits _ q l f h = h

pub bad_lists : (e : PolarsError) (reason : Reason) (q : PhysicalType) (t : TypeData) (m : Option Bits) (os : List ℤ) (l : Layout) → e ≡ ComputeError reason → physical_of t ≡ Some q
    → ListRefused e q (lists t m os l) → WellFormed (lists t m os l) → ⊥
bad_lists e reason q t m os l is stored h w = list_fits reason q (lists t m os l) (fit_lists q (lists t m os l) tt w stored) (subst (λ r. ListRefused r q (lists t m os l)) is h)

map_fits : (reason : Reason) (l : Layout) → MapFits l → MapRefusedFor reason l → ⊥
map_fits OffsetPastValues l f h = h f.parts.within
map_fits WrongLogicalType l f h = h.1 f.parts.stored
map_fits EntriesNotPair l f h = h.2 f.pair
map_fits ChildTypeDiffers l f h = h.3 f.parts.child
map_fits MaskLength l f h = h.4 f.parts.covers
map_fits _ l f h = h

pub bad_maps : (e : PolarsError) (reason : Reason) (t : TypeData) (m : Option Bits) (os : List ℤ) (l : Layout) → e ≡ ComputeError reason → physical_of t ≡ Some physical.Map
    → MapRefused e (lists t m os l) → WellFormed (lists t m os l) → ⊥
bad_maps e reason t m os l is stored h w = map_fits reason (lists t m os l) (fit_maps (lists t m os l) tt w stored) (subst (λ r. MapRefused r (lists t m os l)) is h)

-- ---- lists of one size

whole : (n k c : ℕ) → c ≡ n * k → 0 < k → c / k ≡ n
whole n k c e some = ap (λ x. x / k) e ∙ mul-div_cancel n some

divides : (n k c : ℕ) → c ≡ n * k → 0 < k → c % k ≡ 0
divides n k c e some = let q = whole n k c e some in omega (arith, div-add-mod' c k, ap (λ x. x * k) q, e)

covered : (m : Option Bits) (n : ℕ) → MaskFits m n → MaskHasLength m n
covered None n h = tt
covered (Some b) n h = h.0

empty : (n k c : ℕ) → c ≡ n * k → k ≡ 0 → 0 < c → ⊥
empty n k c e none some = omega (arith, e, ap (λ x. n * x) none, some)

sized_fits : (reason : Reason) (k n : ℕ) (l : Layout) (m : Option Bits) → length_of l ≡ n * k → MaskHasLength m n → sized.RefusedAt reason (fixed_size_lists_of k (type_of l)) n l m → ⊥
sized_fits WrongLogicalType k n l m e c h = h
sized_fits ChildTypeDiffers k n l m e c h = h refl
sized_fits NotMultiple k n l m e c h = h.2 (divides n k (length_of l) e h.1)
sized_fits LengthDiffers k n l m e c h = h.3 (whole n k (length_of l) e h.1)
sized_fits ZeroWidthValues k n l m e c h = empty n k (length_of l) e h.1 h.2
sized_fits MaskLength k n l m e c h = h.2 c
sized_fits _ k n l m e c h = h

pub bad_sized_lists : (e : PolarsError) (reason : Reason) (t : TypeData) (m : Option Bits) (k n : ℕ) (l : Layout) → e ≡ ComputeError reason
    → sized.Refused e t n l m → WellFormed (fixed_size_lists t m k n l) → ⊥
bad_sized_lists e reason t m k n l is h w =
    sized_fits reason k n l m w.1 (covered m n w.0.mask) (subst (λ f. sized.RefusedAt reason f n l m) w.0.of_form (subst (λ r. sized.Refused r t n l m) is h))

-- ---- structs

struct_fits : (reason : Reason) (fs : FieldList) (n : ℕ) (ls : Layouts) (m : Option Bits) → HaveTypes fs ls → HaveLengths (λ i. i ≡ n) ls → MaskHasLength m n
    → struct.RefusedAt reason (structs_of fs) n ls m → ⊥
struct_fits WrongLogicalType fs n ls m types lengths c h = h
struct_fits FieldCount fs n ls m types lengths c h = h (sym (types_count fs ls types))
struct_fits ChildTypeDiffers fs n ls m types lengths c h = h.1 types
struct_fits ChildLength fs n ls m types lengths c h = h.1 lengths
struct_fits MaskLength fs n ls m types lengths c h = h.2 c
struct_fits _ fs n ls m types lengths c h = h

pub bad_structs : (e : PolarsError) (reason : Reason) (t : TypeData) (m : Option Bits) (n : ℕ) (ls : Layouts) → e ≡ ComputeError reason
    → struct.Refused e t n ls m → WellFormed (structs t m n ls) → ⊥
bad_structs e reason t m n ls is h w =
    struct_fits reason (fields_by (form_of t)) n ls m w.1 (fits_here (structs t m n ls) w).2 (covered m n w.0.mask)
    (subst (λ f. struct.RefusedAt reason f n ls m) w.0.of_form (subst (λ r. struct.Refused r t n ls m) is h))

-- ---- unions

union_fits : (reason : Reason) (u : UnionParts) → AreUnionParts u → RefusedFor reason u → ⊥
union_fits WrongLogicalType u f h = h f.shape.stored
union_fits FieldCount u f h = h.1 f.shape.count
union_fits TooManyFields u f h = h.2 f.shape.few
union_fits ChildTypeDiffers u f h = h.3 f.shape.types
union_fits OffsetsLength u f h = h.4 f.shape.offset_count
union_fits OffsetsMode u f h = h.5 f.shape.mode
union_fits IdCount u f h = h.1 f.all_ids
union_fits IdRange u f h = h.2 f.small_ids
union_fits TypeRange u f h = h.3 f.numbers
union_fits NotCarried u f h = h.4 f.fields
union_fits DenseOffset u f h = h.5 f.dense
union_fits SparseLength u f h = h.6 f.sparse
union_fits _ u f h = h

union_parts : (t : TypeData) (ls : Layouts) (os : Option (List ℤ)) (ts : List ℤ) → WellFormed (union_of t ls os ts) → AreUnionParts record { dtype = t; types = ts; offsets = os; children = ls }
union_parts t ls None ts w = sparse_parts t ts ls w
union_parts t ls (Some os) ts w = dense_parts t ts os ls w

pub bad_unions : (e : PolarsError) (reason : Reason) (t : TypeData) (ls : Layouts) (os : Option (List ℤ)) (ts : List ℤ) → e ≡ ComputeError reason
    → Refused e record { dtype = t; types = ts; offsets = os; children = ls } → WellFormed (union_of t ls os ts) → ⊥
bad_unions e reason t ls os ts is h w = union_fits reason record { dtype = t; types = ts; offsets = os; children = ls } (union_parts t ls os ts w) (subst (λ r. Refused r record { dtype = t; types = ts; offsets = os; children = ls }) is h)

-- ---- layouts over children that aren't well formed

pub bad_list_child : (t : TypeData) (m : Option Bits) (os : List ℤ) (l : Layout) → (WellFormed l → ⊥) → WellFormed (lists t m os l) → ⊥
bad_list_child t m os l h w = h w.2

pub bad_sized_child : (t : TypeData) (m : Option Bits) (k n : ℕ) (l : Layout) → (WellFormed l → ⊥) → WellFormed (fixed_size_lists t m k n l) → ⊥
bad_sized_child t m k n l h w = h w.2

pub bad_struct_children : (t : TypeData) (m : Option Bits) (n : ℕ) (ls : Layouts) → (AllWellFormed ls → ⊥) → WellFormed (structs t m n ls) → ⊥
bad_struct_children t m n ls h w = h (all_well (structs t m n ls) w)

pub bad_union_children : (t : TypeData) (ls : Layouts) (os : Option (List ℤ)) (ts : List ℤ) → (AllWellFormed ls → ⊥) → WellFormed (union_of t ls os ts) → ⊥
bad_union_children t ls None ts h w = h (all_well (sparse_unions t 0 ts ls) w)
bad_union_children t ls (Some os) ts h w = h (all_well (dense_unions t 0 ts os ls) w)

pub bad_values : (t u : TypeData) (m : Option Bits) (ks : List ℤ) (l : Layout) → (WellFormed l → ⊥) → WellFormed (dictionaries t u m ks l) → ⊥
bad_values t u m ks l h w = h w.5

-- ---- unions by their parts

pub union_is : (t : ArrowDataType) (ts : List ℤ) (os : Option (List ℤ)) (ls : Layouts) → union_layout t ts os ls 0 ≡ union_of (seen t) ls os ts
union_is t ts None ls = refl
union_is t ts (Some os) ls = refl
