-- Arrays of slots that say nothing, from the parts that are made.
use Rattle.std.proofs.Common.{IfOk, List, None, Option, Some, [], ap, arith, get_or, length, map, pos, refl, replicate, subst, suc, sym, zero, ℕ, ℤ, ◌<◌, ◌^◌, ◌∙◌, ◌∷◌, ◌≡◌, ◌≤◌}
use Rattle.std.specs.Prelude.{Err, IfErr, Ok, Result, slice_set}
use Rattle.arrow_bytes.specs.FixedSizeBinaries.{declared_size}
use Rattle.arrow_layout.proofs.NullForms.{all_none_fit, none_fit, null_well_formed}
use Rattle.arrow_layout.proofs.NullLayouts.{map-replicate, type-null}
use Rattle.arrow_layout.proofs.NullsFit.{all_fit_nulls, fit_nulls, nulls_fit}
use Rattle.arrow_layout.proofs.Fills.{first_legal, select_below}
use Rattle.arrow_layout.specs.Forms.{form_of}
use Rattle.arrow_layout.specs.Layouts.{Layout, child, dictionaries, layouts, nulls, primitives, retyped, type_of}
use Rattle.arrow_layout.specs.NullLayout.{flat_nulls, null_layout, null_layouts, null_mask, null_selected}
use Rattle.arrow_layout.specs.NullsFit.{AllNullsFit, NullsFit, SelectedNullsFit}
use Rattle.arrow_layout.specs.Paths.{children_of}
use Rattle.arrow_layout.specs.WellFormed.{WellFormed}
use Rattle.arrow_meaning.proofs.NullTypes.{count_seen, each_at, each_carried, each_fits}
use Rattle.arrow_meaning.specs.NullParts.{IsSimple, null_dense_offsets}
use Rattle.arrow_meaning.specs.Refusals.{NullsRefused, TypeRefused}
use Rattle.arrow_meaning.specs.Nodes.{IsStoredAs, dictionary_layout, key_number, node_physical, union_layout}
use Rattle.arrow_meaning.specs.declared.node.Node.{Node}
use Rattle.arrow_types.specs.Depth.{depth_of, fields_depth}
use Rattle.arrow_types.specs.Carried.{AreCarried, IsCarried, count_fields}
use Rattle.arrow_types.specs.Seen.{seen, seen_fields}
use Rattle.arrow_types.specs.Select.{first_number, select}
use Rattle.arrow_types.specs.TypeData.{FieldList, TypeData, and_field, no_fields}
use Rattle.arrow_types.specs.TypeData as T
use Rattle.arrow_types.specs.Types.{logical_of, physical_of}
use Rattle.arrow_types.specs.declared.datatype.ArrowDataType.{ArrowDataType}
use Rattle.arrow_types.specs.declared.datatype.Field.{Field}
use Rattle.arrow_types.specs.declared.datatype.PhysicalType.{PhysicalType}
use Rattle.arrow_types.specs.declared.error.PolarsError.{PolarsError}
use Rattle.arrow_types.specs.declared.error.PolarsError.TheVariants.{ComputeError, OutOfMemory}
use Rattle.arrow_types.specs.declared.error.Reason.TheVariants.{LengthOverflow}
use Rattle.arrow_types.specs.declared.datatype.UnionMode.{UnionMode}
use Rattle.arrow_types.specs.declared.datatype.UnionMode.TheVariants.{Dense, Sparse}

-- ---- a type and the one in which it is stored

pub form-logical : (t : TypeData) → form_of t ≡ form_of (logical_of t)
form-logical (T.extension n t m) = form-logical t
form-logical _ = refl

pub physical-logical : (t : TypeData) → physical_of t ≡ physical_of (logical_of t)
physical-logical (T.extension n t m) = physical-logical t
physical-logical _ = refl

size-logical : (t : TypeData) → declared_size t ≡ declared_size (logical_of t)
size-logical (T.extension n t m) = size-logical t
size-logical _ = refl

module _ (u s : TypeData) (e : logical_of u ≡ logical_of s) where
  pub same_form : form_of u ≡ form_of s
  same_form = form-logical u ∙ (ap form_of e ∙ sym (form-logical s))

  pub same_physical : physical_of u ≡ physical_of s
  same_physical = physical-logical u ∙ (ap physical_of e ∙ sym (physical-logical s))

  pub same_size : declared_size u ≡ declared_size s
  same_size = size-logical u ∙ (ap declared_size e ∙ sym (size-logical s))

pub at_type : (P : TypeData → Type 0) {t v : ArrowDataType} {d : TypeData} → seen v ≡ d → t ≡ v → P d → P (seen t)
at_type P e is h = subst P (sym (ap seen is ∙ e)) h

-- ---- depths

pub depth_below : (fs : List Field) (i : ℕ) (f : Field) → i < length fs → f ≡ get_or fs i f → depth_of (seen f.dtype) ≤ fields_depth (seen_fields fs)
depth_below [] i f l e = absurd (omega (arith, l))
depth_below (g ∷ fs) zero f l e = let d = ap (λ x. depth_of (seen x.dtype)) e in omega (arith, d)
depth_below (g ∷ fs) (suc i) f l e = let d = depth_below fs i f (omega (arith, l)) e in omega (arith, d)

-- ---- children

pub nothing_fits : (t : TypeData) → NullsFit t 0
nothing_fits t = fit_nulls t 0 (none_fit t)

pub nothing_fits_all : (fs : FieldList) → AllNullsFit fs 0
nothing_fits_all fs = all_fit_nulls fs 0 (all_none_fit fs)

pub layouts-null : (fs : List Field) (n : ℕ) → layouts (map (λ f. null_layout (seen f.dtype) n) fs) ≡ null_layouts (seen_fields fs) n
layouts-null [] n = refl
layouts-null (f ∷ fs) n = ap (child (null_layout (seen f.dtype) n)) (layouts-null fs n)

pub layouts-selected : (fs : List Field) (i n : ℕ) (f : Field) → i < length fs → f ≡ get_or fs i f
    → layouts (slice_set (map (λ g. null_layout (seen g.dtype) 0) fs) i (null_layout (seen f.dtype) n)) ≡ null_selected (seen_fields fs) i n
layouts-selected [] i n f l e = absurd (omega (arith, l))
layouts-selected (g ∷ fs) zero n f l e = ap (λ x. child (null_layout (seen x.dtype) n) (layouts (map (λ g. null_layout (seen g.dtype) 0) fs))) e ∙ ap (child (null_layout (seen g.dtype) n)) (layouts-null fs 0)
layouts-selected (g ∷ fs) (suc i) n f l e = ap (child (null_layout (seen g.dtype) 0)) (layouts-selected fs i n f (omega (arith, l)) e)

pub selected_fits : (fs : List Field) (i n : ℕ) (f : Field) → i < length fs → f ≡ get_or fs i f → SelectedNullsFit (seen_fields fs) i n → NullsFit (seen f.dtype) n
selected_fits [] i n f l e h = absurd (omega (arith, l))
selected_fits (g ∷ fs) zero n f l e h = subst (λ x. NullsFit (seen x.dtype) n) (sym e) h
selected_fits (g ∷ fs) (suc i) n f l e h = selected_fits fs i n f (omega (arith, l)) e h

pub carried_at : (fs : List Field) (i : ℕ) (f : Field) → i < length fs → f ≡ get_or fs i f → AreCarried (seen_fields fs) → IsCarried (seen f.dtype)
carried_at fs i f l e h = each_at IsCarried fs i f l e ((each_carried fs).1 h)

pub fits_at : (fs : List Field) (i n : ℕ) (f : Field) → i < length fs → f ≡ get_or fs i f → AllNullsFit (seen_fields fs) n → NullsFit (seen f.dtype) n
fits_at fs i n f l e h = each_at (λ t. NullsFit t n) fs i f l e ((each_fits n fs).1 h)

-- ---- unions

pub sparse_fits : (fs : FieldList) (ids : Option (List ℤ)) (m : UnionMode) (n : ℕ) → m ≡ Sparse → NullsFit (T.union fs ids m) n → AllNullsFit fs n
sparse_fits fs ids m n e h = subst (λ x. NullsFit (T.union fs ids x) n) e h

pub dense_fits : (fs : FieldList) (ids : Option (List ℤ)) (m : UnionMode) (n : ℕ) → (m ≡ Sparse → ⊥) → NullsFit (T.union fs ids m) n → SelectedNullsFit fs (select ids (first_number ids)) n
dense_fits fs ids Dense n s h = h.1
dense_fits fs ids Sparse n s h = absurd (s refl)

pub dense_short : (fs : FieldList) (ids : Option (List ℤ)) (m : UnionMode) (n : ℕ) → NullsFit (T.union fs ids m) n → m ≡ Dense → n ≤ 2 ^ 31
dense_short fs ids Dense n h e = h.0
dense_short fs ids Sparse n h e = cc

pub sparse_children : (fs : FieldList) (ids : Option (List ℤ)) (m : UnionMode) (n : ℕ) → m ≡ Sparse → null_layouts fs n ≡ children_of (null_layout (T.union fs ids m) n)
sparse_children fs ids m n e = subst (λ x. null_layouts fs n ≡ children_of (null_layout (T.union fs ids x) n)) (sym e) refl

pub dense_children : (fs : FieldList) (ids : Option (List ℤ)) (m : UnionMode) (n : ℕ) → (m ≡ Sparse → ⊥)
    → null_selected fs (select ids (first_number ids)) n ≡ children_of (null_layout (T.union fs ids m) n)
dense_children fs ids Dense n s = refl
dense_children fs ids Sparse n s = absurd (s refl)

pub first_below : (fs : List Field) (ids : Option (List ℤ)) (m : UnionMode) → IsCarried (T.union (seen_fields fs) ids m) → select ids (first_number ids) < length fs
first_below fs ids m c =
    let n = count_fields (seen_fields fs) in
    let p = select_below ids n (first_number ids) c.0 c.2 (first_legal ids n c.0 c.2) in
    omega (arith, p, count_seen fs)

pub first_small : (fs : FieldList) (ids : Option (List ℤ)) (m : UnionMode) → IsCarried (T.union fs ids m) → first_number ids < 128
first_small fs None m c = omega arith
first_small fs (Some ids) m c = first_legal (Some ids) (count_fields fs) c.0 c.2

pub union_nulls : (t : ArrowDataType) (fs : FieldList) (ids : Option (List ℤ)) (m : UnionMode) (n : ℕ)
    → union_layout t (replicate n (pos (first_number ids))) (null_dense_offsets m n) (children_of (null_layout (T.union fs ids m) n)) 0 ≡ retyped (seen t) (null_layout (T.union fs ids m) n)
union_nulls t fs ids Dense n = refl
union_nulls t fs ids Sparse n = refl

-- ---- dictionaries

pub dictionary_nulls : (t : ArrowDataType) (keys : Layout) (k : TypeData) (n : ℕ) (l : Layout) → keys ≡ primitives k (null_mask n) (replicate n (pos 0 ∷ []))
    → dictionary_layout t keys l ≡ dictionaries (seen t) k (null_mask n) (replicate n (pos 0)) l
dictionary_nulls t keys k n l e = ap (λ x. dictionary_layout t x l) e ∙ ap (λ zs. dictionaries (seen t) k (null_mask n) zs l) (map-replicate key_number n (pos 0 ∷ []))

-- ---- types without children

retyped-twice : (u t : TypeData) (l : Layout) → retyped u (retyped t l) ≡ retyped u l
retyped-twice u t (nulls s n) = refl
retyped-twice u t _ = refl

pub retyped-under : (u t : TypeData) (l : Layout) → retyped u l ≡ retyped u (retyped t l)
retyped-under u t l = sym (retyped-twice u t l)

retyped-own : (l : Layout) → retyped (type_of l) l ≡ l
retyped-own (nulls s n) = refl
retyped-own _ = refl

pub own_type : (t : TypeData) (n : ℕ) → retyped t (null_layout t n) ≡ null_layout t n
own_type t n = ap (λ u. retyped u (null_layout t n)) (sym (type-null t n)) ∙ retyped-own (null_layout t n)

pub made_stored : (t : TypeData) (n : ℕ) (l : Layout) (q : PhysicalType) → l ≡ retyped t (null_layout t n) → physical_of t ≡ Some q → IsStoredAs q l
made_stored t n l q e h = ap (λ x. physical_of (type_of x)) (e ∙ own_type t n) ∙ (ap physical_of (type-null t n) ∙ h)

pub null_stored : (t : TypeData) (n : ℕ) (l : Layout) (q : PhysicalType) → l ≡ null_layout t n → physical_of t ≡ Some q → IsStoredAs q l
null_stored t n l q e h = ap (λ x. physical_of (type_of x)) e ∙ (ap physical_of (type-null t n) ∙ h)

pub made_sound : (t : TypeData) (n : ℕ) (l : Layout) → n < 2 ^ 64 → IsCarried t → NullsFit t n → l ≡ retyped t (null_layout t n) → WellFormed l
made_sound t n l s c h e = subst WellFormed (sym (e ∙ own_type t n)) (null_well_formed t n c (nulls_fit t n s h))

pub simple_layout : (s u : TypeData) (n : ℕ) → IsSimple (form_of s) → retyped u (null_layout s n) ≡ flat_nulls u (form_of s) n
simple_layout (T.extension e t m) u n h = retyped-twice u (T.extension e t m) (null_layout t n) ∙ simple_layout t u n h
simple_layout (T.list (T.field a t b m)) u n h = absurd h
simple_layout (T.large_list (T.field a t b m)) u n h = absurd h
simple_layout (T.map (T.field a t b m) o) u n h = absurd h
simple_layout (T.fixed_size_list (T.field a t b m) k) u n h = absurd h
simple_layout (T.struct fs) u n h = absurd h
simple_layout (T.union fs ids mode) u n h = absurd h
simple_layout (T.dictionary k t o) u n h = absurd h
simple_layout (T.fixed_size_binary k) u n h = absurd h
simple_layout T.unknown u n h = absurd h
simple_layout _ u n h = refl

-- under a type that is stored in the same way
pub simple_path : (u s : TypeData) (n : ℕ) → logical_of u ≡ logical_of s → IsSimple (form_of s) → flat_nulls u (form_of u) n ≡ retyped u (null_layout s n)
simple_path u s n e h = ap (λ f. flat_nulls u f n) (same_form u s e) ∙ sym (simple_layout s u n h)

-- ---- the kind of a node

pub kind_told : {E : Type 0} (r : Result Node E) (q : PhysicalType) (o : Option PhysicalType) → IfOk r (λ x. node_physical x ≡ q) → o ≡ Some q → IfOk r (λ x. o ≡ Some (node_physical x))
kind_told (Ok x) q o h e = e ∙ ap Some (sym h)
kind_told (Err x) q o h e = h

-- ---- refusals

empty_refused : (e : PolarsError) (t : TypeData) → NullsRefused e t 0 → TypeRefused e t
empty_refused (ComputeError LengthOverflow) t h = absurd (h.1 (nothing_fits t))
empty_refused OutOfMemory t h = h.0
empty_refused _ t h = h

pub refused_empty : {A : Type 0} (r : Result A PolarsError) (t : TypeData) → IfErr r (λ e. NullsRefused e t 0) → IfErr r (λ e. TypeRefused e t)
refused_empty (Ok a) t h = h
refused_empty (Err e) t h = empty_refused e t h
