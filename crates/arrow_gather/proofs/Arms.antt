-- The canonical layout of slots picked out of an array with children, by the array's parts.
use Rattle.std.proofs.Common.{◌≡◌, ℕ, ◌+◌, ◌*◌, ◌<◌, ◌≤◌, ◌^◌, ℤ, Bool, true, false, cond, List, length, map, refl, ap, sym, ◌∙◌, subst, arith, Option, Some, None, Result, Ok, Err, IfOk}
use Rattle.std.specs.Prelude.{pred}
use Rattle.std.specs.List.{AllByRecursion}
use Rattle.std.proofs.lemmas.List.{length-map}
use Rattle.arrow_buffers.specs.Bits.{Bits}
use Rattle.arrow_flat.specs.Primitives.{MaskHasLength}
use Rattle.arrow_types.specs.Carried.{IsBelow, IsCarried, count_fields}
use Rattle.arrow_types.specs.Select.{nat_of, number_limit, select}
use Rattle.arrow_types.specs.TypeData.{TypeData, FieldList, no_fields, and_field}
use Rattle.arrow_types.specs.TypeData as T
use Rattle.arrow_types.specs.Types.{physical_of}
use Rattle.arrow_types.specs.declared.datatype.PhysicalType.{PhysicalType}
use Rattle.arrow_types.specs.declared.datatype.PhysicalType.TheVariants as physical
use Rattle.arrow_types.specs.declared.datatype.UnionMode.TheVariants.{Dense, Sparse}
use Rattle.arrow_types.specs.declared.error.GrowError.{GrowError}
use Rattle.arrow_layout.specs.Canon.{canon}
use Rattle.arrow_layout.specs.Denote.{denote, validity_of}
use Rattle.arrow_layout.specs.Fits.{Fits}
use Rattle.arrow_layout.specs.FitsHere.{HaveLengths}
use Rattle.arrow_layout.specs.Forms.{Form, form_of, nulls_of, lists_of, fixed_size_lists_of, structs_of, unions_of, large_by, fields_by, ids_by}
use Rattle.arrow_layout.specs.Layouts.{Layout, nulls, lists, fixed_size_lists, structs, sparse_unions, dense_unions, Layouts, no_layouts, child, child_count, lengths_of, type_of, length_of}
use Rattle.arrow_layout.specs.SlotsOf.{fill}
use Rattle.arrow_layout.specs.WellFormed.{AllNamed, AreOffsetsTo, AreWellFormed, HaveTypes, MaskFits, WellFormed, positions, type_limit}
use Rattle.arrow_layout.proofs.ByForm.{canon-form, carried_form, type-canon}
use Rattle.arrow_layout.proofs.CutForms.{count_below}
use Rattle.arrow_layout.proofs.Lengths.{offsets_many}
use Rattle.arrow_layout.proofs.Physical.{list_kind, physical-by, physical_by}
use Rattle.arrow_meaning.specs.Nodes.{IsOfItsType, IsSoundNode, IsStoredAs, layout_of, list_offsets, node_physical}
use Rattle.arrow_meaning.specs.declared.node.Node.{Node}
use Rattle.arrow_meaning.proofs.NullArrays.{same_form, same_physical}
use Rattle.arrow_choice.proofs.DictionaryNodes.{well_formed_carried}
use Rattle.arrow_choice.proofs.Unions.{types_count}
use Rattle.arrow_canon.specs.Picks.{pick, picked}
use Rattle.arrow_canon.specs.Runs.{AreWithin, canon_of_runs, places}
use Rattle.arrow_canon.specs.declared.run.Run.{Run}
use Rattle.arrow_canon.proofs.Places.{places_within}
use Rattle.arrow_items.specs.Kinds.{lists_picked, chunks_picked, structs_picked}
use Rattle.arrow_items.specs.Unions.{dense_picked, sparse_picked}
use Rattle.arrow_items.proofs.ByKind.{lists_canon, chunks_canon, structs_canon}
use Rattle.arrow_items.proofs.ByUnion.{dense_canon, sparse_canon}
use Rattle.arrow_gather.specs.Lists.{is_large}
use Rattle.arrow_gather.specs.Made.{IsMade}
use Rattle.arrow_gather.specs.Types.{HasTypeOf}
use Rattle.arrow_gather.proofs.Sound.{carried_same, lengths_of_all, sound_node}

kind_small : (u : TypeData) → is_large (list_kind u) ≡ false
kind_small (T.extension n t m) = kind_small t
kind_small (T.map f o) = refl
kind_small _ = refl

cond_large : (large : Bool) (u : TypeData) → is_large (cond large physical.LargeList (list_kind u)) ≡ large
cond_large true u = refl
cond_large false u = kind_small u

kind_in : Option PhysicalType → PhysicalType
kind_in None = physical.Null
kind_in (Some k) = k

stored_large : (u : TypeData) (k : PhysicalType) (large : Bool) (c : TypeData) → form_of u ≡ lists_of large c → physical_of u ≡ Some k → large ≡ is_large k
unfolding kind_in
stored_large u k large c e h =
    let q : Some (cond large physical.LargeList (list_kind u)) ≡ Some k = sym (ap (physical_by u) e) ∙ sym (physical-by u) ∙ h in
    sym (cond_large large u) ∙ ap (λ x. is_large (kind_in x)) q

mask_length : (m : Option Bits) (n : ℕ) → MaskFits m n → MaskHasLength m n
mask_length None n h = tt
mask_length (Some b) n h = h.0

-- ---- what is made of an array

module _ (t : TypeData) (l : Layout) (rs : List Run) (k : PhysicalType) (p : Layout) (same : canon_of_runs t l rs ≡ p) (stored : IsStoredAs k l) (of_type : HasTypeOf t l) where
  own_type : (n : Node) → layout_of n ≡ p → node_physical n ≡ k → IsOfItsType n
  own_type n e g =
      ap (λ x. physical_of (type_of x)) (e ∙ sym same) ∙ ap physical_of (type-canon t (picked t l (places rs)))
      ∙ same_physical t (type_of l) of_type ∙ stored ∙ ap Some (sym g)

  pub one_sound : (n : Node) → layout_of n ≡ p → node_physical n ≡ k → WellFormed (layout_of n) → IsSoundNode n
  one_sound n e g w = sound_node n (own_type n e g) w

  pub made_sound : (r : Result Node GrowError) → IfOk r (IsMade k p) → IfOk r (λ n. WellFormed (layout_of n) → IsSoundNode n)
  made_sound (Ok n) h = one_sound n h.same h.kind
  made_sound (Err e) h = tt

  pub made_ok : (r : Result Node GrowError) → IfOk r (IsMade k p) → IfOk r (λ n. (layout_of n ≡ canon_of_runs t l rs) × Fits (canon_of_runs t l rs))
  made_ok (Ok n) h = (h.same ∙ sym same, subst Fits (sym same) h.fits)
  made_ok (Err e) h = tt

-- ---- by kind

module _ (t u : TypeData) (l : Layout) (rs : List Run) (w : WellFormed l) (of_type : HasTypeOf t l) (within : AreWithin (length_of l) rs) where
  form_same : (k : Layout) (f : Form) → k ≡ l → type_of k ≡ u → form_of u ≡ f → form_of t ≡ f
  form_same k f e h g = same_form t (type_of l) of_type ∙ sym (ap (λ x. form_of (type_of x)) e) ∙ ap form_of h ∙ g

  pub nulls_arm : (n : ℕ) → nulls u n ≡ l → canon_of_runs t l rs ≡ nulls t (length (places rs))
  nulls_arm n e =
      let here : WellFormed (nulls u n) = subst WellFormed (sym e) w in
      let f = form_same (nulls u n) nulls_of e refl here.of_form in
      canon-form t nulls_of (picked t l (places rs)) f ∙ ap (nulls t) (length-map (places rs) (pick (fill t) (denote l)))

  pub lists_arm : (k : PhysicalType) (m : Option Bits) (os : List ℤ) (c : Layout) → lists u m os c ≡ l → IsStoredAs k l
      → (form_of t ≡ lists_of (is_large k) (type_of c)) × AreWithin (pred (length os)) rs × MaskHasLength m (pred (length os)) × AreOffsetsTo (length_of c) (map nat_of os)
      × (canon_of_runs t l rs ≡ lists_picked t m (map nat_of os) c (places rs))
  lists_arm k m os c e stored =
      let here : WellFormed (lists u m os c) = subst WellFormed (sym e) w in
      let large : large_by (form_of u) ≡ is_large k =
      stored_large u k (large_by (form_of u)) (type_of c) here.0.of_form (ap (λ x. physical_of (type_of x)) e ∙ stored) in
      let g : form_of u ≡ lists_of (is_large k) (type_of c) = here.0.of_form ∙ ap (λ b. lists_of b (type_of c)) large in
      let f = form_same (lists u m os c) (lists_of (is_large k) (type_of c)) e refl g in
      let inside : AreWithin (pred (length os)) rs = subst (λ x. AreWithin (length_of x) rs) (sym e) within in (
        f,
        inside,
        mask_length m (pred (length os)) here.0.mask,
        here.1.ascend,
        ap (λ x. canon_of_runs t x rs) (sym e) ∙ lists_canon (is_large k) t u m os c (places rs) f here.0.mask here.1.ascend here.2 (places_within (pred (length os)) rs inside),
      )

  -- the same of a node of lists
  module _ (n : Node) (m : Option Bits) (os : List ℤ) (c : Layout) (g : layout_of n ≡ lists u m os c) (e : layout_of n ≡ l) (stored : IsStoredAs (node_physical n) l) where
    abbrev AreNodeParts : Layout → Type 0
    AreNodeParts x =
        (form_of t ≡ lists_of (is_large (node_physical n)) (type_of c)) × AreWithin (pred (length (list_offsets x))) rs × MaskHasLength (validity_of x) (pred (length (list_offsets x)))
        × AreOffsetsTo (length_of c) (map nat_of (list_offsets x)) × (canon_of_runs t l rs ≡ lists_picked t (validity_of x) (map nat_of (list_offsets x)) c (places rs))

    pub list_node_arm : AreNodeParts (layout_of n)
    list_node_arm = subst AreNodeParts (sym g) (lists_arm (node_physical n) m os c (sym g ∙ e) stored)

  pub chunks_arm : (m : Option Bits) (k n : ℕ) (c : Layout) → fixed_size_lists u m k n c ≡ l
      → AreWithin n rs × MaskHasLength m n × (length_of c ≡ n * k) × (canon_of_runs t l rs ≡ chunks_picked t m k c (places rs))
  chunks_arm m k n c e =
      let here : WellFormed (fixed_size_lists u m k n c) = subst WellFormed (sym e) w in
      let f = form_same (fixed_size_lists u m k n c) (fixed_size_lists_of k (type_of c)) e refl here.0.of_form in
      let inside : AreWithin n rs = subst (λ x. AreWithin (length_of x) rs) (sym e) within in (
        inside,
        mask_length m n here.0.mask,
        here.1,
        ap (λ x. canon_of_runs t x rs) (sym e) ∙ chunks_canon t u m k n c (places rs) f here.0.mask here.1 here.2 (places_within n rs inside),
      )

  pub structs_arm : (m : Option Bits) (n : ℕ) (ls : Layouts) → structs u m n ls ≡ l
      → AreWithin n rs × MaskHasLength m n × HaveLengths (λ i. i ≡ n) ls × (canon_of_runs t l rs ≡ structs_picked t m ls (places rs))
  structs_arm m n ls e =
      let here : WellFormed (structs u m n ls) = subst WellFormed (sym e) w in
      let fs = fields_by (form_of u) in
      let f = form_same (structs u m n ls) (structs_of fs) e refl here.0.of_form in
      let inside : AreWithin n rs = subst (λ x. AreWithin (length_of x) rs) (sym e) within in (
        inside,
        mask_length m n here.0.mask,
        lengths_of_all (λ i. i ≡ n) ls here.2,
        ap (λ x. canon_of_runs t x rs) (sym e) ∙ structs_canon t u m n fs ls (places rs) f here.0.mask here.1 here.2 (places_within n rs inside),
      )

  -- ---- unions

  reach_below : (n : ℕ) (fs : FieldList) (ls : Layouts) → 0 < count_fields fs → HaveTypes fs ls → AreWellFormed (λ k. n ≤ k) ls → n < 2 ^ 64
  reach_below n no_fields ls h t w = absurd (omega (arith, h))
  reach_below n (and_field f fs) no_layouts h t w = absurd t
  reach_below n (and_field f fs) (child l ls) h t w = omega (arith, w.0, count_below l w.1)

  carried : IsCarried t
  carried = carried_same t (type_of l) of_type (well_formed_carried l w)

  union_type : IsStoredAs physical.Union l → physical_of t ≡ Some physical.Union
  union_type stored = same_physical t (type_of l) of_type ∙ stored

  -- what the type says of a union's parts
  module _ (k : Layout) (e : k ≡ l) (h : type_of k ≡ u) where
    same : form_of u ≡ form_of t
    same = sym (form_same k (form_of u) e h refl)

    legal : (ts : List ℤ) → AllByRecursion (IsBelow (type_limit u)) ts → AllByRecursion (IsBelow (type_limit t)) ts
    legal ts b = subst (λ f. AllByRecursion (IsBelow (number_limit (ids_by f) (count_fields (fields_by f)))) ts) same b

    places_same : (ts : List ℤ) → positions u ts ≡ positions t ts
    places_same ts = ap (λ f. map (select (ids_by f)) (map nat_of ts)) same

  pub sparse_arm : (o : ℕ) (ts : List ℤ) (ls : Layouts) → sparse_unions u o ts ls ≡ l → IsStoredAs physical.Union l
      → (physical_of t ≡ Some physical.Union) × IsCarried t × AllByRecursion (IsBelow (type_limit t)) ts × AreWithin (length ts) rs × (o + length ts < 2 ^ 64)
      × HaveLengths (λ n. o + length ts ≤ n) ls × (canon_of_runs t l rs ≡ sparse_picked t o ts ls (places rs))
  sparse_arm o ts ls e stored =
      let k = sparse_unions u o ts ls in
      let here : WellFormed k = subst WellFormed (sym e) w in
      let ids = ids_by (form_of u) in
      let fs = fields_by (form_of u) in
      let g : form_of u ≡ unions_of Sparse ids fs = here.0.of_form in
      let inside : AreWithin (length ts) rs = subst (λ x. AreWithin (length_of x) rs) (sym e) within in
      let some : 0 < count_fields fs = (carried_form u (unions_of Sparse ids fs) g here.0.carried).0 in (
        union_type stored,
        carried,
        legal k e refl ts here.1,
        inside,
        reach_below (o + length ts) fs ls some here.3 here.4,
        lengths_of_all (λ n. o + length ts ≤ n) ls here.4,
        ap (λ x. canon_of_runs t x rs) (sym e) ∙ sparse_canon t u ids fs o ts ls (places rs) (form_same k (unions_of Sparse ids fs) e refl g) g here.3 here.4 (places_within (length ts) rs inside),
      )

  pub dense_arm : (o : ℕ) (ts os : List ℤ) (ls : Layouts) → dense_unions u o ts os ls ≡ l → IsStoredAs physical.Union l
      → (physical_of t ≡ Some physical.Union) × IsCarried t × AllByRecursion (IsBelow (type_limit t)) ts × (child_count ls ≡ count_fields (fields_by (form_of t)))
      × AllByRecursion (IsBelow (2 ^ 31)) os × AllNamed (lengths_of ls) (positions t ts) (map nat_of os) × AreWithin (length ts) rs
      × (canon_of_runs t l rs ≡ dense_picked t ts (map nat_of os) ls (places rs))
  dense_arm o ts os ls e stored =
      let k = dense_unions u o ts os ls in
      let here : WellFormed k = subst WellFormed (sym e) w in
      let ids = ids_by (form_of u) in
      let fs = fields_by (form_of u) in
      let g : form_of u ≡ unions_of Dense ids fs = here.0.of_form in
      let inside : AreWithin (length ts) rs = subst (λ x. AreWithin (length_of x) rs) (sym e) within in
      let named : AllNamed (lengths_of ls) (positions t ts) (map nat_of os) = subst (λ is. AllNamed (lengths_of ls) is (map nat_of os)) (places_same k e refl ts) here.4 in
      let many : length os ≡ length ts = sym (length-map os nat_of) ∙ (offsets_many u ts os (lengths_of ls) here.4 ∙ length-map ts nat_of) in
      let start : o ≡ 0 = here.2 in (
        union_type stored,
        carried,
        legal k e refl ts here.1,
        types_count fs ls here.5 ∙ ap (λ f. count_fields (fields_by f)) (same k e refl),
        here.3,
        named,
        inside,
        ap (λ x. canon_of_runs t x rs) (sym e) ∙ ap (λ i. canon t (picked t (dense_unions u i ts os ls) (places rs))) start
            ∙ dense_canon t u ids fs ts os ls (places rs) (form_same k (unions_of Dense ids fs) e refl g) g here.5 here.6 named many (places_within (length ts) rs inside),
      )
