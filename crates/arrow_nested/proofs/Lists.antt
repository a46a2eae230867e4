-- Lists, large lists and maps.
use Rattle.std.proofs.Common.{◌≡◌, ℕ, zero, suc, ◌+◌, ◌-◌, ◌^◌, ◌<◌, ◌≤◌, Bool, true, false, cond, List, [], ◌∷◌, length, map, slice_get, Option, Some, None, refl, ap, ap₂, sym, ◌∙◌, subst, arith}
use Rattle.std.specs.Prelude.{ℤ, pos, negsuc, pred, ⊤, nat_eq, IsTrue, ◌↔◌, Result, Ok, Err, IfOk}
use Rattle.std.proofs.lemmas.Bool.{eqb-true, false≢true}
use Rattle.std.proofs.lemmas.List.{length-map}
use Rattle.arrow_buffers.specs.Bits.{Bits}
use Rattle.arrow_buffers.specs.Offsets.{AreOffsets, end_from, end_of}
use Rattle.arrow_flat.specs.Pieces.{pieces, pieces_from}
use Rattle.arrow_flat.specs.Primitives.{IsLed, MaskHasLength}
use Rattle.arrow_flat.specs.Slots.{items, slot_or_null, slots_of}
use Rattle.arrow_layout.specs.Cut.{cut}
use Rattle.arrow_layout.specs.Denote.{denote, masked, item_slots, under, validity_of}
use Rattle.arrow_layout.specs.FitsHere.{FitsHere}
use Rattle.arrow_layout.specs.Forms.{Form, nulls_of, booleans_of, primitives_of, binaries_of, fixed_size_binaries_of, views_of, lists_of, fixed_size_lists_of, structs_of, unions_of, dictionaries_of, no_form, form_of, large_by, offset_limit}
use Rattle.arrow_layout.specs.Layouts.{Layout, nulls, booleans, primitives, binaries, fixed_size_binaries, views, lists, fixed_size_lists, structs, sparse_unions, dense_unions, dictionaries, length_of, type_of}
use Rattle.arrow_layout.specs.WellFormed.{AscendTo, AreOffsetsTo, AreOffsetsWithin, MaskFits, WellFormed}
use Rattle.arrow_layout.proofs.CutDenotes.{denote-cut}
use Rattle.arrow_layout.proofs.CutForms.{ascend_top, type-cut}
use Rattle.arrow_layout.proofs.Physical.{physical_by, physical-by}
use Rattle.arrow_meaning.specs.Nodes.{IsOfItsType, IsSoundNode, IsStoredAs, layout_of, list_offsets, node_physical, physical_list}
use Rattle.arrow_meaning.specs.declared.node.Node.{Node}
use Rattle.arrow_meaning.specs.declared.node.Node.TheVariants as node
use Rattle.arrow_meaning.specs.declared.primitive.PrimitiveNode.{PrimitiveNode}
use Rattle.arrow_meaning.specs.declared.primitive.PrimitiveNode.TheVariants as array
use Rattle.arrow_meaning.proofs.FlatLayouts.{are_offsets}
use Rattle.arrow_meaning.proofs.FlatSlots.{denotes}
use Rattle.arrow_meaning.proofs.NodeParts.{mask_fits_led}
use Rattle.arrow_nested.specs.Lists.{child_field, child_type, list_child, list_values, valid_list_values, parts_from, parts_between, items_slot, HaveType, IsLists, DeclaresPair, EndsWithin, ListFits, MapFits}
use Rattle.arrow_types.specs.Carried.{IsCarried, IsPair}
use Rattle.arrow_types.specs.Select.{nat_of}
use Rattle.arrow_types.specs.TypeData.{TypeData, FieldData, fields_of}
use Rattle.arrow_types.specs.TypeData as T
use Rattle.arrow_types.specs.Types.{physical_of}
use Rattle.arrow_types.specs.Seen.{seen, back, back_field, back_fields}
use Rattle.arrow_types.proofs.Back.{back-seen}
use Rattle.arrow_types.specs.declared.datatype.ArrowDataType.{ArrowDataType}
use Rattle.arrow_types.specs.declared.datatype.ArrowDataType as A
use Rattle.arrow_types.specs.declared.datatype.ExtensionType.{ExtensionType}
use Rattle.arrow_types.specs.declared.datatype.Field.{Field}
use Rattle.arrow_types.specs.declared.datatype.IntervalUnit.TheVariants.{YearMonth, DayTime, MonthDayNano}
use Rattle.arrow_types.specs.declared.datatype.PhysicalType.{PhysicalType}
use Rattle.arrow_types.specs.declared.datatype.PhysicalType.TheVariants as physical

-- ---- types

-- the form of a type of lists, and that columns have it where they have the type of the items
pub list_type_fits : (large : Bool) (t u : TypeData) → physical_of t ≡ Some (physical_list large) → child_type t ≡ Some u → IsCarried u → (form_of t ≡ lists_of large u) × IsCarried t
list_type_fits false (T.list (T.field n t b m)) u e h c = let s : t ≡ u = cc in (ap (lists_of false) s, subst IsCarried (sym s) c)
list_type_fits true (T.large_list (T.field n t b m)) u e h c = let s : t ≡ u = cc in (ap (lists_of true) s, subst IsCarried (sym s) c)
list_type_fits large (T.extension n t m) u e h c = list_type_fits large t u e h c
list_type_fits true (T.list (T.field n t b m)) u e h c = cc
list_type_fits false (T.large_list (T.field n t b m)) u e h c = cc
list_type_fits true (T.fixed_size_list (T.field n t b m) k) u e h c = cc
list_type_fits false (T.fixed_size_list (T.field n t b m) k) u e h c = cc
list_type_fits true (T.map (T.field n t b m) o) u e h c = cc
list_type_fits false (T.map (T.field n t b m) o) u e h c = cc
list_type_fits true _ u e h c = cc
list_type_fits false _ u e h c = cc

pub map_type_fits : (t u : TypeData) → physical_of t ≡ Some physical.Map → child_type t ≡ Some u → DeclaresPair t → IsCarried u → (form_of t ≡ lists_of false u) × IsCarried t
map_type_fits (T.map (T.field n t b m) o) u e h p c = let s : t ≡ u = cc in (ap (lists_of false) s, (p, subst IsCarried (sym s) c))
map_type_fits (T.extension n t m) u e h p c = map_type_fits t u e h p c
map_type_fits (T.list (T.field n t b m)) u e h p c = cc
map_type_fits (T.large_list (T.field n t b m)) u e h p c = cc
map_type_fits (T.fixed_size_list (T.field n t b m) k) u e h p c = cc
map_type_fits _ u e h p c = cc

-- the type of the items, from the form
form_child : (t : TypeData) (f : Form) (large : Bool) (u : TypeData) → form_of t ≡ f → f ≡ lists_of large u → child_type t ≡ Some u
form_child (T.list (T.field n t b m)) f large u e h = cc
form_child (T.large_list (T.field n t b m)) f large u e h = cc
form_child (T.map (T.field n t b m) o) f large u e h = cc
form_child (T.fixed_size_list (T.field n t b m) k) f large u e h = cc
form_child (T.extension n t m) f large u e h = form_child t f large u e h
form_child _ f large u e h = cc

carried_pair : (t : TypeData) → physical_of t ≡ Some physical.Map → IsCarried t → DeclaresPair t
carried_pair (T.map (T.field n t b m) o) e c = c.0
carried_pair (T.extension n t m) e c = carried_pair t e c
carried_pair (T.interval YearMonth) e c = cc
carried_pair (T.interval DayTime) e c = cc
carried_pair (T.interval MonthDayNano) e c = cc
carried_pair _ e c = cc

-- a type of lists declares its items
pub lists_declare : (large : Bool) (t : TypeData) → physical_of t ≡ Some (physical_list large) → child_type t ≡ None → ⊥
lists_declare false (T.list (T.field n t b m)) e h = cc
lists_declare true (T.large_list (T.field n t b m)) e h = cc
lists_declare large (T.extension n t m) e h = lists_declare large t e h
lists_declare true (T.interval YearMonth) e h = cc
lists_declare true (T.interval DayTime) e h = cc
lists_declare true (T.interval MonthDayNano) e h = cc
lists_declare false (T.interval YearMonth) e h = cc
lists_declare false (T.interval DayTime) e h = cc
lists_declare false (T.interval MonthDayNano) e h = cc
lists_declare true _ e h = cc
lists_declare false _ e h = cc

module _
    (t : ArrowDataType) (list : (f : Field) → t ≡ A.List f → ⊥) (large : (f : Field) → t ≡ A.LargeList f → ⊥) (fixed : (f : Field) (k : ℕ) → t ≡ A.FixedSizeList f k → ⊥) (map : (f : Field) (o : Bool) → t ≡ A.Map f o → ⊥)
    (extension : (e : ExtensionType) → t ≡ A.Extension e → ⊥)
  where
    child_by : (s : TypeData) → back s ≡ t → child_field s ≡ None
    child_by (T.list f) e = absurd (list (back_field f) (sym e))
    child_by (T.large_list f) e = absurd (large (back_field f) (sym e))
    child_by (T.fixed_size_list f k) e = absurd (fixed (back_field f) k (sym e))
    child_by (T.map f o) e = absurd (map (back_field f) o (sym e))
    child_by (T.extension n v m) e = absurd (extension record { name = n; inner = back v; metadata = m } (sym e))
    child_by _ e = refl

    pub no_child : child_field (seen t) ≡ None
    no_child = child_by (seen t) (back-seen t)

-- two fields
pub is_pair : (fs : List FieldData) → IsTrue (nat_eq (length fs) 2) ↔ IsPair (T.struct (fields_of fs))
is_pair [] = (λ h. absurd (false≢true h), λ p. absurd p)
is_pair (f ∷ []) = (λ h. absurd (false≢true h), λ p. absurd p)
is_pair (f ∷ g ∷ []) = (λ h. tt, λ p. refl)
is_pair (f ∷ g ∷ k ∷ fs) = (λ h. absurd (let e = eqb-true (length (f ∷ g ∷ k ∷ fs)) 2 h in omega (arith, e)), λ p. absurd p)

module _ (t : ArrowDataType) (struct : (fs : List Field) → t ≡ A.Struct fs → ⊥) where
  pair_by : (s : TypeData) → back s ≡ t → IsPair s → ⊥
  pair_by (T.struct fs) e p = struct (back_fields fs) (sym e)
  pair_by _ e p = p

  pub no_pair : IsPair (seen t) → ⊥
  no_pair p = pair_by (seen t) (back-seen t) p

-- ---- which layouts are lists

abbrev pub IsListKind : PhysicalType → Type 0
IsListKind physical.List = ⊤
IsListKind physical.LargeList = ⊤
IsListKind physical.Map = ⊤
IsListKind _ = ⊥

pub list_kinds : (large : Bool) → IsListKind (physical_list large)
list_kinds true = tt
list_kinds false = tt

abbrev IsListKindIfAny : Option PhysicalType → Type 0
IsListKindIfAny None = ⊥
IsListKindIfAny (Some q) = IsListKind q

abbrev IsListForm : Form → Type 0
IsListForm (lists_of large u) = ⊤
IsListForm _ = ⊥

form_of_kind : (t : TypeData) (f : Form) → IsListKindIfAny (physical_by t f) → IsListForm f
form_of_kind t (lists_of large u) k = tt
form_of_kind t nulls_of k = k
form_of_kind t booleans_of k = k
form_of_kind t (primitives_of p) k = k
form_of_kind t (binaries_of true true) k = k
form_of_kind t (binaries_of true false) k = k
form_of_kind t (binaries_of false true) k = k
form_of_kind t (binaries_of false false) k = k
form_of_kind t (fixed_size_binaries_of n) k = k
form_of_kind t (views_of true) k = k
form_of_kind t (views_of false) k = k
form_of_kind t (fixed_size_lists_of n u) k = k
form_of_kind t (structs_of fs) k = k
form_of_kind t (unions_of mode ids fs) k = k
form_of_kind t (dictionaries_of key u) k = k
form_of_kind t no_form k = k

list_form : (t : TypeData) (f : Form) (q : PhysicalType) → form_of t ≡ f → physical_of t ≡ Some q → IsListKind q → IsListForm f
list_form t f q e s k = form_of_kind t f (subst IsListKindIfAny (sym s ∙ physical-by t ∙ ap (physical_by t) e) k)

pub lists_by_type : (l : Layout) (q : PhysicalType) → WellFormed l → IsStoredAs q l → IsListKind q → IsLists l
lists_by_type (lists t m os l) q w s k = tt
lists_by_type (nulls t n) q w s k = list_form t _ q w.of_form s k
lists_by_type (booleans t m vs) q w s k = list_form t _ q w.0.of_form s k
lists_by_type (primitives t m vs) q w s k = list_form t _ q w.0.of_form s k
lists_by_type (binaries t m os bs) q w s k = list_form t _ q w.0.of_form s k
lists_by_type (fixed_size_binaries t m n c bs) q w s k = list_form t _ q w.0.of_form s k
lists_by_type (views t m vs buffers) q w s k = list_form t _ q w.0.of_form s k
lists_by_type (fixed_size_lists t m n c l) q w s k = list_form t _ q w.0.of_form s k
lists_by_type (structs t m n ls) q w s k = list_form t _ q w.0.of_form s k
lists_by_type (sparse_unions t o ts ls) q w s k = list_form t _ q w.0.of_form s k
lists_by_type (dense_unions t o ts os ls) q w s k = list_form t _ q w.0.of_form s k
lists_by_type (dictionaries t u m ks l) q w s k = list_form t _ q w.0.of_form s k

-- ---- what fits

pub lists_fit : (large : Bool) (limit : ℕ) (t : TypeData) (m : Option Bits) (os : List ℤ) (l : Layout) → form_of t ≡ lists_of large (type_of l) → IsCarried t
    → limit ≡ cond large (2 ^ 63) (2 ^ 31) → AreOffsets limit os → end_of os ≤ length_of l → MaskHasLength m (pred (length os)) → IsLed m → pred (length os) < 2 ^ 64
    → FitsHere (lists t m os l)
lists_fit large limit t m os l f c e ascend within covers led slots = (
  record { carried = c; of_form = f ∙ ap (λ x. lists_of x (type_of l)) (sym (ap large_by f)); mask = mask_fits_led m (pred (length os)) covers led; count = slots },
  subst (λ n. AreOffsetsWithin n (length_of l) os) (e ∙ ap offset_limit (sym f)) (are_offsets limit (length_of l) os ascend within),
)

-- a node owes what fits here
pub sound_node : (n : Node) → FitsHere (layout_of n) → IsOfItsType n → IsSoundNode n
sound_node (node.Boolean a) h k = tt
sound_node (node.Primitive a) h k = tt
sound_node (node.Binary a) h k = tt
sound_node (node.LargeBinary a) h k = tt
sound_node (node.Utf8 a) h k = tt
sound_node (node.LargeUtf8 a) h k = tt
sound_node (node.FixedSizeBinary a) h k = tt
sound_node (node.BinaryView a) h k = tt
sound_node (node.Utf8View a) h k = tt
sound_node _ h k = (h, k)

-- a node of lists, from its layout and its variant
pub list_node_sound : (n : Node) (l : Layout) (q : PhysicalType) → layout_of n ≡ l → node_physical n ≡ q → FitsHere l → IsStoredAs q l → IsSoundNode n
list_node_sound n l q e k h s = sound_node n (subst FitsHere (sym e) h) (ap physical_of (ap type_of e) ∙ (s ∙ ap Some (sym k)))

ends_from : (top a : ℕ) (os : List ℤ) → AscendTo top a (map nat_of os) → end_from a os ≤ top
ends_from top a [] h = h
ends_from top a (pos n ∷ os) h = ends_from top n os h.1
ends_from top a (negsuc n ∷ os) h = ends_from top 0 os h.1

pub ends_within : (top : ℕ) (os : List ℤ) → AreOffsetsTo top (map nat_of os) → end_of os ≤ top
ends_within top [] h = absurd h
ends_within top (pos n ∷ os) h = ends_from top n os h
ends_within top (negsuc n ∷ os) h = ends_from top 0 os h

mask_covers : (m : Option Bits) (n : ℕ) → MaskFits m n → MaskHasLength m n
mask_covers None n h = tt
mask_covers (Some b) n h = h.0

pub fit_lists : (q : PhysicalType) (l : Layout) → IsLists l → WellFormed l → IsStoredAs q l → ListFits q l
fit_lists q (lists t m os l) i w s = record {
  within = ends_within (length_of l) os w.1.ascend;
  covers = mask_covers m (pred (length os)) w.0.mask;
  stored = s;
  child = form_child t (form_of t) (large_by (form_of t)) (type_of l) refl w.0.of_form;
}
fit_lists q _ i w s = absurd i

pub fit_maps : (l : Layout) → IsLists l → WellFormed l → IsStoredAs physical.Map l → MapFits l
fit_maps (lists t m os l) i w s = record { parts = fit_lists physical.Map (lists t m os l) i w s; pair = carried_pair t s w.0.carried }
fit_maps _ i w s = absurd i

-- one more offset than slots
count_above : (top : ℕ) (os : List ℤ) → AreOffsetsTo top (map nat_of os) → pred (length os) + 1 ≡ length os
count_above top [] h = absurd h
count_above top (o ∷ os) h = omega arith

pub offsets_above : (l : Layout) → IsLists l → WellFormed l → length_of l + 1 ≡ length (list_offsets l)
offsets_above (lists t m os l) i w = count_above (length_of l) os w.1.ascend
offsets_above _ i w = absurd i

pub ends_in_child : (l : Layout) → IsLists l → WellFormed l → EndsWithin l
ends_in_child (lists t m os l) i w = ends_within (length_of l) os w.1.ascend
ends_in_child _ i w = absurd i

-- ---- nodes

not_primitive : (a : PrimitiveNode) → IsLists (layout_of (node.Primitive a)) → ⊥
not_primitive (array.Int8 a) h = h
not_primitive (array.Int16 a) h = h
not_primitive (array.Int32 a) h = h
not_primitive (array.Int64 a) h = h
not_primitive (array.Int128 a) h = h
not_primitive (array.UInt8 a) h = h
not_primitive (array.UInt16 a) h = h
not_primitive (array.UInt32 a) h = h
not_primitive (array.UInt64 a) h = h
not_primitive (array.DaysMs a) h = h
not_primitive (array.MonthDayNano a) h = h

module _
    (n : Node) (list : (t : _) (os : _) (l : _) (m : _) → n ≡ node.List t os l m → ⊥) (large : (t : _) (os : _) (l : _) (m : _) → n ≡ node.LargeList t os l m → ⊥)
    (maps : (t : _) (os : _) (l : _) (m : _) → n ≡ node.Map t os l m → ⊥)
  where
    by : (k : Node) → k ≡ n → IsLists (layout_of k) → ⊥
    by (node.List t os l m) e h = list t os l m (sym e)
    by (node.LargeList t os l m) e h = large t os l m (sym e)
    by (node.Map t os l m) e h = maps t os l m (sym e)
    by (node.Primitive a) e h = not_primitive a h
    by (node.Union t ts (Some os) ls s) e h = h
    by (node.Union t ts None ls s) e h = h
    by _ e h = h

    pub no_lists : IsLists (layout_of n) → ⊥
    no_lists h = by n refl h

-- ---- values

pub part_at : (os : List ℤ) (l : Layout) (i s e : ℕ) → slice_get os i ≡ Some (pos s) → slice_get os (i + 1) ≡ Some (pos e)
    → slice_get (parts_between (map nat_of os) l) i ≡ Some (cut l s (e - s))
part_at os l i s e h k = let q : suc i ≡ i + 1 = omega arith in by os i h (ap (slice_get os) q ∙ k)
  where
    by : (os : List ℤ) (i : ℕ) → slice_get os i ≡ Some (pos s) → slice_get os (suc i) ≡ Some (pos e)
        → slice_get (parts_between (map nat_of os) l) i ≡ Some (cut l s (e - s))
    by [] i h k = cc
    by (o ∷ []) i h k = cc
    by (o ∷ p ∷ os) zero h k = cc
    by (o ∷ p ∷ os) (suc i) h k = by (p ∷ os) i h k

parts_from_count : (a : ℕ) (os : List ℕ) (l : Layout) → length (parts_from a os l) ≡ length os
parts_from_count a [] l = refl
parts_from_count a (b ∷ os) l = ap suc (parts_from_count b os l)

parts_count : (os : List ℤ) (l : Layout) → length (parts_between (map nat_of os) l) ≡ pred (length os)
parts_count [] l = refl
parts_count (o ∷ os) l = parts_from_count (nat_of o) (map nat_of os) l ∙ length-map os nat_of

pub values_count : (l : Layout) → IsLists l → length (list_values l) ≡ length_of l
values_count (lists t m os l) i = parts_count os l
values_count _ i = absurd i

types_from : (a : ℕ) (os : List ℕ) (l : Layout) → HaveType (type_of l) (parts_from a os l)
types_from a [] l = tt
types_from a (b ∷ os) l = (type-cut l a (b - a), types_from b os l)

types_between : (os : List ℕ) (l : Layout) → HaveType (type_of l) (parts_between os l)
types_between [] l = tt
types_between (a ∷ os) l = types_from a os l

pub values_types : (l : Layout) → IsLists l → HaveType (type_of (list_child l)) (list_values l)
values_types (lists t m os l) i = types_between (map nat_of os) l
values_types _ i = absurd i

slots_from : (l : Layout) (a : ℕ) (os : List ℕ) → WellFormed l → AscendTo (length_of l) a os → item_slots (pieces_from a os (denote l)) ≡ map items_slot (parts_from a os l)
slots_from l a [] w h = refl
slots_from l a (b ∷ os) w h =
    let r = ascend_top (length_of l) b os h.1 in
    let s = h.0 in
    let one = denote-cut l a (b - a) w (omega (arith, r, s)) in
    ap₂ (λ x xs. x ∷ xs) (ap (λ xs. items (slots_of xs)) (sym one)) (slots_from l b os w h.1)

slots_between : (l : Layout) (os : List ℕ) → WellFormed l → AreOffsetsTo (length_of l) os → item_slots (pieces os (denote l)) ≡ map items_slot (parts_between os l)
slots_between l [] w h = refl
slots_between l (a ∷ os) w h = slots_from l a os w h

pub values_denote : (l : Layout) → IsLists l → WellFormed l → under l ≡ map items_slot (list_values l)
values_denote (lists t m os l) i w = slots_between l (map nat_of os) w.2 w.1.ascend
values_denote _ i w = absurd i

pub slots_denote : (l : Layout) → IsLists l → WellFormed l → denote l ≡ map (slot_or_null items_slot) (valid_list_values l)
slots_denote (lists t m os l) i w =
    let many = parts_count os l in
    ap (masked m) (values_denote (lists t m os l) i w)
    ∙ denotes items_slot m (parts_between (map nat_of os) l) (subst (MaskHasLength m) (sym many) (mask_covers m (pred (length os)) w.0.mask))
slots_denote _ i w = absurd i

-- the mask of the values
pub values_covered : (l : Layout) → IsLists l → WellFormed l → MaskHasLength (validity_of l) (length (list_values l))
values_covered (lists t m os l) i w = subst (MaskHasLength m) (sym (parts_count os l)) (mask_covers m (pred (length os)) w.0.mask)
values_covered _ i w = absurd i

-- ---- outcomes

pub ok_becomes : {A E : Type 0} (P Q : A → Type 0) → ((x : A) → P x → Q x) → (r : Result A E) → IfOk r P → IfOk r Q
ok_becomes P Q f (Ok x) h = f x h
ok_becomes P Q f (Err e) h = tt

pub same_some : {A : Type 0} (x y : A) → Some x ≡ Some y → x ≡ y
same_some x y e = cc
