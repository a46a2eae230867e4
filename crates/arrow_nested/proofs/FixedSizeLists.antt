-- Fixed-size lists: types and their forms, parts of the child, and the slots that they denote.
use Rattle.std.proofs.Common.{◌≡◌, ℕ, zero, suc, ◌+◌, ◌*◌, ◌/◌, ◌%◌, ◌^◌, ◌<◌, ◌≤◌, List, ◌∷◌, length, map, drop, slice_get, Option, Some, None, refl, ap, sym, subst, ◌∙◌, arith}
use Rattle.std.proofs.lemmas.List.{drop-drop}
use Rattle.std.proofs.Math.Nat.{div-add-mod}
use Rattle.arrow_buffers.specs.Bits.{Bits}
use Rattle.arrow_types.specs.Carried.{IsCarried}
use Rattle.arrow_types.specs.Seen.{back, back_field, seen}
use Rattle.arrow_types.specs.TypeData.{FieldData, TypeData}
use Rattle.arrow_types.specs.TypeData as T
use Rattle.arrow_types.specs.Types.{physical_of}
use Rattle.arrow_types.specs.declared.datatype.ArrowDataType.{ArrowDataType}
use Rattle.arrow_types.specs.declared.datatype.ArrowDataType as A
use Rattle.arrow_types.specs.declared.datatype.ExtensionType.{ExtensionType}
use Rattle.arrow_types.specs.declared.datatype.Field.{Field}
use Rattle.arrow_types.specs.declared.datatype.PhysicalType.TheVariants as physical
use Rattle.arrow_types.proofs.SeenFrom.{is_extension, is_fixed_size_list}
use Rattle.arrow_flat.specs.Pieces.{chunks}
use Rattle.arrow_flat.specs.Primitives.{IsLed, MaskHasLength}
use Rattle.arrow_flat.specs.Slots.{items, slot_or_null, slots_of}
use Rattle.arrow_layout.specs.Cut.{cut}
use Rattle.arrow_layout.specs.Denote.{denote, item_slots, masked, validity_of}
use Rattle.arrow_layout.specs.FitsHere.{FitsHere}
use Rattle.arrow_layout.specs.Forms.{fixed_size_lists_of, form_of}
use Rattle.arrow_layout.specs.Layouts.{Layout, fixed_size_lists, length_of, type_of}
use Rattle.arrow_layout.specs.Paths.{child_at}
use Rattle.arrow_layout.specs.WellFormed.{MaskFits, WellFormed}
use Rattle.arrow_layout.proofs.CutDenotes.{denote-cut}
use Rattle.arrow_layout.proofs.Physical.{physical_by, physical-by}
use Rattle.arrow_layout.proofs.Unique.{carried_of}
use Rattle.arrow_meaning.proofs.FlatSlots.{denotes}
use Rattle.arrow_meaning.proofs.NodeParts.{mask_fits_led}
use Rattle.arrow_meaning.specs.declared.node.Node.{Node}
use Rattle.arrow_meaning.specs.declared.node.Node.TheVariants as node
use Rattle.arrow_meaning.specs.Nodes.{node_physical, list_size}
use Rattle.arrow_nested.specs.FixedSizeLists.{PartsFit, cuts, size_by, slots, values_of}

-- ---- types

-- the type of lists over a type that columns have is one that they have
carried_lists : (t : TypeData) (k : ℕ) (u : TypeData) → form_of t ≡ fixed_size_lists_of k u → k < 2 ^ 64 → IsCarried u → IsCarried t
carried_lists (T.fixed_size_list (T.field n t b m) j) k u e l c =
    let same : t ≡ u = cc in
    let size : j ≡ k = cc in
    (omega (arith, l, size), subst IsCarried (sym same) c)
carried_lists (T.extension n t m) k u e l c = carried_lists t k u e l c
carried_lists (T.list (T.field n t b m)) k u e l c = cc
carried_lists (T.large_list (T.field n t b m)) k u e l c = cc
carried_lists (T.map (T.field n t b m) o) k u e l c = cc
carried_lists _ k u e l c = cc

no_items : (s : TypeData) → ((f : FieldData) (k : ℕ) → s ≡ T.fixed_size_list f k → ⊥) → ((n : List ℕ) (t : TypeData) (m : Option (List ℕ)) → s ≡ T.extension n t m → ⊥)
    → (k : ℕ) (u : TypeData) → form_of s ≡ fixed_size_lists_of k u → ⊥
no_items (T.fixed_size_list f j) no_list no_extension k u e = absurd (no_list f j refl)
no_items (T.extension n t m) no_list no_extension k u e = absurd (no_extension n t m refl)
no_items (T.list (T.field n t b m)) no_list no_extension k u e = cc
no_items (T.large_list (T.field n t b m)) no_list no_extension k u e = cc
no_items (T.map (T.field n t b m) o) no_list no_extension k u e = cc
no_items _ no_list no_extension k u e = cc

pub other_types : (t : ArrowDataType) → ((f : Field) (k : ℕ) → t ≡ A.FixedSizeList f k → ⊥) → ((x : ExtensionType) → t ≡ A.Extension x → ⊥)
    → (k : ℕ) (u : TypeData) → form_of (seen t) ≡ fixed_size_lists_of k u → ⊥
other_types t no_list no_extension =
    no_items (seen t) (λ f k is. no_list (back_field f) k (is_fixed_size_list t f k is)) (λ n s m is. no_extension record { name = n; inner = back s; metadata = m } (is_extension t n s m is))

-- ---- nodes

pub list_node : (n : Node) → node_physical n ≡ physical.FixedSizeList → ((t : _) (k c : ℕ) (l : _) (m : _) → n ≡ node.FixedSizeList t k c l m → ⊥) → ⊥
list_node (node.FixedSizeList t k c l m) e no_list = no_list t k c l m refl
list_node _ e no_list = cc

-- what the node of parts that fit owes
pub parts_fit_here : (t : TypeData) (m : Option Bits) (k n : ℕ) (l : Layout) → k ≡ size_by (form_of t) → k < 2 ^ 64 → n < 2 ^ 64 → PartsFit t n l m → IsLed m → WellFormed l
    → FitsHere (fixed_size_lists t m k n l)
parts_fit_here t m k n l e small few h led w =
    let form : form_of t ≡ fixed_size_lists_of k (type_of l) = h.items ∙ ap (λ j. fixed_size_lists_of j (type_of l)) (sym e) in (
      record {
        carried = carried_lists t k (type_of l) form small (carried_of l w);
        of_form = form;
        mask = mask_fits_led m n h.fits led;
        count = few;
      },
      h.whole ∙ ap (λ j. n * j) (sym e),
    )

pub stored_lists : (t : TypeData) (n : ℕ) (l : Layout) (m : Option Bits) → PartsFit t n l m → physical_of t ≡ Some physical.FixedSizeList
stored_lists t n l m h = physical-by t ∙ ap (physical_by t) h.items

pub well_formed_fit : (t : TypeData) (m : Option Bits) (k n : ℕ) (l : Layout) → WellFormed (fixed_size_lists t m k n l) → PartsFit t n l m
well_formed_fit t m k n l w =
    let size : size_by (form_of t) ≡ k = ap size_by w.0.of_form in
    record {
      items = w.0.of_form ∙ ap (λ j. fixed_size_lists_of j (type_of l)) (sym size);
      whole = w.1 ∙ ap (λ j. n * j) (sym size);
      fits = covers m n w.0.mask;
    }
  where
    covers : (m : Option Bits) (n : ℕ) → MaskFits m n → MaskHasLength m n
    covers None n h = tt
    covers (Some b) n h = h.0

-- ---- parts of the child

pub cuts_count : (l : Layout) (k n o : ℕ) → length (cuts l k n o) ≡ n
cuts_count l k zero o = refl
cuts_count l k (suc n) o = ap suc (cuts_count l k n (o + k))

pub cut_at : (l : Layout) (k n o i : ℕ) → i < n → slice_get (cuts l k n o) i ≡ Some (cut l (o + i * k) k)
cut_at l k zero o i h = absurd (omega (arith, h))
cut_at l k (suc n) o zero h = let e : o ≡ o + 0 * k = omega arith in ap (λ j. Some (cut l j k)) e
cut_at l k (suc n) o (suc i) h =
    let e : o + k + i * k ≡ o + suc i * k = omega arith in
    cut_at l k n (o + k) i (omega (arith, h)) ∙ ap (λ j. Some (cut l j k)) e

-- the slots of the parts are the pieces of the child's slots
pub cuts_denote : (l : Layout) (k n o : ℕ) → WellFormed l → o + n * k ≤ length_of l → item_slots (chunks k n (drop o (denote l))) ≡ map (λ c. items (slots_of (denote c))) (cuts l k n o)
cuts_denote l k zero o w h = refl
cuts_denote l k (suc n) o w h =
    let low : suc n * k ≡ k + n * k = omega arith in
    let first = denote-cut l o k w (omega (arith, low, h)) in
    let rest = cuts_denote l k n (o + k) w (omega (arith, low, h)) in
    ap (λ xs. items (slots_of xs) ∷ item_slots (chunks k n (drop k (drop o (denote l))))) (sym first)
    ∙ ap (λ ys. items (slots_of (denote (cut l o k))) ∷ ys) (ap (λ xs. item_slots (chunks k n xs)) (drop-drop k o (denote l)) ∙ rest)

-- a child of whole lists
pub whole_lists : (c k n : ℕ) → (0 < k → c % k ≡ 0) → (0 < k → c / k ≡ n) → (k ≡ 0 → c ≡ 0) → c ≡ n * k
whole_lists c zero n multiple exact none = let e : 0 ≡ n * 0 = omega arith in none refl ∙ e
whole_lists c (suc k) n multiple exact none =
    let some : 0 < suc k = omega arith in
    let e : suc k * n + 0 ≡ n * suc k = omega arith in
    sym (div-add-mod c (suc k)) ∙ ap (λ r. suc k * (c / suc k) + r) (multiple some) ∙ ap (λ q. suc k * q + 0) (exact some) ∙ e

-- ---- slots

module _ (t : TypeData) (m : Option Bits) (k n : ℕ) (l : Layout) (w : WellFormed (fixed_size_lists t m k n l)) where
  pub lists_under : item_slots (chunks k n (denote l)) ≡ map (λ c. items (slots_of (denote c))) (values_of (fixed_size_lists t m k n l))
  lists_under = cuts_denote l k n 0 w.2 (omega (arith, w.1))

  pub lists_denote : denote (fixed_size_lists t m k n l) ≡ map (slot_or_null (λ c. items (slots_of (denote c)))) (slots (fixed_size_lists t m k n l))
  lists_denote =
      ap (masked m) lists_under
      ∙ denotes (λ c. items (slots_of (denote c))) m (cuts l k n 0) (subst (MaskHasLength m) (sym (cuts_count l k n 0)) (well_formed_fit t m k n l w).fits)

-- ---- an array that is one of fixed-size lists

pub values_count : (l : Layout) → length (values_of l) ≡ length_of l
values_count l = cuts_count (child_at 0 l) (list_size l) (length_of l) 0

pub value_at : (l : Layout) (i : ℕ) → i < length_of l → slice_get (values_of l) i ≡ Some (cut (child_at 0 l) (i * list_size l) (list_size l))
value_at l i h =
    let start : 0 + i * list_size l ≡ i * list_size l = omega arith in
    cut_at (child_at 0 l) (list_size l) (length_of l) 0 i h ∙ ap (λ j. Some (cut (child_at 0 l) j (list_size l))) start

pub lists_covered : (t : TypeData) (m : Option Bits) (k n : ℕ) (c l : Layout) → fixed_size_lists t m k n c ≡ l → WellFormed l → MaskHasLength (validity_of l) (length (values_of l))
lists_covered t m k n c l e w =
    let fits = (well_formed_fit t m k n c (subst WellFormed (sym e) w)).fits in
    subst (MaskHasLength (validity_of l)) (sym (values_count l)) (subst (λ a. MaskHasLength (validity_of a) (length_of a)) e fits)
