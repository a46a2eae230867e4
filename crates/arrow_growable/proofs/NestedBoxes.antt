-- The array in which a growable of arrays over children ends.
use Rattle.std.proofs.Common.{◌≡◌, ℕ, zero, suc, pred, ◌+◌, ◌*◌, ◌<◌, ◌≤◌, ◌^◌, ℤ, Bool, true, false, List, [], ◌∷◌, length, map, flat_map, refl, ap, ap₂, sym, ◌∙◌, subst, arith, Option, Some, None}
use Rattle.std.specs.Prelude.{⊤}
use Rattle.std.specs.List.{AllByRecursion}
use Rattle.std.proofs.lemmas.Bool.{false≢true}
use Rattle.arrow_types.specs.Carried.{IsCarried}
use Rattle.arrow_types.specs.TypeData.{TypeData}
use Rattle.arrow_types.specs.Types.{physical_of}
use Rattle.arrow_types.specs.declared.datatype.PhysicalType.TheVariants as physical
use Rattle.arrow_flat.specs.Slots.{Slot}
use Rattle.arrow_layout.specs.Denote.{columns, denote, masked}
use Rattle.arrow_layout.specs.FitsHere.{FitsHere}
use Rattle.arrow_layout.specs.Forms.{Form, form_of}
use Rattle.arrow_layout.specs.Layouts.{Layout, Layouts, child, layouts, no_layouts, nulls, type_of}
use Rattle.arrow_layout.specs.Plain.{ArePlain}
use Rattle.arrow_layout.specs.SlotsOf.{HasSlots}
use Rattle.arrow_layout.specs.WellFormed.{WellFormed}
use Rattle.arrow_layout.proofs.Unique.{carried_of}
use Rattle.arrow_meaning.specs.Nodes.{IsOfItsType, IsSoundNode, layout_of, node_physical}
use Rattle.arrow_meaning.specs.declared.node.Node.{Node}
use Rattle.arrow_meaning.specs.declared.node.Node.TheVariants as node
use Rattle.arrow_grow_flat.specs.Grown.{Boxes, Grown, IsBoxed, IsBoxOf, IsMasked, IsSound, Keeps, Room}
use Rattle.arrow_grow_flat.specs.Masks.{no_bits, plain_mask}
use Rattle.arrow_grow_flat.specs.Tidy.{AreTidy}
use Rattle.arrow_grow_flat.specs.Values.{IsMaskOf, is_there}
use Rattle.arrow_growable.specs.NestedGrown.{AllBoxed, AllKeep, AreAlive, HoldsColumns, IsNestedGrown, TakeFills, lists_in, types_in}
use Rattle.arrow_growable.specs.Columns.{child_types, columns_by, IsNested}
use Rattle.arrow_growable.specs.Parts.{AreOfForm, HasParts, IsNestedKind, PartsFit, layout_with, mask_with, parts_physical, slots_with}
use Rattle.arrow_growable.specs.declared.parts.NestedParts.{NestedParts}
use Rattle.arrow_growable.specs.declared.parts.NestedParts.TheVariants as parts_of
use Rattle.arrow_growable.proofs.Boxed.{AreBoxes, box_fits, boxes_denote, masked_with, plain_with, tidy_with}
use Rattle.arrow_growable.proofs.ColumnSlots.{no_columns}
use Rattle.arrow_growable.proofs.EmptyRooms.{fresh_fit, none_fits}
use Rattle.arrow_buffers.specs.Bits.{Bits}
use Rattle.arrow_layout.specs.Denote.{validity_of}
use Rattle.arrow_growable.proofs.NestedSteps.{all_arrays_sound, kept_fills, kept_made, kept_types}
use Rattle.arrow_growable.proofs.PartLayouts.{denote_with, own_slots, room_with, slots_back}

-- ---- the arrays of the children

boxes_of : (cs ds : List Grown) (ls : List Layout) → AllBoxed cs ls ds → AreBoxes (types_in cs) (lists_in cs) (layouts ls)
boxes_of [] [] [] h = tt
boxes_of [] [] (l ∷ ls) h = absurd h
boxes_of [] (d ∷ ds) [] h = absurd h
boxes_of [] (d ∷ ds) (l ∷ ls) h = absurd h
boxes_of (c ∷ cs) ds [] h = absurd h
boxes_of (c ∷ cs) [] (l ∷ ls) h = absurd h
boxes_of (c ∷ cs) (d ∷ ds) (l ∷ ls) h = let b = h.0.box in (b.of_type, b.slots, h.1, boxes_of cs ds ls h.2)

boxes_plain : (cs ds : List Grown) (ls : List Layout) → AllBoxed cs ls ds → ArePlain (layouts ls)
boxes_plain [] [] [] h = tt
boxes_plain [] [] (l ∷ ls) h = absurd h
boxes_plain [] (d ∷ ds) [] h = absurd h
boxes_plain [] (d ∷ ds) (l ∷ ls) h = absurd h
boxes_plain (c ∷ cs) ds [] h = absurd h
boxes_plain (c ∷ cs) [] (l ∷ ls) h = absurd h
boxes_plain (c ∷ cs) (d ∷ ds) (l ∷ ls) h = let b = h.0.box in (b.plain, boxes_plain cs ds ls h.2)

boxes_tidy : (cs ds : List Grown) (ls : List Layout) → AllBoxed cs ls ds → AreTidy (layouts ls)
boxes_tidy [] [] [] h = tt
boxes_tidy [] [] (l ∷ ls) h = absurd h
boxes_tidy [] (d ∷ ds) [] h = absurd h
boxes_tidy [] (d ∷ ds) (l ∷ ls) h = absurd h
boxes_tidy (c ∷ cs) ds [] h = absurd h
boxes_tidy (c ∷ cs) [] (l ∷ ls) h = absurd h
boxes_tidy (c ∷ cs) (d ∷ ds) (l ∷ ls) h = let b = h.0.box in (b.tidy, boxes_tidy cs ds ls h.2)

abbrev no_slots_of : Grown → List Slot
no_slots_of c = []

abbrev no_column : List Slot → List Slot
no_column c = []

boxes_left : (cs ds : List Grown) (ls : List Layout) → AllBoxed cs ls ds → AreAlive ds × (lists_in ds ≡ map no_slots_of cs)
boxes_left [] [] [] h = (tt, refl)
boxes_left [] [] (l ∷ ls) h = absurd h
boxes_left [] (d ∷ ds) [] h = absurd h
boxes_left [] (d ∷ ds) (l ∷ ls) h = absurd h
boxes_left (c ∷ cs) ds [] h = absurd h
boxes_left (c ∷ cs) [] (l ∷ ls) h = absurd h
boxes_left (c ∷ cs) (d ∷ ds) (l ∷ ls) h = let more = boxes_left cs ds ls h.2 in ((h.0.alive, more.0), ap₂ (λ x xs. x ∷ xs) h.0.empty more.1)

empty_lists : (cs : List Grown) → map no_slots_of cs ≡ map no_column (lists_in cs)
empty_lists [] = refl
empty_lists (c ∷ cs) = ap (λ xs. [] ∷ xs) (empty_lists cs)

-- ---- nodes

nested_node : (n : Node) (p : NestedParts) → node_physical n ≡ parts_physical p → IsNestedKind (parts_physical p) → FitsHere (layout_of n) → IsOfItsType n → IsSoundNode n
nested_node (node.Null t k) p e h f w = (f, w)
nested_node (node.Boolean a) p e h f w = tt
nested_node (node.Primitive a) p e h f w = tt
nested_node (node.Binary a) p e h f w = tt
nested_node (node.LargeBinary a) p e h f w = tt
nested_node (node.Utf8 a) p e h f w = tt
nested_node (node.LargeUtf8 a) p e h f w = tt
nested_node (node.FixedSizeBinary a) p e h f w = tt
nested_node (node.BinaryView a) p e h f w = tt
nested_node (node.Utf8View a) p e h f w = tt
nested_node (node.List t os l m) p e h f w = (f, w)
nested_node (node.LargeList t os l m) p e h f w = (f, w)
nested_node (node.Map t os l m) p e h f w = (f, w)
nested_node (node.FixedSizeList t k n l m) p e h f w = (f, w)
nested_node (node.Struct t n ls m) p e h f w = (f, w)
nested_node (node.Union t ts os ls shift) p e h f w = (f, w)
nested_node (node.Dictionary t ks l) p e h f w = (f, w)

type_with : (t : TypeData) (m : Option Bits) (p : NestedParts) (ls : Layouts) → type_of (layout_with t m p ls) ≡ t
type_with t m (parts_of.List os) ls = refl
type_with t m (parts_of.LargeList os) ls = refl
type_with t m (parts_of.Map os) ls = refl
type_with t m (parts_of.FixedSizeList k n) ls = refl
type_with t m (parts_of.Struct n) ls = refl
type_with t m (parts_of.SparseUnion ts) ls = refl
type_with t m (parts_of.DenseUnion ts os ns) ls = refl

-- ---- the array, and what is left

module _ (g : Grown) (cs : List Grown) (m : Option (List Bool)) (p : NestedParts) (is : IsNestedGrown g cs m p) (alive : g.failed ≡ false) (ds : List Grown) (ls : List Layout) (boxed : AllBoxed cs ls ds) where
  holds : HoldsColumns g cs m p
  holds = is.holds alive

  carried : IsCarried g.dtype
  carried = all_arrays_sound g.dtype g.arrays is.some is.sound.typed

  boxes : AreBoxes (child_types (form_of g.dtype)) (columns_by (form_of g.dtype) g.slots) (layouts ls)
  boxes = subst (λ ts. AreBoxes ts (columns_by (form_of g.dtype) g.slots) (layouts ls)) is.types (subst (λ xs. AreBoxes (types_in cs) xs (layouts ls)) holds.columns (boxes_of cs ds ls boxed))

  abbrev pub box : Layout
  box = layout_with g.dtype (plain_mask m) p (layouts ls)

  fits : FitsHere box
  fits = box_fits g.dtype (form_of g.dtype) g.slots p m (layouts ls) refl carried holds.slots holds.own holds.mask (is.sound.room alive) boxes

  -- the node may become an array
  pub box_node : (n : Node) → layout_of n ≡ box → node_physical n ≡ parts_physical p → IsSoundNode n
  box_node n e k =
      let stored : physical_of (type_of (layout_of n)) ≡ Some (node_physical n) =
      ap (λ l. physical_of (type_of l)) e ∙ ap physical_of (type_with g.dtype (plain_mask m) p (layouts ls)) ∙ is.kind ∙ ap Some (sym k) in
      nested_node n p k is.nested (subst FitsHere (sym e) fits) stored

  box_slots : denote box ≡ g.slots
  box_slots =
      denote_with g.dtype (plain_mask m) p (layouts ls)
      ∙ (slots_back g.dtype (form_of g.dtype) g.slots p m (columns (layouts ls)) refl carried holds.slots holds.own holds.mask
      (boxes_denote (child_types (form_of g.dtype)) (columns_by (form_of g.dtype) g.slots) (layouts ls) boxes)).0

  pub is_box : IsBoxOf g box
  is_box = record {
    of_type = type_with g.dtype (plain_mask m) p (layouts ls);
    slots = box_slots;
    mask = λ h. subst (λ b. IsMasked b (validity_of box)) is.masked (masked_with g.dtype m p (layouts ls) h);
    plain = plain_with g.dtype m p (layouts ls) (boxes_plain cs ds ls boxed);
    tidy = tidy_with g.dtype (form_of g.dtype) g.slots p m (layouts ls) holds.own holds.mask boxes (boxes_tidy cs ds ls boxed);
  }

  module _ (keep : AllKeep cs ds) (q : NestedParts) (form : AreOfForm (form_of g.dtype) q × HasParts (form_of g.dtype) [] q) (kind : parts_physical q ≡ parts_physical p) where
    abbrev k : Option (List Bool)
    k = no_bits m

    no_mask : (b : Option (List Bool)) → IsMaskOf (no_bits b) []
    no_mask None = tt
    no_mask (Some bits) = refl

    no_there : (b : Option (List Bool)) → is_there (no_bits b) ≡ is_there b
    no_there None = refl
    no_there (Some bits) = refl

    no_lists : lists_in ds ≡ columns_by (form_of g.dtype) []
    no_lists =
        (boxes_left cs ds ls boxed).1 ∙ empty_lists cs ∙ ap (map no_column) holds.columns ∙ sym (no_columns (form_of g.dtype) g.slots)

    abbrev pub left_slots : List Slot
    left_slots = masked (plain_mask k) (slots_with g.dtype q (lists_in ds))

    none_left : left_slots ≡ []
    none_left = (slots_back g.dtype (form_of g.dtype) [] q k (lists_in ds) refl carried tt form.1 (no_mask m) no_lists).1

    no_fit : PartsFit g.dtype q
    no_fit = fresh_fit g.dtype (form_of g.dtype) q refl form.1

    no_room : Room g.dtype []
    no_room = none_fits g.dtype

    there_same : is_there k ≡ g.takes_nulls
    there_same = no_there m ∙ is.masked

    abbrev pub left : Grown
    left = record { dtype = g.dtype; arrays = g.arrays; slots = left_slots; takes_nulls = is_there k; failed = false }

    pub nested_left : IsNestedGrown left ds k q
    nested_left =
        let s = is.sound in
        record {
          sound = record { typed = s.typed; few = s.few; needed = λ e. there_same ∙ s.needed e; room = λ _. subst (Room g.dtype) (sym none_left) no_room };
          some = is.some;
          form = form.0;
          kind = is.kind ∙ ap Some (sym kind);
          nested = subst IsNestedKind (sym kind) is.nested;
          types = kept_types cs ds keep ∙ is.types;
          made = kept_made 0 cs ds g.arrays keep is.made;
          fills = subst (λ w. TakeFills (form_of g.dtype) w 0 ds) (sym there_same) (kept_fills (form_of g.dtype) g.takes_nulls 0 cs ds keep is.fills);
          masked = refl;
          holds = λ _. record {
            alive = (boxes_left cs ds ls boxed).0;
            slots = subst (HasSlots g.dtype) (sym none_left) tt;
            own = subst (λ r. HasParts (form_of g.dtype) r q) (sym none_left) form.1;
            fit = no_fit;
            columns = no_lists ∙ ap (columns_by (form_of g.dtype)) (sym none_left);
            mask = subst (IsMaskOf k) (sym none_left) (no_mask m);
          };
        }

    pub nested_boxed : IsBoxed g box left
    nested_boxed = record { alive = refl; empty = none_left; box = is_box }
