-- What a type's layout, slots and filling are, from its form.
use Rattle.std.proofs.Common.{List, [], ap, flat_map, get_or, length, map, refl, replicate, subst, sym, ◌<◌, ◌^◌, ◌∙◌, ◌≡◌, ◌≤◌}
use Rattle.std.specs.List.{AllByRecursion}
use Rattle.std.specs.Prelude.{⊤}
use Rattle.arrow_types.specs.Carried.{AreCarried, AreIds, IsCarried, count_fields}
use Rattle.arrow_types.specs.Select.{first_number, number_limit, select}
use Rattle.arrow_types.specs.TypeData.{TypeData}
use Rattle.arrow_types.specs.Types.{integer_type, logical_of}
use Rattle.arrow_types.specs.declared.datatype.UnionMode.TheVariants.{Dense, Sparse}
use Rattle.arrow_flat.specs.Slots.{Slot, chosen, null, list_of_slots}
use Rattle.arrow_layout.specs.Canon.{canon, canon_chosen, canon_dense, canon_parts, dense_offsets, distinct, flat_canon, items_or, key_canon, list_canon, mask_of, numbers, parts_or}
use Rattle.arrow_layout.specs.Forms.{Form, dictionaries_of, fixed_size_binaries_of, fixed_size_lists_of, form_of, lists_of, structs_of, unions_of}
use Rattle.arrow_layout.specs.Layouts.{Layout, dense_unions, fixed_size_lists, retyped, sparse_unions, structs, type_of}
use Rattle.arrow_layout.specs.SlotsOf.{AreParts, HasSlots, IsDictionarySlot, IsFixedListSlot, IsFlatSlot, IsListSlot, IsPart, IsSlot, IsStructSlot, IsUnionSlot, fill, fills}
use Rattle.arrow_flat.proofs.Lists.{all_weaker}
use Rattle.arrow_types.specs.TypeData as T

abbrev pub canon_by : TypeData → Form → List Slot → Layout
canon_by t (lists_of large u) s = list_canon t s (canon u (flat_map (items_or []) s))
canon_by t (fixed_size_lists_of k u) s = fixed_size_lists t (mask_of s) k (length s) (canon u (flat_map (items_or (replicate k (fill u))) s))
canon_by t (structs_of fs) s = structs t (mask_of s) (length s) (canon_parts fs (map (parts_or (fills fs)) s))
canon_by t (unions_of Sparse ids fs) s = sparse_unions t 0 (numbers s) (canon_chosen (select ids) fs 0 s)
canon_by t (unions_of Dense ids fs) s = dense_unions t 0 (numbers s) (dense_offsets (select ids) s) (canon_dense (select ids) fs 0 s)
canon_by t (dictionaries_of k u) s = key_canon t (integer_type k) s (canon u (distinct s))
canon_by t f s = flat_canon t f s

pub retyped-by : (u t : TypeData) (f : Form) (s : List Slot) → retyped u (canon_by t f s) ≡ canon_by u f s
retyped-by u t (unions_of Sparse ids fs) s = refl
retyped-by u t (unions_of Dense ids fs) s = refl
retyped-by u t _ s = refl

pub canon-by : (t : TypeData) (s : List Slot) → canon t s ≡ canon_by t (form_of t) s
canon-by (T.union fs ids Sparse) s = refl
canon-by (T.union fs ids Dense) s = refl
canon-by (T.extension n t m) s = ap (retyped (T.extension n t m)) (canon-by t s) ∙ retyped-by (T.extension n t m) t (form_of t) s
canon-by (T.list (T.field n t b m)) s = refl
canon-by (T.large_list (T.field n t b m)) s = refl
canon-by (T.map (T.field n t b m) o) s = refl
canon-by (T.fixed_size_list (T.field n t b m) k) s = refl
canon-by _ s = refl

-- the canonical layout of a type whose form is known
pub canon-form : (t : TypeData) (f : Form) (s : List Slot) → form_of t ≡ f → canon t s ≡ canon_by t f s
canon-form t f s e = canon-by t s ∙ ap (λ g. canon_by t g s) e

type-by : (t : TypeData) (f : Form) (s : List Slot) → type_of (canon_by t f s) ≡ t
type-by t (unions_of Sparse ids fs) s = refl
type-by t (unions_of Dense ids fs) s = refl
type-by t _ s = refl

pub type-canon : (t : TypeData) (s : List Slot) → type_of (canon t s) ≡ t
type-canon t s = ap type_of (canon-by t s) ∙ type-by t (form_of t) s

abbrev pub IsSlotBy : Form → Slot → Type 0
IsSlotBy (lists_of large u) = IsListSlot (IsSlot u)
IsSlotBy (fixed_size_lists_of k u) = IsFixedListSlot k (IsSlot u)
IsSlotBy (structs_of fs) = IsStructSlot (AreParts fs)
IsSlotBy (unions_of mode ids fs) = IsUnionSlot (λ t x. (t < number_limit ids (count_fields fs)) × IsPart fs (select ids t) x)
IsSlotBy (dictionaries_of k u) = IsDictionarySlot (IsSlot u)
IsSlotBy f = IsFlatSlot f

pub slot-by : (t : TypeData) (x : Slot) → IsSlotBy (form_of t) x → IsSlot t x
slot-by (T.extension n t m) x h = slot-by t x h
slot-by (T.list (T.field n t b m)) x h = h
slot-by (T.large_list (T.field n t b m)) x h = h
slot-by (T.map (T.field n t b m) o) x h = h
slot-by (T.fixed_size_list (T.field n t b m) k) x h = h
slot-by _ x h = h

pub by-slot : (t : TypeData) (x : Slot) → IsSlot t x → IsSlotBy (form_of t) x
by-slot (T.extension n t m) x h = by-slot t x h
by-slot (T.list (T.field n t b m)) x h = h
by-slot (T.large_list (T.field n t b m)) x h = h
by-slot (T.map (T.field n t b m) o) x h = h
by-slot (T.fixed_size_list (T.field n t b m) k) x h = h
by-slot _ x h = h

-- slots of the form are slots of the type
pub slots_form : (t : TypeData) (f : Form) (s : List Slot) → form_of t ≡ f → AllByRecursion (IsSlotBy f) s → HasSlots t s
slots_form t f s e h = all_weaker (IsSlotBy (form_of t)) (IsSlot t) (slot-by t) s (subst (λ g. AllByRecursion (IsSlotBy g) s) (sym e) h)

abbrev pub fill_by : Form → Slot
fill_by (unions_of mode ids fs) = chosen (first_number ids) (get_or (list_of_slots (fills fs)) (select ids (first_number ids)) null)
fill_by _ = null

fill-by : (t : TypeData) → fill t ≡ fill_by (form_of t)
fill-by (T.extension n t m) = fill-by t
fill-by (T.list (T.field n t b m)) = refl
fill-by (T.large_list (T.field n t b m)) = refl
fill-by (T.map (T.field n t b m) o) = refl
fill-by (T.fixed_size_list (T.field n t b m) k) = refl
fill-by _ = refl

pub fill-form : (t : TypeData) (f : Form) → form_of t ≡ f → fill t ≡ fill_by f
fill-form t f e = fill-by t ∙ ap fill_by e

-- what a type that columns have asks of its form
abbrev pub IsCarriedBy : Form → Type 0
IsCarriedBy (fixed_size_binaries_of k) = (0 < k) × (k < 2 ^ 64)
IsCarriedBy (lists_of large u) = IsCarried u
IsCarriedBy (fixed_size_lists_of k u) = (k < 2 ^ 64) × IsCarried u
IsCarriedBy (structs_of fs) = AreCarried fs
IsCarriedBy (unions_of mode ids fs) = (0 < count_fields fs) × (count_fields fs ≤ 127) × AreIds ids (count_fields fs) × AreCarried fs
IsCarriedBy (dictionaries_of k u) = IsCarried u
IsCarriedBy _ = ⊤

by-carried : (t : TypeData) → IsCarried t → IsCarriedBy (form_of t)
by-carried (T.list (T.field n t b m)) c = c
by-carried (T.large_list (T.field n t b m)) c = c
by-carried (T.map (T.field n t b m) o) c = c.1
by-carried (T.fixed_size_list (T.field n t b m) k) c = c
by-carried (T.struct fs) c = c
by-carried (T.union fs ids mode) c = c
by-carried (T.dictionary k t o) c = c
by-carried (T.extension n t m) c = by-carried t c
by-carried (T.fixed_size_binary k) c = c
by-carried _ c = tt

pub carried_form : (t : TypeData) (f : Form) → form_of t ≡ f → IsCarried t → IsCarriedBy f
carried_form t f e c = subst IsCarriedBy e (by-carried t c)

pub slot-to_logical : (t : TypeData) (x : Slot) → IsSlot t x → IsSlot (logical_of t) x
slot-to_logical (T.extension n t m) x h = slot-to_logical t x h
slot-to_logical _ x h = h

pub slot-from_logical : (t : TypeData) (x : Slot) → IsSlot (logical_of t) x → IsSlot t x
slot-from_logical (T.extension n t m) x h = slot-from_logical t x h
slot-from_logical _ x h = h
