-- A growable of arrays over children: what it keeps where slots are appended, where that is refused, and where it ends in an
-- array.
use Rattle.std.proofs.Common.{◌≡◌, ℕ, zero, suc, pred, ◌+◌, ◌-◌, ◌*◌, ◌<◌, ◌≤◌, ◌^◌, nat_le, Bool, true, false, not, cond, List, [], ◌∷◌, ◌++◌, length, map, replicate, flat_map, get_or, refl, ap, ap₂, sym, ◌∙◌, subst, arith, Option, Some, None, Result, Ok, Err, append_assoc}
use Rattle.std.specs.Prelude.{⊤}
use Rattle.std.specs.List.{AllByRecursion, list_all, list_any}
use Rattle.std.specs.Prelude.{◌||◌}
use Rattle.std.proofs.lemmas.Bool.{and_parts, false≢true, leb-false}
use Rattle.arrow_buffers.specs.Bits.{plain}
use Rattle.std.proofs.lemmas.List.{length-map, map-append}
use Rattle.arrow_types.specs.Carried.{IsCarried}
use Rattle.arrow_types.specs.TypeData.{TypeData}
use Rattle.arrow_types.specs.TypeData as T
use Rattle.arrow_types.specs.Types.{physical_of}
use Rattle.arrow_types.specs.declared.datatype.UnionMode.TheVariants.{Dense, Sparse}
use Rattle.arrow_types.specs.declared.error.GrowError.{GrowError}
use Rattle.arrow_types.specs.declared.error.GrowError.TheVariants as error
use Rattle.arrow_buffers.specs.Bits.{Bits}
use Rattle.arrow_flat.specs.Primitives.{unset_in}
use Rattle.arrow_flat.specs.Slots.{Slot, is_valid}
use Rattle.arrow_layout.specs.Canon.{canon, mask_of}
use Rattle.arrow_layout.specs.Denote.{denote, masked, validity_of}
use Rattle.arrow_layout.specs.Fits.{AllFit, Fits}
use Rattle.arrow_layout.specs.Forms.{Form, nulls_of, lists_of, fixed_size_lists_of, structs_of, unions_of, form_of}
use Rattle.arrow_layout.specs.Layouts.{Layout, Layouts, no_layouts, child, child_count, nulls, type_of, length_of}
use Rattle.arrow_layout.specs.Paths as paths
use Rattle.arrow_layout.specs.Paths.{children_of}
use Rattle.arrow_layout.specs.SlotsOf.{HasSlots, IsSlot, fill}
use Rattle.arrow_layout.specs.WellFormed.{WellFormed, mask_bits}
use Rattle.arrow_layout.proofs.CanonForms.{bits-mask}
use Rattle.arrow_layout.proofs.Lengths.{length-denote}
use Rattle.arrow_layout.proofs.Unique.{carried_of}
use Rattle.arrow_canon.specs.Picks.{pick, picked, picks}
use Rattle.arrow_canon.specs.Runs.{AreWithin, places}
use Rattle.arrow_canon.specs.declared.run.Run.{Run}
use Rattle.arrow_grow_flat.specs.Grown.{Grown, AreOf, Grows, HasFailed, HasMore, IsSound, Keeps, Refuses, Room, any_nulls, copied, has_nulls, layout_at, source, source_count, sources_of, source_of}
use Rattle.arrow_grow_flat.specs.Masks.{more_bits, plain_mask}
use Rattle.arrow_grow_flat.specs.Values.{IsMaskOf, is_there}
use Rattle.arrow_growable.specs.NestedGrown.{IsFrom, AllGrow, AllKeep, AllMayTake, AllMore, AllRefuse, AreAlive, AreMadeOf, HoldsColumns, IsMadeOf, IsNestedGrown, MayTake, RoomsWith, TakeFills, lists_in, taken_by, taken_of, types_in}
use Rattle.arrow_growable.specs.ChildRuns.{AreChildRuns, AreSlots, HasNoFill, columns_at, may_fill, runs_for}
use Rattle.arrow_growable.specs.Columns.{child_types, columns_by, IsNested, canon_columns, joined_columns}
use Rattle.arrow_growable.specs.Parts.{IsNestedKind, AreOfForm, HasParts, PartsFit, parts_physical, repeated, slots_with}
use Rattle.arrow_growable.specs.Taken.{HaveNoRoom, HaveTaken, taken}
use Rattle.arrow_growable.specs.declared.child_runs.ChildRuns.{ChildRuns}
use Rattle.arrow_growable.specs.declared.child_runs.ItemRuns.{ItemRuns}
use Rattle.arrow_growable.specs.declared.parts.NestedParts.{NestedParts}
use Rattle.arrow_growable.proofs.ColumnSlots.{columns_copied, columns_count, columns_join}
use Rattle.arrow_growable.proofs.Offered.{all_of, all_offered}
use Rattle.arrow_growable.proofs.Siblings.{taken_count}
use Rattle.arrow_growable.proofs.PartLayouts.{nested_by, room_columns, room_with, slots_back}
use Rattle.arrow_growable.proofs.PickedColumns.{picked_slots}
use Rattle.arrow_growable.proofs.TakenParts.{map_repeated}

-- ---- arrays

abbrev IsOfArrays : Form → Type 0
IsOfArrays nulls_of = ⊥
IsOfArrays _ = ⊤

nested_arrays : (f : Form) → IsNested f → IsOfArrays f
nested_arrays nulls_of h = absurd h
nested_arrays (lists_of large u) h = tt
nested_arrays (fixed_size_lists_of k u) h = tt
nested_arrays (structs_of fs) h = tt
nested_arrays (unions_of mode ids fs) h = tt
nested_arrays _ h = absurd h

plain_count : (f : Form) (ls : List Layout) → IsOfArrays f → sources_of f ls ≡ length ls
plain_count nulls_of ls h = absurd h
plain_count _ ls h = refl

plain_source : (f : Form) (ls : List Layout) (i : ℕ) → IsOfArrays f → source_of f ls i ≡ denote (layout_at ls i)
plain_source nulls_of ls i h = absurd h
plain_source _ ls i h = refl

of_form_nested : (f : Form) (p : NestedParts) → AreOfForm f p → IsNested f
of_form_nested (lists_of large u) p h = tt
of_form_nested (fixed_size_lists_of k u) p h = tt
of_form_nested (structs_of fs) p h = tt
of_form_nested (unions_of mode ids fs) p h = tt
of_form_nested _ p h = absurd h

pub all_arrays_sound : (t : TypeData) (ls : List Layout) → 0 < length ls → AreOf t ls → IsCarried t
all_arrays_sound t ls h a = let s = all_of t ls 0 (nulls T.null 0) h a in subst IsCarried s.1 (carried_of (layout_at ls 0) s.0)

-- ---- masks

or_false : (b c : Bool) → (b || c) ≡ false → (b ≡ false) × (c ≡ false)
or_false true c e = absurd (false≢true (sym e))
or_false false c e = (refl, e)

none_true : (P : Layout → Bool) (ls : List Layout) (i : ℕ) (d : Layout) → list_any P ls ≡ false → i < length ls → P (get_or ls i d) ≡ false
none_true P [] i d e h = absurd (omega (arith, h))
none_true P (l ∷ ls) zero d e h = (or_false (P l) (list_any P ls) e).0
none_true P (l ∷ ls) (suc i) d e h = none_true P ls i d (or_false (P l) (list_any P ls) e).1 (omega (arith, h))

not_true : (b : Bool) → (b ≡ true → ⊥) → b ≡ false
not_true true h = absurd (h refl)
not_true false h = refl

zero_of : (n : ℕ) → nat_le 1 n ≡ false → n ≡ 0
zero_of n e = omega (arith, leb-false 1 n e)

-- an array has no nulls where none are taken
no_unset : (g : Grown) (i : ℕ) → IsSound g → i < length g.arrays → g.takes_nulls ≡ false → unset_in (validity_of (layout_at g.arrays i)) ≡ 0
no_unset g i s h e =
    let none : any_nulls g.arrays ≡ false = not_true (any_nulls g.arrays) (λ k. false≢true (sym e ∙ s.needed k)) in
    zero_of (unset_in (validity_of (layout_at g.arrays i))) (none_true has_nulls g.arrays i (nulls T.null 0) none h)

all_valid_by : (s : List Slot) → list_all is_valid s ≡ true → AllByRecursion (λ x. is_valid x ≡ true) s
all_valid_by [] e = tt
all_valid_by (x ∷ s) e = let both = and_parts (is_valid x) (list_all is_valid s) e in (both.0, all_valid_by s both.1)

unmasked : (s : List Slot) (b : Bool) → list_all is_valid s ≡ b → cond b None (Some (plain (map is_valid s))) ≡ None → list_all is_valid s ≡ true
unmasked s true e h = e
unmasked s false e h = absurd (cc)

all_append : (P : Slot → Type 0) (s r : List Slot) → AllByRecursion P s → AllByRecursion P r → AllByRecursion P (s ++ r)
all_append P [] r h k = k
all_append P (x ∷ s) r h k = (h.0, all_append P s r h.1 k)

all_copied : (P : Slot → Type 0) (n : ℕ) (s : List Slot) → AllByRecursion P s → AllByRecursion P (copied n s)
all_copied P zero s h = tt
all_copied P (suc n) s h = all_append P s (copied n s) h (all_copied P n s h)

-- the mask with that of the copied slots
mask_more : (m : Option (List Bool)) (s xs : List Slot) (n : ℕ) → IsMaskOf m s → (is_there m ≡ false → mask_of xs ≡ None) → IsMaskOf (more_bits (repeated n (mask_bits (mask_of xs) (length xs))) m) (s ++ copied n xs)
mask_more None s xs n h none =
    let all = all_valid_by xs (unmasked xs (list_all is_valid xs) refl (none refl)) in
    all_append (λ x. is_valid x ≡ true) s (copied n xs) h (all_copied (λ x. is_valid x ≡ true) n xs all)
mask_more (Some bits) s xs n h none =
    ap₂ (λ bs cs. bs ++ repeated n cs) h (bits-mask xs (length xs) refl) ∙ ap (λ bs. map is_valid s ++ bs) (sym (map_repeated is_valid n xs)) ∙ sym (map-append is_valid s (copied n xs))

there_more : (bs : List Bool) (m : Option (List Bool)) → is_there (more_bits bs m) ≡ is_there m
there_more bs None = refl
there_more bs (Some cs) = refl

-- ---- children

pub kept_types : (cs ds : List Grown) → AllKeep cs ds → types_in ds ≡ types_in cs
kept_types [] [] h = refl
kept_types [] (d ∷ ds) h = absurd h
kept_types (c ∷ cs) [] h = absurd h
kept_types (c ∷ cs) (d ∷ ds) h = ap₂ (λ t ts. t ∷ ts) h.0.same_type (kept_types cs ds h.1)

pub kept_made : (j : ℕ) (cs ds : List Grown) (ls : List Layout) → AllKeep cs ds → AreMadeOf j cs ls → AreMadeOf j ds ls
kept_made j [] [] ls h m = tt
kept_made j [] (d ∷ ds) ls h m = absurd h
kept_made j (c ∷ cs) [] ls h m = absurd h
kept_made j (c ∷ cs) (d ∷ ds) ls h m =
    let k = h.0 in (
      record {
        from = subst (λ t. IsFrom (form_of t) d.arrays (map (paths.child_at j) ls)) (sym k.same_type) (subst (λ ks. IsFrom (form_of c.dtype) ks (map (paths.child_at j) ls)) (sym k.same_arrays) m.0.from);
        typed = subst (λ t. AreOf t (map (paths.child_at j) ls)) (sym k.same_type) m.0.typed;
      },
      kept_made (suc j) cs ds ls h.1 m.1,
    )

pub kept_fills : (f : Form) (w : Bool) (j : ℕ) (cs ds : List Grown) → AllKeep cs ds → TakeFills f w j cs → TakeFills f w j ds
kept_fills f w j [] [] h t = tt
kept_fills f w j [] (d ∷ ds) h t = absurd h
kept_fills f w j (c ∷ cs) [] h t = absurd h
kept_fills f w j (c ∷ cs) (d ∷ ds) h t = let k = h.0 in (λ e. k.same_nulls ∙ t.0 e, kept_fills f w (suc j) cs ds h.1 t.1)

more_alive : (xs : List (List Slot)) (cs ds : List Grown) → AllMore xs cs ds → AreAlive ds
more_alive [] [] [] h = tt
more_alive [] [] (d ∷ ds) h = absurd h
more_alive [] (c ∷ cs) ds h = absurd h
more_alive (x ∷ xs) [] ds h = absurd h
more_alive (x ∷ xs) (c ∷ cs) [] h = absurd h
more_alive (x ∷ xs) (c ∷ cs) (d ∷ ds) h = (h.0.alive, more_alive xs cs ds h.1)

more_lists : (xs : List (List Slot)) (cs ds : List Grown) → AllMore xs cs ds → lists_in ds ≡ joined_columns (lists_in cs) xs
more_lists [] [] [] h = refl
more_lists [] [] (d ∷ ds) h = absurd h
more_lists [] (c ∷ cs) ds h = absurd h
more_lists (x ∷ xs) [] ds h = absurd h
more_lists (x ∷ xs) (c ∷ cs) [] h = absurd h
more_lists (x ∷ xs) (c ∷ cs) (d ∷ ds) h = ap₂ (λ y ys. y ∷ ys) h.0.slots (more_lists xs cs ds h.1)

more_rooms : (xs : List (List Slot)) (cs ds : List Grown) → AllMore xs cs ds → AllFit (canon_columns (types_in cs) (joined_columns (lists_in cs) xs))
more_rooms [] [] [] h = tt
more_rooms [] [] (d ∷ ds) h = absurd h
more_rooms [] (c ∷ cs) ds h = absurd h
more_rooms (x ∷ xs) [] ds h = absurd h
more_rooms (x ∷ xs) (c ∷ cs) [] h = absurd h
more_rooms (x ∷ xs) (c ∷ cs) (d ∷ ds) h = (h.0.room, more_rooms xs cs ds h.1)

rooms_fit : (xs : List (List Slot)) (cs : List Grown) → length xs ≡ length cs → AllFit (canon_columns (types_in cs) (joined_columns (lists_in cs) xs)) → RoomsWith xs cs
rooms_fit [] [] n h = tt
rooms_fit [] (c ∷ cs) n h = absurd (omega (arith, n))
rooms_fit (x ∷ xs) [] n h = absurd (omega (arith, n))
rooms_fit (x ∷ xs) (c ∷ cs) n h = (h.0, rooms_fit xs cs (omega (arith, n)) h.1)

columns_size : (ls : Layouts) (items : ItemRuns) (j : ℕ) → length (columns_at ls items j) ≡ child_count ls
columns_size no_layouts items j = refl
columns_size (child l ls) items j = ap suc (columns_size ls items (suc j))

-- ---- a growable, an array of it and runs of the array

module _ (g : Grown) (cs : List Grown) (m : Option (List Bool)) (p : NestedParts) (is : IsNestedGrown g cs m p) (i : ℕ) (rs : List Run) (may : MayTake g i rs) where
  abbrev f : Form
  f = form_of g.dtype

  abbrev pub array : Layout
  array = layout_at g.arrays i

  nested : IsNested f
  nested = of_form_nested f p is.form

  of_arrays : IsOfArrays f
  of_arrays = nested_arrays f nested

  pub named_array : i < length g.arrays
  named_array = subst (λ n. i < n) (plain_count f g.arrays of_arrays) may.named

  pub array_sound : WellFormed array × (type_of array ≡ g.dtype)
  array_sound = all_of g.dtype g.arrays i (nulls T.null 0) named_array is.sound.typed

  pub array_within : AreWithin (length_of array) rs
  array_within = subst (λ n. AreWithin n rs) (ap length (plain_source f g.arrays i of_arrays) ∙ length-denote array array_sound.0) may.within

  carried : IsCarried g.dtype
  carried = subst IsCarried array_sound.1 (carried_of array array_sound.0)

  abbrev xs : List Slot
  xs = picked (type_of array) array (places rs)

  taken_same : taken_of g i rs ≡ xs
  taken_same = ap₂ (λ t ys. picks (fill t) ys (places rs)) (sym array_sound.1) (plain_source f g.arrays i of_arrays)

  xs_slots : HasSlots g.dtype xs
  xs_slots = subst (λ t. HasSlots t xs) array_sound.1 (picked_slots array (places rs) array_sound.0)

  no_fills : g.takes_nulls ≡ false → HasNoFill array rs
  no_fills e = record { set = no_unset g i is.sound named_array e; slots = may.nulls e }

  module _ (c : ChildRuns) (are : AreChildRuns array rs c) (alive : g.failed ≡ false) where
    holds : HoldsColumns g cs m p
    holds = is.holds alive

    columns_same : columns_by f xs ≡ columns_at (children_of array) c.items 0
    columns_same = ap (λ t. columns_by (form_of t) xs) (sym array_sound.1) ∙ are.columns

    many : length cs ≡ child_count (children_of array)
    many =
        sym (length-map cs (λ (q : Grown). q.slots)) ∙ ap length holds.columns ∙ columns_count f g.slots xs ∙ ap length columns_same ∙ columns_size (children_of array) c.items 0

    offered : AllMayTake i c.items 0 cs × (taken_by i c.items 0 cs ≡ columns_at (children_of array) c.items 0)
    offered =
        all_offered g.arrays i is.sound.few named_array f g.takes_nulls c.items
        (λ j e. are.fills g.takes_nulls no_fills j (ap (λ t. may_fill (form_of t) g.takes_nulls j) array_sound.1 ∙ e))
        0 cs (children_of array) many (λ k. let z : 0 + k ≡ k = omega arith in ap (λ q. paths.child_at q array) z) is.made is.fills holds.alive are.inside

    -- the children may take their runs
    pub children_may : AllMayTake i c.items 0 cs
    children_may = offered.0

    taken_columns : taken_by i c.items 0 cs ≡ columns_by f xs
    taken_columns = offered.1 ∙ sym columns_same

    module _ (n : ℕ) where
      abbrev more : List (List Slot)
      more = map (copied n) (taken_by i c.items 0 cs)

      abbrev whole : List Slot
      whole = g.slots ++ copied n xs

      joined : joined_columns (lists_in cs) more ≡ columns_by f whole
      joined =
          ap₂ (λ ys zs. joined_columns ys (map (copied n) zs)) holds.columns taken_columns
          ∙ ap (joined_columns (columns_by f g.slots)) (sym (columns_copied f n xs)) ∙ sym (columns_join f g.slots (copied n xs))

      more_count : length more ≡ length cs
      more_count = length-map (taken_by i c.items 0 cs) (copied n) ∙ taken_count i c.items 0 cs

      -- a child without room leaves none for the whole
      pub child_stops : (e : GrowError) → AllRefuse more cs e → Refuses g.dtype (g.slots ++ copied n (taken_of g i rs)) e
      child_stops error.Overflow h = λ room.
          let all = room_columns g.dtype f whole refl nested (subst (λ ys. Room g.dtype (g.slots ++ copied n ys)) taken_same room) in
          h (rooms_fit more cs more_count (subst AllFit (ap₂ canon_columns (sym is.types) (sym joined)) all))
      child_stops error.OutOfMemory h = tt

      -- and so do parts past their range
      pub parts_stop : HaveNoRoom array rs n p → Room g.dtype (g.slots ++ copied n (taken_of g i rs)) → ⊥
      parts_stop h room =
          h g.slots (subst (λ t. HasParts (form_of t) g.slots p) (sym array_sound.1) holds.own)
          (subst (λ t. Room t whole) (sym array_sound.1) (subst (λ ys. Room g.dtype (g.slots ++ copied n ys)) taken_same room))

      -- the growable with the slots
      module _ (q : NestedParts) (ds : List Grown) (keep : AllKeep cs ds) (grow : AllMore more cs ds) (own : HaveTaken array rs n p q) (form : AreOfForm f q) (kind : parts_physical q ≡ parts_physical p) where
        abbrev k : Option (List Bool)
        k = more_bits (repeated n (mask_bits c.validity c.length)) m

        lists_same : lists_in ds ≡ columns_by f whole
        lists_same = more_lists more cs ds grow ∙ joined

        own_parts : HasParts f whole q × PartsFit g.dtype q
        own_parts =
            subst (λ t. HasParts (form_of t) whole q × PartsFit t q) array_sound.1
            (own g.slots (subst (λ t. HasParts (form_of t) g.slots p) (sym array_sound.1) holds.own))

        no_mask : is_there m ≡ false → mask_of xs ≡ None
        no_mask e = are.set (no_fills (sym is.masked ∙ e))

        count_same : c.length ≡ length xs
        count_same = are.count ∙ sym (length-map (places rs) (pick (fill (type_of array)) (denote array)))

        mask_same : IsMaskOf k whole
        mask_same =
            subst (λ b. IsMaskOf (more_bits (repeated n b) m) whole) (ap₂ mask_bits (sym are.mask) (sym count_same)) (mask_more m g.slots xs n holds.mask no_mask)

        slots_here : HasSlots g.dtype whole
        slots_here = all_append (IsSlot g.dtype) g.slots (copied n xs) holds.slots (all_copied (IsSlot g.dtype) n xs xs_slots)

        room_here : Room g.dtype whole
        room_here =
            room_with g.dtype f whole q refl own_parts.0 own_parts.1
            (subst AllFit (ap₂ canon_columns is.types joined) (more_rooms more cs ds grow))

        abbrev pub grown_slots : List Slot
        grown_slots = masked (plain_mask k) (slots_with g.dtype q (lists_in ds))

        slots_same : grown_slots ≡ whole
        slots_same = (slots_back g.dtype f whole q k (lists_in ds) refl carried slots_here own_parts.0 mask_same lists_same).1

        abbrev pub grown_more : Grown
        grown_more = record { dtype = g.dtype; arrays = g.arrays; slots = grown_slots; takes_nulls = is_there k; failed = false }

        there_same : is_there k ≡ g.takes_nulls
        there_same = there_more (repeated n (mask_bits c.validity c.length)) m ∙ is.masked

        pub nested_grows : IsNestedGrown grown_more ds k q × Grows g (copied n (taken_of g i rs)) grown_more (Ok tt)
        nested_grows =
            let s = is.sound in (
              record {
                sound = record { typed = s.typed; few = s.few; needed = λ e. there_same ∙ s.needed e; room = λ _. subst (Room g.dtype) (sym slots_same) room_here };
                some = is.some;
                form = form;
                kind = is.kind ∙ ap Some (sym kind);
                nested = subst IsNestedKind (sym kind) is.nested;
                types = kept_types cs ds keep ∙ is.types;
                made = kept_made 0 cs ds g.arrays keep is.made;
                fills = subst (λ w. TakeFills f w 0 ds) (sym there_same) (kept_fills f g.takes_nulls 0 cs ds keep is.fills);
                masked = refl;
                holds = λ _. record {
                  alive = more_alive more cs ds grow;
                  slots = subst (HasSlots g.dtype) (sym slots_same) slots_here;
                  own = subst (λ r. HasParts f r q) (sym slots_same) own_parts.0;
                  fit = own_parts.1;
                  columns = lists_same ∙ ap (columns_by f) (sym slots_same);
                  mask = subst (IsMaskOf k) (sym slots_same) mask_same;
                };
              },
              record {
                keeps = record { same_type = refl; same_arrays = refl; same_nulls = there_same };
                outcome = record {
                  alive = refl;
                  slots = slots_same ∙ ap (λ ys. g.slots ++ copied n ys) (sym taken_same);
                  room = subst (λ ys. Room g.dtype (g.slots ++ copied n ys)) (sym taken_same) room_here;
                };
              },
            )

-- ---- what is left where a call was refused

pub nested_failed : (g : Grown) (cs ds : List Grown) (m k : Option (List Bool)) (p q : NestedParts) (s : List Slot) → IsNestedGrown g cs m p → AllKeep cs ds → AreOfForm (form_of g.dtype) q
    → parts_physical q ≡ parts_physical p → is_there k ≡ is_there m → IsNestedGrown (record { dtype = g.dtype; arrays = g.arrays; slots = s; takes_nulls = is_there k; failed = true }) ds k q
nested_failed g cs ds m k p q s is keep form kind there =
    let b = is.sound in
    let same : is_there k ≡ g.takes_nulls = there ∙ is.masked in
    record {
      sound = record { typed = b.typed; few = b.few; needed = λ e. same ∙ b.needed e; room = λ e. absurd (false≢true (sym e)) };
      some = is.some;
      form = form;
      kind = is.kind ∙ ap Some (sym kind);
      nested = subst IsNestedKind (sym kind) is.nested;
      types = kept_types cs ds keep ∙ is.types;
      made = kept_made 0 cs ds g.arrays keep is.made;
      fills = subst (λ w. TakeFills (form_of g.dtype) w 0 ds) (sym same) (kept_fills (form_of g.dtype) g.takes_nulls 0 cs ds keep is.fills);
      masked = refl;
      holds = λ e. absurd (false≢true (sym e));
    }
