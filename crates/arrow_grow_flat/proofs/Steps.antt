-- Steps of a growable of values and a mask.
use Rattle.std.proofs.Common.{◌≡◌, ℕ, zero, suc, ◌<◌, Bool, true, false, List, [], ◌∷◌, length, map, replicate, Option, Some, None, Ok, Err, refl, ap, sym, ◌∙◌, subst}
use Rattle.std.specs.Prelude.{⊤, IsErrAnd, Result}
use Rattle.std.proofs.lemmas.List.{length-map}
use Rattle.arrow_types.specs.TypeData.{TypeData}
use Rattle.arrow_types.specs.declared.error.GrowError.{GrowError}
use Rattle.arrow_types.specs.declared.error.GrowError.TheVariants as error
use Rattle.arrow_flat.specs.Primitives.{HasRange, MaskHasLength}
use Rattle.arrow_flat.specs.Slots.{Slot, null, is_valid}
use Rattle.arrow_layout.specs.Cut.{part}
use Rattle.arrow_layout.specs.Denote.{denote, validity_of, masked, under}
use Rattle.arrow_layout.specs.Forms.{form_of}
use Rattle.arrow_layout.specs.Layouts.{Layout, length_of}
use Rattle.arrow_layout.proofs.Lengths.{length-denote, length-masked_by}
use Rattle.arrow_layout.specs.Plain.{IsPlainMask}
use Rattle.arrow_layout.proofs.ByForm.{fill-form, fill_by}
use Rattle.arrow_layout.proofs.Remasked.{denote-under}
use Rattle.arrow_layout.specs.SlotsOf.{fill}
use Rattle.arrow_layout.specs.Forms.{Form, booleans_of, primitives_of, binaries_of, fixed_size_binaries_of, views_of}
use Rattle.arrow_grow_flat.specs.Grown.{Grown, Grows, Keeps, IsWithin, IsSound, IsMasked, IsBoxOf, IsBoxed, Room, any_nulls, layout_at, source, source_count}
use Rattle.arrow_grow_flat.specs.Masks.{bits_in, more_bits, plain_mask, no_bits}
use Rattle.arrow_grow_flat.specs.Values.{AreSound, GrowsValues, HoldsSlots, IsGrowable, IsMaskOf, IsOf, IsValuesForm, StandFor, StandForMore, StatesNulls, Values, grown_of, is_there, values_under}
use Rattle.arrow_grow_flat.proofs.Rooms.{room_none}
use Rattle.arrow_grow_flat.proofs.SourceSlots.{Takes, plain_source, source_at, source_bits, takes, has_range}
use Rattle.arrow_grow_flat.proofs.Stands.{AreBitsOf, holds_grown, slots_grown, stand_length}

-- the growable of parts keeps what every growable keeps
pub sound_of : (P : Slot → Type 0) (v : Values) (m : Option (List Bool)) (failed : Bool) → AreSound v → IsGrowable P v m failed → IsSound (grown_of v m failed)
sound_of P v m failed s i = record {
  typed = s.typed;
  few = s.few;
  needed = i.needed;
  room = λ alive. (i.holds alive).room;
}

there_more : (bs : List Bool) (m : Option (List Bool)) → is_there (more_bits bs m) ≡ is_there m
there_more bs None = refl
there_more bs (Some bits) = refl

module _ (P : Slot → Type 0) (v w : Values) (m n : Option (List Bool)) (bs : List Bool) (xs : List Slot)
    (i : IsGrowable P v m false) (mask : n ≡ more_bits bs m) where
  here : HoldsSlots P v m (values_under m v.slots)
  here = i.holds refl

  needed_after : w.arrays ≡ v.arrays → any_nulls w.arrays ≡ true → is_there n ≡ true
  needed_after e h = ap is_there mask ∙ there_more bs m ∙ i.needed (sym (ap any_nulls e) ∙ h)

  module _ (bits : AreBitsOf m bs xs) (grew : GrowsValues P v xs w (Ok tt)) where
    more : StandForMore P v xs w (values_under m v.slots)
    more = grew.outcome (values_under m v.slots) here.stand

    pub inside_grown : IsGrowable P w n false
    inside_grown = record {
      needed = needed_after grew.same_arrays;
      holds = λ alive. holds_grown P v w m n bs (values_under m v.slots) xs refl here grew.same_type more mask bits;
    }

    pub slots_grow : Grows (grown_of v m false) xs (grown_of w n false) (Ok tt)
    slots_grow = record {
      keeps = record { same_type = grew.same_type; same_arrays = grew.same_arrays; same_nulls = ap is_there mask ∙ there_more bs m };
      outcome = record {
        alive = refl;
        slots = slots_grown P v w m n bs (values_under m v.slots) xs refl here grew.same_type more mask bits;
        room = more.room;
      };
    }

  pub slots_refused : (e : GrowError) → GrowsValues P v xs w (Err e) → Grows (grown_of v m false) xs (grown_of w n true) (Err e)
  slots_refused e grew = record {
    keeps = record { same_type = grew.same_type; same_arrays = grew.same_arrays; same_nulls = ap is_there mask ∙ there_more bs m };
    outcome = record { failed = refl; why = grew.outcome (values_under m v.slots) here.stand };
  }

  pub inside_refused : w.arrays ≡ v.arrays → IsGrowable P w n true
  inside_refused e = record { needed = needed_after e; holds = λ alive. absurd (cc) }

-- ---- the array of the list

mask_count : (m : Option (List Bool)) (s : List Slot) (n : ℕ) → IsMaskOf m s → length s ≡ n → MaskHasLength (plain_mask m) n
mask_count None s n h e = tt
mask_count (Some bits) s n h e = ap length h ∙ length-map s is_valid ∙ e

none_left : (m : Option (List Bool)) (vs : List Slot) → vs ≡ [] → values_under (no_bits m) vs ≡ []
none_left None vs e = e
none_left (Some bits) vs e = e

none_masked : (m : Option (List Bool)) → IsMaskOf (no_bits m) []
none_masked None = tt
none_masked (Some bits) = refl

there_left : (m : Option (List Bool)) → is_there (no_bits m) ≡ is_there m
there_left None = refl
there_left (Some bits) = refl

states : (m : Option (List Bool)) (s : List Slot) → IsMaskOf m s → StatesNulls (plain_mask m) s
states None s h = tt
states (Some bits) s h = h

same_under : (m : Option (List Bool)) (vs : List Slot) → masked (plain_mask m) vs ≡ values_under m vs
same_under None vs = refl
same_under (Some bits) vs = refl

is_masked : (m : Option (List Bool)) → IsMasked (is_there m) (plain_mask m)
is_masked None = refl
is_masked (Some bits) = tt

is_plain : (m : Option (List Bool)) → IsPlainMask (plain_mask m)
is_plain None = tt
is_plain (Some bits) = refl

module _ (P : Slot → Type 0) (v : Values) (m : Option (List Bool)) (i : IsGrowable P v m false) where
  held : HoldsSlots P v m (values_under m v.slots)
  held = i.holds refl

  pub mask_covers : MaskHasLength (plain_mask m) (length v.slots)
  mask_covers = mask_count m (values_under m v.slots) (length v.slots) held.mask (stand_length P v.slots (values_under m v.slots) held.stand)

  pub box_of : (l : Layout) → IsOf P (plain_mask m) v l → IsBoxOf (grown_of v m false) l
  box_of l o = record {
    of_type = o.of_type;
    slots = denote-under l ∙ ap (λ k. masked k (under l)) o.mask ∙ ap (masked (plain_mask m)) o.values ∙ same_under m v.slots;
    mask = λ h. subst (IsMasked (is_there m)) (sym o.mask) (is_masked m);
    plain = o.plain (is_plain m);
    tidy = o.tidy (values_under m v.slots) held.stand (states m (values_under m v.slots) held.mask);
  }

  module _ (w : Values) (sound : AreSound v) (same_type : w.dtype ≡ v.dtype) (same_arrays : w.arrays ≡ v.arrays) where
    pub inside_emptied : w.slots ≡ [] → IsGrowable P w (no_bits m) false
    inside_emptied e =
        let none = none_left m w.slots e in
        let room : Room w.dtype [] = subst (λ t. Room t []) (sym same_type) (room_none v.dtype sound.form) in
        let stand : StandFor P w.slots [] = subst (λ vs. StandFor P vs []) (sym e) tt in
        record {
          needed = λ h. there_left m ∙ i.needed (sym (ap any_nulls same_arrays) ∙ h);
          holds = λ alive. subst (HoldsSlots P w (no_bits m)) (sym none) (record { stand = stand; mask = none_masked m; room = room });
        }

    pub keeps_left : (failed : Bool) → Keeps (grown_of v m false) (grown_of w (no_bits m) failed)
    keeps_left failed = record { same_type = same_type; same_arrays = same_arrays; same_nulls = there_left m }

    pub boxed : (l : Layout) → w.slots ≡ [] → IsOf P (plain_mask m) v l → IsBoxed (grown_of v m false) l (grown_of w (no_bits m) false)
    boxed l e o = record { alive = refl; empty = none_left m w.slots e; box = box_of l o }

    pub inside_lost : IsGrowable P w (no_bits m) true
    inside_lost = record { needed = λ h. there_left m ∙ i.needed (sym (ap any_nulls same_arrays) ∙ h); holds = λ alive. absurd (cc) }

-- ---- nulls

fill_by_form : (f : Form) → IsValuesForm f → fill_by f ≡ null
fill_by_form booleans_of v = refl
fill_by_form (primitives_of p) v = refl
fill_by_form (binaries_of large text) v = refl
fill_by_form (fixed_size_binaries_of k) v = refl
fill_by_form (views_of text) v = refl
fill_by_form _ v = absurd v

pub fill_null : (t : TypeData) → IsValuesForm (form_of t) → fill t ≡ null
fill_null t v = fill-form t (form_of t) refl ∙ fill_by_form (form_of t) v

pub null_bits : (n : ℕ) → replicate n false ≡ map is_valid (replicate n null)
null_bits zero = refl
null_bits (suc n) = ap (λ bs. false ∷ bs) (null_bits n)

pub bits_of_nulls : (m : Option (List Bool)) (n : ℕ) → is_there m ≡ true → AreBitsOf m (replicate n false) (replicate n null)
bits_of_nulls None n e = absurd (false_true e)
  where
    false_true : false ≡ true → ⊥
    false_true e = cc
bits_of_nulls (Some bits) n e = null_bits n

-- ---- a growable that isn't failed, opened to its parts

length_under : (m : Option (List Bool)) (vs : List Slot) → length (values_under m vs) ≡ length vs
length_under None vs = refl
length_under (Some bits) vs = length-masked_by bits vs

module _ (P : Slot → Type 0) (v : Values) (m : Option (List Bool)) (f : Bool) (g : Grown) (view : grown_of v m f ≡ g) where
  unfailed : g.failed ≡ false → f ≡ false
  unfailed alive = ap (λ (w : Grown). w.failed) view ∙ alive

  pub source_length : (i : ℕ) → AreSound v → i < source_count g → length (source g i) ≡ length_of (layout_at v.arrays i)
  source_length i s h =
      let p = plain_source v g i s (sym (ap (λ (w : Grown). w.dtype) view)) (sym (ap (λ (w : Grown). w.arrays) view)) in
      ap length p.1 ∙ length-denote (layout_at v.arrays i) (source_at v i s (subst (λ n. i < n) p.0 h)).well_formed

  pub slot_count : length g.slots ≡ length v.slots
  slot_count = sym (ap (λ (w : Grown). length w.slots) view) ∙ length_under m v.slots

  pub opened : IsGrowable P v m f → g.failed ≡ false → IsGrowable P v m false
  opened i alive = subst (IsGrowable P v m) (unfailed alive) i

  pub same_now : g.failed ≡ false → grown_of v m false ≡ g
  same_now alive = ap (grown_of v m) (sym (unfailed alive)) ∙ view

  pub taken : (i o n : ℕ) → AreSound v → IsWithin g i o n → Takes v g i o n
  taken i o n s w = takes v g i o n s (sym (ap (λ (w : Grown). w.dtype) view)) (sym (ap (λ (w : Grown). w.arrays) view)) w

  module _ (s : AreSound v) (inv : IsGrowable P v m f) (i o n : ℕ) (within : IsWithin g i o n) where
    abbrev l : Layout
    l = layout_at v.arrays i

    abbrev t : Takes v g i o n
    t = taken i o n s within

    pub mask_has_range : HasRange (validity_of l) o n
    mask_has_range = let a = source_at v i s t.named in has_range l o n a.well_formed a.of_values t.reached

    pub source_slots : part o n (denote l) ≡ part o n (source g i)
    source_slots = ap (part o n) (sym t.slots)

    now : IsGrowable P v m false
    now = opened inv within.alive

    run_mask : AreBitsOf m (bits_in (validity_of l) o n) (part o n (denote l))
    run_mask = source_bits m v i o n s now.needed t.named t.reached

    module _ (w : Values) (k : Option (List Bool)) (mask : k ≡ more_bits (bits_in (validity_of l) o n) m) where
      pub run_inside : GrowsValues P v (part o n (denote l)) w (Ok tt) → IsGrowable P w k false
      run_inside h = inside_grown P v w m k (bits_in (validity_of l) o n) (part o n (denote l)) now mask run_mask h

      pub run_grows : GrowsValues P v (part o n (denote l)) w (Ok tt) → Grows g (part o n (source g i)) (grown_of w k false) (Ok tt)
      run_grows h =
          subst (λ xs. Grows g xs (grown_of w k false) (Ok tt)) source_slots
          (subst (λ (a : Grown). Grows a (part o n (denote l)) (grown_of w k false) (Ok tt)) (same_now within.alive)
          (slots_grow P v w m k (bits_in (validity_of l) o n) (part o n (denote l)) now mask run_mask h))

      pub run_lost : (e : GrowError) → GrowsValues P v (part o n (denote l)) w (Err e) → IsGrowable P w k true
      run_lost e h = inside_refused P v w m k (bits_in (validity_of l) o n) (part o n (denote l)) now mask h.same_arrays

      pub run_refused : (e : GrowError) → GrowsValues P v (part o n (denote l)) w (Err e) → Grows g (part o n (source g i)) (grown_of w k true) (Err e)
      run_refused e h =
          subst (λ xs. Grows g xs (grown_of w k true) (Err e)) source_slots
          (subst (λ (a : Grown). Grows a (part o n (denote l)) (grown_of w k true) (Err e)) (same_now within.alive)
          (slots_refused P v w m k (bits_in (validity_of l) o n) (part o n (denote l)) now mask e h))

  module _ (inv : IsGrowable P v m f) (alive : g.failed ≡ false) (nulls : g.takes_nulls ≡ true) (n : ℕ) where
    open_now : IsGrowable P v m false
    open_now = opened inv alive

    takes_them : is_there m ≡ true
    takes_them = ap (λ (w : Grown). w.takes_nulls) view ∙ nulls

    null_mask : AreBitsOf m (replicate n false) (replicate n null)
    null_mask = bits_of_nulls m n takes_them

    module _ (w : Values) (k : Option (List Bool)) (mask : k ≡ more_bits (replicate n false) m) where
      pub nulls_inside : GrowsValues P v (replicate n null) w (Ok tt) → IsGrowable P w k false
      nulls_inside h = inside_grown P v w m k (replicate n false) (replicate n null) open_now mask null_mask h

      pub nulls_grow : GrowsValues P v (replicate n null) w (Ok tt) → Grows g (replicate n null) (grown_of w k false) (Ok tt)
      nulls_grow h =
          subst (λ (a : Grown). Grows a (replicate n null) (grown_of w k false) (Ok tt)) (same_now alive)
          (slots_grow P v w m k (replicate n false) (replicate n null) open_now mask null_mask h)

      pub nulls_lost : (e : GrowError) → GrowsValues P v (replicate n null) w (Err e) → IsGrowable P w k true
      nulls_lost e h = inside_refused P v w m k (replicate n false) (replicate n null) open_now mask h.same_arrays

      pub nulls_refused : (e : GrowError) → GrowsValues P v (replicate n null) w (Err e) → Grows g (replicate n null) (grown_of w k true) (Err e)
      nulls_refused e h =
          subst (λ (a : Grown). Grows a (replicate n null) (grown_of w k true) (Err e)) (same_now alive)
          (slots_refused P v w m k (replicate n false) (replicate n null) open_now mask e h)

  -- out of memory before the values are reached
  pub mask_lost : IsGrowable P v m f → (j : Option (List Bool)) → j ≡ m → IsGrowable P v j true
  mask_lost inv j e = subst (λ q. IsGrowable P v q true) (sym e) (record { needed = inv.needed; holds = λ alive. absurd (cc) })

  pub mask_refused : (xs : List Slot) (j : Option (List Bool)) → j ≡ m → (r : Result ⊤ GrowError) → IsErrAnd r (λ y. y ≡ error.OutOfMemory) → Grows g xs (grown_of v j true) r
  mask_refused xs j e (Ok u) h = absurd h
  mask_refused xs j e (Err y) h =
      subst (λ z. Grows g xs (grown_of v j true) (Err z)) (sym h)
      (record {
        keeps = record {
          same_type = ap (λ (w : Grown). w.dtype) view;
          same_arrays = ap (λ (w : Grown). w.arrays) view;
          same_nulls = ap is_there e ∙ ap (λ (w : Grown). w.takes_nulls) view;
        };
        outcome = record { failed = refl; why = tt };
      })
