-- Growables of nulls.
use Rattle.std.proofs.Common.{◌≡◌, ℕ, zero, suc, ◌+◌, ◌*◌, ◌<◌, ◌≤◌, ◌^◌, Bool, true, false, List, [], ◌++◌, length, replicate, Ok, Err, Some, refl, ap, ap₂, sym, ◌∙◌, subst, arith, length-append}
use Rattle.std.proofs.lemmas.List.{length-replicate, replicate-append-replicate}
use Rattle.arrow_types.specs.TypeData.{TypeData}
use Rattle.arrow_types.specs.TypeData as T
use Rattle.arrow_types.specs.Types.{physical_of}
use Rattle.arrow_types.specs.declared.datatype.IntervalUnit.TheVariants.{YearMonth, DayTime, MonthDayNano}
use Rattle.arrow_types.specs.declared.datatype.PhysicalType.TheVariants as physical
use Rattle.arrow_types.specs.declared.error.GrowError.TheVariants as error
use Rattle.arrow_flat.specs.Slots.{Slot, null}
use Rattle.arrow_layout.specs.Cut.{part}
use Rattle.arrow_layout.specs.Fits.{Fits}
use Rattle.arrow_layout.specs.Forms.{form_of, nulls_of}
use Rattle.arrow_layout.specs.Layouts.{Layout, nulls}
use Rattle.arrow_layout.specs.SlotsOf.{fill}
use Rattle.arrow_layout.proofs.ByForm.{canon-form, fill-form}
use Rattle.arrow_grow_flat.specs.Grown.{Grown, Grows, IsBoxed, IsSound, IsWithin, Keeps, Room, copied, nulls_by, source, source_count, sources_of, source_of}
use Rattle.arrow_grow_flat.specs.Nulls.{AreNulls, fresh_nulls, null_grown}
use Rattle.arrow_grow_flat.proofs.SourceSlots.{part-replicate}

-- ---- n nulls

by_is : (n : ℕ) → nulls_by n ≡ replicate n null
unfolding nulls_by
by_is n = refl

by_none : nulls_by 0 ≡ []
by_none = by_is 0

by_join : (n m : ℕ) → nulls_by (n + m) ≡ nulls_by n ++ nulls_by m
by_join n m = by_is (n + m) ∙ sym (replicate-append-replicate n m null) ∙ sym (ap₂ (λ xs ys. xs ++ ys) (by_is n) (by_is m))

pub by_length : (n : ℕ) → length (nulls_by n) ≡ n
by_length n = ap length (by_is n) ∙ length-replicate n null

by_part : (o n m : ℕ) → o + n ≤ m → part o n (nulls_by m) ≡ nulls_by n
by_part o n m h = ap (part o n) (by_is m) ∙ part-replicate o n m null h ∙ sym (by_is n)

by_copied : (k n : ℕ) → copied k (nulls_by n) ≡ nulls_by (n * k)
by_copied zero n = let e : n * 0 ≡ 0 = omega arith in sym (ap nulls_by e ∙ by_none)
by_copied (suc k) n =
    let e : n * suc k ≡ n + n * k = omega arith in
    ap (λ xs. nulls_by n ++ xs) (by_copied k n) ∙ sym (ap nulls_by e ∙ by_join n (n * k))

-- ---- their type

pub null_form : (t : TypeData) → physical_of t ≡ Some physical.Null → form_of t ≡ nulls_of
null_form T.null e = refl
null_form (T.extension n t m) e = null_form t e
null_form (T.interval YearMonth) e = cc
null_form (T.interval DayTime) e = cc
null_form (T.interval MonthDayNano) e = cc
null_form _ e = cc

-- ---- the sources of a growable of such a type

module _ (g : Grown) (stored : physical_of g.dtype ≡ Some physical.Null) where
  pub null_sources : source_count g ≡ 18446744073709551615
  null_sources = ap (λ f. sources_of f g.arrays) (null_form g.dtype stored)

  null_source : (i : ℕ) → source g i ≡ nulls_by 18446744073709551615
  null_source i = ap (λ f. source_of f g.arrays i) (null_form g.dtype stored)

  pub source_nulls : (i : ℕ) → length (source g i) ≡ 18446744073709551615
  source_nulls i = ap length (null_source i) ∙ by_length 18446744073709551615

  -- what a call takes of a source
  pub slots_taken : (i o m : ℕ) → IsWithin g i o m → part o m (source g i) ≡ nulls_by m
  slots_taken i o m w =
      let reached : o + m ≤ 18446744073709551615 = subst (λ k. o + m ≤ k) (source_nulls i) w.reached in
      ap (part o m) (null_source i) ∙ by_part o m 18446744073709551615 reached

  pub slots_copied : (i o m k : ℕ) → IsWithin g i o m → copied k (part o m (source g i)) ≡ nulls_by (m * k)
  slots_copied i o m k w = ap (copied k) (slots_taken i o m w) ∙ by_copied k m

  pub slots_filled : (m : ℕ) → replicate m (fill g.dtype) ≡ nulls_by m
  slots_filled m = ap (replicate m) (fill-form g.dtype nulls_of (null_form g.dtype stored)) ∙ sym (by_is m)

-- ---- its calls

module _ (t : TypeData) (n : ℕ) (are : AreNulls t n) where
  form : form_of t ≡ nulls_of
  form = null_form t are.stored

  has_room : (m : ℕ) → m < 2 ^ 64 → Room t (nulls_by m)
  has_room m h = subst Fits (sym (canon-form t nulls_of (nulls_by m) form)) (omega (arith, h, by_length m))

  no_room : (s : List Slot) → Room t s → length s < 2 ^ 64
  no_room s r = subst Fits (canon-form t nulls_of s form) r

  sound_nulls : (f : Bool) → IsSound (null_grown t n f)
  sound_nulls f = record { typed = tt; few = omega arith; needed = λ e. refl; room = λ alive. has_room n are.count }

  module _ (f : Bool) (g : Grown) (view : null_grown t n f ≡ g) where
    same_now : g.failed ≡ false → null_grown t n false ≡ g
    same_now alive = ap (null_grown t n) (sym (ap (λ (w : Grown). w.failed) view ∙ alive)) ∙ view

    pub is_sound : IsSound g
    is_sound = subst IsSound view (sound_nulls f)

    pub slot_count : n ≡ length g.slots
    slot_count = sym (by_length n) ∙ ap (λ (a : Grown). length a.slots) view

    pub nulls_grow : (m k : ℕ) → g.failed ≡ false → k ≡ n + m → k < 2 ^ 64 → Grows g (nulls_by m) (null_grown t k f) (Ok tt)
    nulls_grow m k alive e h =
        let slots : nulls_by k ≡ nulls_by n ++ nulls_by m = ap nulls_by e ∙ by_join n m in
        let unfailed : f ≡ false = ap (λ (w : Grown). w.failed) view ∙ alive in
        subst (λ (a : Grown). Grows a (nulls_by m) (null_grown t k f) (Ok tt)) view
        (record {
          keeps = record { same_type = refl; same_arrays = refl; same_nulls = refl };
          outcome = record { alive = unfailed; slots = slots; room = subst (Room t) slots (has_room k h) };
        })

    pub nulls_full : (m : ℕ) → 2 ^ 64 ≤ n + m → Grows g (nulls_by m) (null_grown t n true) (Err error.Overflow)
    nulls_full m h =
        subst (λ (a : Grown). Grows a (nulls_by m) (null_grown t n true) (Err error.Overflow)) view
        (record {
          keeps = record { same_type = refl; same_arrays = refl; same_nulls = refl };
          outcome = record {
            failed = refl;
            why = λ r. omega (arith, h, no_room (nulls_by n ++ nulls_by m) r, length-append (nulls_by n) (nulls_by m), by_length n, by_length m);
          };
        })

    pub keeps_nulls : (k : ℕ) → Keeps g (null_grown t k false)
    keeps_nulls k = subst (λ (a : Grown). Keeps a (null_grown t k false)) view (record { same_type = refl; same_arrays = refl; same_nulls = refl })

    pub nulls_boxed : (l : Layout) → l ≡ nulls t n → IsBoxed g l (null_grown t 0 false)
    nulls_boxed l e =
        subst (λ (a : Grown). IsBoxed a l (null_grown t 0 false)) view
        (subst (λ k. IsBoxed (null_grown t n f) k (null_grown t 0 false)) (sym e)
        (record {
          alive = refl;
          empty = by_none;
          box = record { of_type = refl; slots = sym (by_is n); mask = λ h. absurd h; plain = tt; tidy = tt };
        }))

pub fresh_are : (t : TypeData) → null_grown t 0 false ≡ fresh_nulls t
fresh_are t = ap (λ s. record { dtype = t; arrays = []; slots = s; takes_nulls = true; failed = false }) by_none
