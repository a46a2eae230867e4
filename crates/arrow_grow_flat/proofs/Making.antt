-- Growables as they are made.
use Rattle.std.proofs.Common.{◌≡◌, ℕ, zero, suc, ◌+◌, ◌<◌, Bool, true, false, cond, List, [], ◌∷◌, ◌++◌, length, map, take, get_or, Option, Some, None, refl, ap, ap₂, sym, ◌∙◌, subst, arith}
use Rattle.std.specs.Prelude.{◌||◌}
use Rattle.std.specs.List.{AllByRecursion, list_any}
use Rattle.arrow_types.specs.TypeData.{TypeData}
use Rattle.arrow_types.specs.TypeData as T
use Rattle.arrow_flat.specs.Slots.{Slot}
use Rattle.arrow_layout.specs.Layouts.{Layout, nulls}
use Rattle.arrow_layout.specs.WellFormed.{WellFormed}
use Rattle.arrow_grow_flat.specs.Grown.{AllOfType, AreOf, any_nulls, has_nulls, layout_at}
use Rattle.arrow_grow_flat.specs.Values.{AreSound, HoldsSlots, IsGrowable, IsMaskOf, StandFor, Values, is_there, values_under, grown_of}
use Rattle.arrow_grow_flat.proofs.Rooms.{room_none}

-- the mask of no slots, where nulls are taken
abbrev pub first_mask : Bool → Option (List Bool)
first_mask b = cond b (Some []) None

first_there : (b : Bool) → is_there (first_mask b) ≡ b
first_there true = refl
first_there false = refl

first_under : (b : Bool) (vs : List Slot) → vs ≡ [] → values_under (first_mask b) vs ≡ []
first_under true vs e = e
first_under false vs e = e

first_masked : (b : Bool) → IsMaskOf (first_mask b) []
first_masked true = refl
first_masked false = tt

or_true : (a b : Bool) → b ≡ true → a || b ≡ true
or_true true b e = refl
or_true false b e = e

module _ (P : Slot → Type 0) (v : Values) (wanted : Bool) (sound : AreSound v) (none : v.slots ≡ []) where
  abbrev needed : Bool
  needed = wanted || any_nulls v.arrays

  pub inside_fresh : (b : Bool) (m : Option (List Bool)) → b ≡ needed → m ≡ first_mask b → IsGrowable P v m false
  inside_fresh b m e h = subst (λ k. IsGrowable P v k false) (sym h) (record {
    needed = λ some. first_there b ∙ e ∙ or_true wanted (any_nulls v.arrays) some;
    holds = λ alive. subst (HoldsSlots P v (first_mask b)) (sym (first_under b v.slots none))
        (record { stand = subst (λ vs. StandFor P vs []) (sym none) tt; mask = first_masked b; room = room_none v.dtype sound.form });
  })

  pub fresh_is : (b : Bool) (m : Option (List Bool)) → b ≡ needed → m ≡ first_mask b
      → grown_of v m false ≡ record { dtype = v.dtype; arrays = v.arrays; slots = []; takes_nulls = needed; failed = false }
  fresh_is b m e h =
      ap (λ k. grown_of v k false) h
      ∙ ap₂ (λ s n. record { dtype = v.dtype; arrays = v.arrays; slots = s; takes_nulls = n; failed = false }) (first_under b v.slots none) (first_there b ∙ e)

-- ---- whether one of the arrays has nulls

any_join : (p : Layout → Bool) (xs ys : List Layout) → list_any p (xs ++ ys) ≡ list_any p xs || list_any p ys
any_join p [] ys = refl
any_join p (x ∷ xs) ys = by (p x) (any_join p xs ys)
  where
    by : (b : Bool) → list_any p (xs ++ ys) ≡ list_any p xs || list_any p ys → b || list_any p (xs ++ ys) ≡ (b || list_any p xs) || list_any p ys
    by true e = refl
    by false e = e

take_more : (ls : List Layout) (i : ℕ) (d : Layout) → i < length ls → take (i + 1) ls ≡ take i ls ++ get_or ls i d ∷ []
take_more [] i d h = absurd (omega (arith, h))
take_more (l ∷ ls) zero d h = refl
take_more (l ∷ ls) (suc i) d h = let e : suc i + 1 ≡ suc (i + 1) = omega arith in ap (λ n. take n (l ∷ ls)) e ∙ ap (λ xs. l ∷ xs) (take_more ls i d (omega (arith, h)))

pub none_more : (ls : List Layout) (i : ℕ) → i < length ls → any_nulls (take i ls) ≡ false → has_nulls (layout_at ls i) ≡ false → any_nulls (take (i + 1) ls) ≡ false
none_more ls i h a b =
    ap any_nulls (take_more ls i (nulls T.null 0) h) ∙ any_join has_nulls (take i ls) (layout_at ls i ∷ []) ∙ ap₂ (λ (x y : Bool). x || (y || false)) a b

pub some_here : (ls : List Layout) (i : ℕ) → i < length ls → has_nulls (layout_at ls i) ≡ true → any_nulls ls ≡ true
some_here [] i h e = absurd (omega (arith, h))
some_here (l ∷ ls) zero h e = ap (λ b. b || any_nulls ls) e
some_here (l ∷ ls) (suc i) h e = or_true (has_nulls l) (any_nulls ls) (some_here ls i (omega (arith, h)) e)

-- ---- arrays of one type

pub are_of : (t : TypeData) (ls : List Layout) → AllByRecursion WellFormed ls → AllOfType t ls → AreOf t ls
are_of t [] h k = tt
are_of t (l ∷ ls) h k = ((h.0, k.0), are_of t ls h.1 k.1)

pub layout_map : {A : Type 0} (f : A → Layout) (xs : List A) (i : ℕ) (x : A) → i < length xs → f (get_or xs i x) ≡ layout_at (map f xs) i
layout_map f [] i x h = absurd (omega (arith, h))
layout_map f (y ∷ xs) zero x h = refl
layout_map f (y ∷ xs) (suc i) x h = layout_map f xs i x (omega (arith, h))
