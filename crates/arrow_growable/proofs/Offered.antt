-- What a growable offers its children of an array: the runs that they take, and what these pick.
use Rattle.std.proofs.Common.{◌≡◌, ℕ, zero, suc, pred, ◌+◌, ◌-◌, ◌*◌, ◌<◌, ◌≤◌, ◌^◌, Bool, true, false, List, [], ◌∷◌, ◌++◌, length, map, replicate, get_or, refl, ap, ap₂, sym, ◌∙◌, subst, arith, Option, Some, None}
use Rattle.std.specs.Prelude.{⊤}
use Rattle.std.specs.List.{AllByRecursion}
use Rattle.std.proofs.lemmas.List.{length-map, length-replicate}
use Rattle.arrow_types.specs.TypeData.{TypeData}
use Rattle.arrow_types.specs.TypeData as T
use Rattle.arrow_flat.specs.Slots.{Slot, null}
use Rattle.arrow_layout.specs.Denote.{denote}
use Rattle.arrow_layout.specs.Forms.{Form, nulls_of, form_of}
use Rattle.arrow_layout.specs.Layouts.{Layout, Layouts, no_layouts, child, child_count, nulls, type_of, length_of}
use Rattle.arrow_layout.specs.Paths as paths
use Rattle.arrow_layout.specs.Paths.{child_at, children_of}
use Rattle.arrow_layout.specs.SlotsOf.{fill, IsNullSlot}
use Rattle.arrow_layout.specs.WellFormed.{WellFormed}
use Rattle.arrow_layout.proofs.ByForm.{IsSlotBy, by-slot, fill-form}
use Rattle.arrow_layout.proofs.Conforms.{conforms}
use Rattle.arrow_layout.proofs.CutForms.{count_below}
use Rattle.arrow_layout.proofs.Lengths.{length-denote}
use Rattle.arrow_flat.proofs.Lists.{all_weaker}
use Rattle.arrow_canon.specs.Picks.{pick, picked, picks}
use Rattle.arrow_canon.specs.Runs.{AreWithin, IsWithin, places}
use Rattle.arrow_canon.specs.declared.run.Run.{Run}
use Rattle.arrow_canon.specs.declared.run.Run.TheVariants.{Slots, Fill}
use Rattle.arrow_items.proofs.KeptPlaces.{map_at}
use Rattle.arrow_grow_flat.specs.Grown.{Grown, AreOf, layout_at, nulls_by, source, source_count, sources_of, source_of}
use Rattle.arrow_growable.specs.NestedGrown.{AllMayTake, AreAlive, AreMadeOf, IsFrom, IsMadeOf, MayTake, TakeFills, taken_by, taken_of}
use Rattle.arrow_growable.specs.ChildRuns.{AreInside, AreSlots, columns_at, may_fill, runs_for}
use Rattle.arrow_growable.specs.declared.child_runs.ItemRuns.{ItemRuns}

-- ---- runs within a longer array

one_more : (a b : ℕ) (r : Run) → a ≤ b → IsWithin a r → IsWithin b r
one_more a b (Slots start n) h w = omega (arith, h, w)
one_more a b (Fill n) h w = tt

pub within_more : (a b : ℕ) (rs : List Run) → a ≤ b → AreWithin a rs → AreWithin b rs
within_more a b [] h w = tt
within_more a b (r ∷ rs) h w = (one_more a b r h w.0, within_more a b rs h w.1)

-- ---- nulls

null_is : (x : Slot) → IsNullSlot x → x ≡ null
null_is null h = refl
null_is _ h = absurd h

null_at : (xs : List Slot) (i : ℕ) → AllByRecursion IsNullSlot xs → get_or xs i null ≡ null
null_at [] i h = refl
null_at (x ∷ xs) zero h = null_is x h.0
null_at (x ∷ xs) (suc i) h = null_at xs i h.1

picks_null : (xs : List Slot) (ps : List (Option ℕ)) → AllByRecursion IsNullSlot xs → picks null xs ps ≡ replicate (length ps) null
picks_null xs [] h = refl
picks_null xs (None ∷ ps) h = ap (λ ys. null ∷ ys) (picks_null xs ps h)
picks_null xs (Some i ∷ ps) h = ap₂ (λ y ys. y ∷ ys) (null_at xs i h) (picks_null xs ps h)

all_nulls : (n : ℕ) → AllByRecursion IsNullSlot (replicate n null)
all_nulls zero = tt
all_nulls (suc n) = (tt, all_nulls n)

nulls_by_null : (n : ℕ) → AllByRecursion IsNullSlot (nulls_by n)
unfolding nulls_by
nulls_by_null n = all_nulls n

length-nulls_by : (n : ℕ) → length (nulls_by n) ≡ n
unfolding nulls_by
length-nulls_by n = length-replicate n null

null_denoted : (l : Layout) → WellFormed l → form_of (type_of l) ≡ nulls_of → AllByRecursion IsNullSlot (denote l)
null_denoted l w e = subst (λ f. AllByRecursion (IsSlotBy f) (denote l)) e (all_weaker _ _ (by-slot (type_of l)) (denote l) (conforms l w))

-- ---- one child

pub all_of : (t : TypeData) (ls : List Layout) (i : ℕ) (d : Layout) → i < length ls → AreOf t ls → WellFormed (get_or ls i d) × (type_of (get_or ls i d) ≡ t)
all_of t [] i d h a = absurd (omega (arith, h))
all_of t (l ∷ ls) zero d h a = a.0
all_of t (l ∷ ls) (suc i) d h a = all_of t ls i d (omega (arith, h)) a.1

module _ (c : Grown) (ls : List Layout) (j i : ℕ) (made : IsMadeOf c (map (child_at j) ls)) (few : length ls < 2 ^ 64) (named : i < length ls) where
  abbrev inner : Layout
  inner = child_at j (layout_at ls i)

  inner_is : layout_at (map (child_at j) ls) i ≡ inner
  inner_is = map_at (child_at j) ls i (nulls T.null 0) (nulls T.null 0) named

  pub inner_sound : WellFormed inner × (type_of inner ≡ c.dtype)
  inner_sound =
      subst (λ l. WellFormed l × (type_of l ≡ c.dtype)) inner_is
      (all_of c.dtype (map (child_at j) ls) i (nulls T.null 0) (subst (λ n. i < n) (sym (length-map ls (child_at j))) named) made.typed)

  -- the source that has the child's slots at these places
  pub record Offers (rs : List Run) : Type 0 where
    pub there : i < source_count c
    pub within : AreWithin (length (source c i)) rs
    pub same : taken_of c i rs ≡ picked (type_of inner) inner (places rs)

  offer_nulls : (rs : List Run) → form_of c.dtype ≡ nulls_of → AreWithin (length_of inner) rs → Offers rs
  offer_nulls rs e w =
      let s = inner_sound in
      let t : form_of (type_of inner) ≡ nulls_of = ap form_of s.1 ∙ e in
      let small : length_of inner < 2 ^ 64 = count_below inner s.0 in
      let size : length (nulls_by 18446744073709551615) ≡ 18446744073709551615 = length-nulls_by 18446744073709551615 in
      let f : fill c.dtype ≡ null = fill-form c.dtype nulls_of e in
      let g : fill (type_of inner) ≡ null = fill-form (type_of inner) nulls_of t in
      record {
        there = subst (λ k. i < sources_of k c.arrays) (sym e) (omega (arith, named, few));
        within = subst (λ k. AreWithin (length (source_of k c.arrays i)) rs) (sym e)
            (within_more (length_of inner) (length (nulls_by 18446744073709551615)) rs (omega (arith, small, size)) w);
        same = ap₂ (λ x k. picks x (source_of k c.arrays i) (places rs)) f e ∙ picks_null (nulls_by 18446744073709551615) (places rs) (nulls_by_null 18446744073709551615)
            ∙ sym (picks_null (denote inner) (places rs) (null_denoted inner s.0 t)) ∙ ap (λ x. picks x (denote inner) (places rs)) (sym g);
      }

  offer_arrays : (rs : List Run) → c.arrays ≡ map (child_at j) ls → sources_of (form_of c.dtype) c.arrays ≡ length c.arrays → source_of (form_of c.dtype) c.arrays i ≡ denote (layout_at c.arrays i)
      → AreWithin (length_of inner) rs → Offers rs
  offer_arrays rs e n d w =
      let s = inner_sound in
      let own : source c i ≡ denote inner = d ∙ ap (λ ks. denote (layout_at ks i)) e ∙ ap denote inner_is in
      record {
        there = omega (arith, n, ap length e, length-map ls (child_at j), named);
        within = subst (λ xs. AreWithin (length xs) rs) (sym own) (subst (λ k. AreWithin k rs) (sym (length-denote inner s.0)) w);
        same = ap₂ (λ t xs. picks (fill t) xs (places rs)) (sym s.1) own;
      }

  offer_by : (rs : List Run) (f : Form) → form_of c.dtype ≡ f → IsFrom f c.arrays (map (child_at j) ls) → AreWithin (length_of inner) rs → Offers rs
  offer_by rs nulls_of e k w = offer_nulls rs e w
  offer_by rs _ e k w = offer_arrays rs k (ap (λ f. sources_of f c.arrays) e) (ap (λ f. source_of f c.arrays i) e) w

  pub offers : (rs : List Run) → AreWithin (length_of inner) rs → Offers rs
  offers rs w = offer_by rs (form_of c.dtype) refl made.from w

-- ---- all children, the first of them child j of the array, whose children from j on are ls

no_fill : (w b : Bool) → (w ≡ true → b ≡ true) → b ≡ false → w ≡ false
no_fill true b h e = sym (h refl) ∙ e
no_fill false b h e = refl

module _ (arrays : List Layout) (i : ℕ) (few : length arrays < 2 ^ 64) (named : i < length arrays) (f : Form) (w : Bool) (items : ItemRuns)
    (fills : (j : ℕ) → may_fill f w j ≡ false → AreSlots (places (runs_for items j))) where
  pub all_offered : (j : ℕ) (cs : List Grown) (ls : Layouts) → length cs ≡ child_count ls → ((k : ℕ) → child_at (j + k) (layout_at arrays i) ≡ paths.layout_at k ls)
      → AreMadeOf j cs arrays → TakeFills f w j cs → AreAlive cs → AreInside ls items j → AllMayTake i items j cs × (taken_by i items j cs ≡ columns_at ls items j)
  all_offered j [] no_layouts n at made take alive inside = (tt, refl)
  all_offered j [] (child l ls) n at made take alive inside = absurd (omega (arith, n))
  all_offered j (c ∷ cs) no_layouts n at made take alive inside = absurd (omega (arith, n))
  all_offered j (c ∷ cs) (child l ls) n at made take alive inside =
      let zero_on : j + 0 ≡ j = omega arith in
      let is : child_at j (layout_at arrays i) ≡ l = ap (λ k. child_at k (layout_at arrays i)) (sym zero_on) ∙ at 0 in
      let offer = offers c arrays j i made.0 few named (runs_for items j) (subst (λ x. AreWithin (length_of x) (runs_for items j)) (sym is) inside.1) in
      let next : (k : ℕ) → suc j + k ≡ j + suc k = λ k. omega arith in
      let rest = all_offered (suc j) cs ls (omega (arith, n)) (λ k. ap (λ q. child_at q (layout_at arrays i)) (next k) ∙ at (suc k)) made.1 take.1 alive.1 inside.2 in (
        (record { alive = alive.0; named = offer.there; within = offer.within; nulls = λ e. fills j (no_fill (may_fill f w j) c.takes_nulls take.0 e) }, rest.0),
        ap₂ (λ x xs. x ∷ xs) (offer.same ∙ ap (λ x. picked (type_of x) x (places (runs_for items j))) is) rest.1,
      )
