-- The children of canonical layouts, one after another.
use Rattle.std.proofs.Common.{◌≡◌, ℕ, zero, suc, ◌+◌, ◌<◌, ◌≤◌, ◌++◌, take, get_or, List, [], ◌∷◌, length, refl, ap, ap₂, sym, ◌∙◌, subst, arith, Option}
use Rattle.std.proofs.lemmas.List.{take_more}
use Rattle.arrow_layout.specs.Fits.{Fits, AllFit}
use Rattle.arrow_layout.specs.FitsHere.{HaveLengths}
use Rattle.arrow_layout.specs.Layouts.{Layout, Layouts, no_layouts, child, layouts, length_of}
use Rattle.arrow_layout.specs.NodeCount.{node_count, node_counts}
use Rattle.arrow_canon.specs.Runs.{AreWithin, IsWithin}
use Rattle.arrow_canon.specs.declared.run.Run.{Run}
use Rattle.arrow_canon.specs.declared.run.Run.TheVariants.{Slots, Fill}
use Rattle.arrow_items.specs.Kinds.{child_picked, children_picked}
use Rattle.arrow_items.specs.Unions.{children_by}

-- ---- one child of a list of them

pub nodes_at : (cs : List Layout) (i : ℕ) (d : Layout) → i < length cs → node_count (get_or cs i d) ≤ node_counts (layouts cs)
nodes_at [] i d h = absurd (omega (arith, h))
nodes_at (c ∷ cs) zero d h = omega arith
nodes_at (c ∷ cs) (suc i) d h = omega (arith, nodes_at cs i d (omega (arith, h)))

module _ (P : ℕ → Type 0) where
  pub length_at : (cs : List Layout) (i : ℕ) (d : Layout) → i < length cs → HaveLengths P (layouts cs) → P (length_of (get_or cs i d))
  length_at [] i d h w = absurd (omega (arith, h))
  length_at (c ∷ cs) zero d h w = w.0
  length_at (c ∷ cs) (suc i) d h w = length_at cs i d (omega (arith, h)) w.1

-- ---- one child more

with_last : Layouts → Layout → Layouts
with_last no_layouts c = child c no_layouts
with_last (child l ls) c = child l (with_last ls c)

layouts_more : (ds : List Layout) (c : Layout) → layouts (ds ++ c ∷ []) ≡ with_last (layouts ds) c
unfolding with_last
layouts_more [] c = refl
layouts_more (d ∷ ds) c = ap (child d) (layouts_more ds c)

count_taken : {A : Type 0} (xs : List A) (i : ℕ) → i < length xs → length (take i xs) ≡ i
count_taken [] i h = absurd (omega (arith, h))
count_taken (x ∷ xs) zero h = refl
count_taken (x ∷ xs) (suc i) h = ap suc (count_taken xs i (omega (arith, h)))

module _ (f : ℕ → List (Option ℕ)) where
  by_more : (cs : List Layout) (c : Layout) (k : ℕ) → children_by f (layouts (cs ++ c ∷ [])) k ≡ with_last (children_by f (layouts cs) k) (child_picked c (f (k + length cs)))
  unfolding with_last
  by_more [] c k = let e : k ≡ k + 0 = omega arith in ap (λ j. child (child_picked c (f j)) no_layouts) e
  by_more (d ∷ cs) c k =
      let e : suc k + length cs ≡ k + suc (length cs) = omega arith in
      ap (child (child_picked d (f k))) (by_more cs c (suc k) ∙ ap (λ j. with_last (children_by f (layouts cs) (suc k)) (child_picked c (f j))) e)

  fit_more : (cs : List Layout) (c : Layout) (k : ℕ) → AllFit (children_by f (layouts cs) k) → Fits (child_picked c (f (k + length cs))) → AllFit (children_by f (layouts (cs ++ c ∷ [])) k)
  fit_more [] c k w g = let e : k + 0 ≡ k = omega arith in (subst (λ j. Fits (child_picked c (f j))) e g, tt)
  fit_more (d ∷ cs) c k w g =
      let e : k + suc (length cs) ≡ suc k + length cs = omega arith in
      (w.0, fit_more cs c (suc k) w.1 (subst (λ j. Fits (child_picked c (f j))) e g))

  fit_from : (cs : List Layout) (i : ℕ) (d : Layout) (k : ℕ) → i < length cs → AllFit (children_by f (layouts cs) k) → Fits (child_picked (get_or cs i d) (f (k + i)))
  fit_from [] i d k h w = absurd (omega (arith, h))
  fit_from (c ∷ cs) zero d k h w = let e : k ≡ k + 0 = omega arith in subst (λ j. Fits (child_picked c (f j))) e w.0
  fit_from (c ∷ cs) (suc i) d k h w =
      let e : suc k + i ≡ k + suc i = omega arith in
      subst (λ j. Fits (child_picked (get_or cs i d) (f j))) e (fit_from cs i d (suc k) (omega (arith, h)) w.1)

  module _ (cs : List Layout) (i : ℕ) (d : Layout) (h : i < length cs) where
    at : i ≡ 0 + length (take i cs)
    at = omega (arith, count_taken cs i h)

    pub by_step : (ds : List Layout) (c : Layout) → layouts ds ≡ children_by f (layouts (take i cs)) 0 → c ≡ child_picked (get_or cs i d) (f i)
        → layouts (ds ++ c ∷ []) ≡ children_by f (layouts (take (i + 1) cs)) 0
    by_step ds c e g =
        layouts_more ds c ∙ ap₂ with_last e (g ∙ ap (λ j. child_picked (get_or cs i d) (f j)) at)
        ∙ sym (ap (λ xs. children_by f (layouts xs) 0) (take_more cs i d h) ∙ by_more (take i cs) (get_or cs i d) 0)

    pub fit_step : AllFit (children_by f (layouts (take i cs)) 0) → Fits (child_picked (get_or cs i d) (f i)) → AllFit (children_by f (layouts (take (i + 1) cs)) 0)
    fit_step w g =
        subst (λ xs. AllFit (children_by f (layouts xs) 0)) (sym (take_more cs i d h))
        (fit_more (take i cs) (get_or cs i d) 0 w (subst (λ j. Fits (child_picked (get_or cs i d) (f j))) at g))

    pub fit_at : AllFit (children_by f (layouts cs) 0) → Fits (child_picked (get_or cs i d) (f i))
    fit_at w = let e : 0 + i ≡ i = omega arith in subst (λ j. Fits (child_picked (get_or cs i d) (f j))) e (fit_from cs i d 0 h w)

-- the children of a struct are all at the same places
pub picked-by : (ls : Layouts) (ps : List (Option ℕ)) (k : ℕ) → children_picked ls ps ≡ children_by (λ j. ps) ls k
picked-by no_layouts ps k = refl
picked-by (child l ls) ps k = ap (child (child_picked l ps)) (picked-by ls ps (suc k))

-- ---- runs within a longer child

one_more : (a b : ℕ) (r : Run) → a ≤ b → IsWithin a r → IsWithin b r
one_more a b (Slots start n) h w = omega (arith, h, w)
one_more a b (Fill n) h w = tt

pub within_more : (a b : ℕ) (rs : List Run) → a ≤ b → AreWithin a rs → AreWithin b rs
within_more a b [] h w = tt
within_more a b (r ∷ rs) h w = (one_more a b r h w.0, within_more a b rs h w.1)
