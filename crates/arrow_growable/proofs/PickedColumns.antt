-- The columns of slots that are picked out of an array, by the places in its children.
use Rattle.std.proofs.Common.{◌≡◌, ℕ, zero, suc, pred, ◌+◌, ◌-◌, ◌*◌, ◌<◌, ◌≤◌, ◌^◌, ℤ, Bool, true, false, cond, List, [], ◌∷◌, ◌++◌, length, map, replicate, flat_map, get_or, refl, ap, ap₂, sym, ◌∙◌, subst, arith, Option, Some, None}
use Rattle.std.specs.Prelude.{⊤}
use Rattle.std.specs.List.{AllByRecursion}
use Rattle.arrow_types.specs.Carried.{IsCarried}
use Rattle.arrow_types.specs.TypeData.{TypeData}
use Rattle.arrow_flat.specs.Slots.{Slot}
use Rattle.arrow_layout.specs.Canon.{canon, mask_of}
use Rattle.arrow_layout.specs.Denote.{columns, denote}
use Rattle.arrow_layout.specs.Forms.{Form, form_of}
use Rattle.arrow_layout.specs.Layouts.{Layout, Layouts, no_layouts, child, type_of, length_of}
use Rattle.arrow_layout.specs.Paths.{children_of}
use Rattle.arrow_layout.specs.SlotsOf.{HasSlots, IsSlot, fill}
use Rattle.arrow_layout.specs.WellFormed.{AreWellFormed, WellFormed}
use Rattle.arrow_layout.proofs.Conforms.{conforms}
use Rattle.arrow_layout.proofs.Denotes.{denote_canon}
use Rattle.arrow_layout.proofs.Fills.{fill_is_slot}
use Rattle.arrow_layout.proofs.Unique.{carried_of}
use Rattle.arrow_canon.specs.Picks.{picked}
use Rattle.arrow_canon.specs.Runs.{places}
use Rattle.arrow_canon.specs.declared.run.Run.{Run}
use Rattle.arrow_canon.proofs.FixedSizes.{all_picks}
use Rattle.arrow_items.specs.Kinds.{child_picked, children_picked}
use Rattle.arrow_items.specs.Unions.{children_by}
use Rattle.arrow_growable.specs.ChildRuns.{columns_at, runs_for}
use Rattle.arrow_growable.specs.Columns.{child_types, columns_by, IsNested, canon_columns}
use Rattle.arrow_growable.specs.declared.child_runs.ItemRuns.{ItemRuns}
use Rattle.arrow_growable.proofs.ColumnSlots.{children_canon, children_carried, columns_denoted, columns_have}

-- picked slots are slots of the type
pub picked_slots : (l : Layout) (ps : List (Option ℕ)) → WellFormed l → HasSlots (type_of l) (picked (type_of l) l ps)
picked_slots l ps w = all_picks (IsSlot (type_of l)) (fill (type_of l)) (fill_is_slot (type_of l) (carried_of l w)) (denote l) ps (conforms l w)

pub picked_denoted : (l : Layout) (ps : List (Option ℕ)) → WellFormed l → denote (child_picked l ps) ≡ picked (type_of l) l ps
picked_denoted l ps w = denote_canon (type_of l) (picked (type_of l) l ps) (carried_of l w) (picked_slots l ps w)

-- the columns of slots whose canonical layout is known are what its children denote
pub columns_from : (t : TypeData) (f : Form) (s : List Slot) (p : Layout) → form_of t ≡ f → IsNested f → IsCarried t → HasSlots t s → canon t s ≡ p → columns_by f s ≡ columns (children_of p)
columns_from t f s p e n c h same =
    sym (columns_denoted (child_types f) (columns_by f s) (children_carried t f e c) (columns_have t f s e c h))
    ∙ ap columns (sym (children_canon t f s e n) ∙ ap children_of same)

-- children at places of their own
pub columns_placed : (P : ℕ → Type 0) (ls : Layouts) (items : ItemRuns) (f : ℕ → List (Option ℕ)) (j : ℕ) → AreWellFormed P ls → ((i : ℕ) → places (runs_for items i) ≡ f i)
    → columns (children_by f ls j) ≡ columns_at ls items j
columns_placed P no_layouts items f j w h = refl
columns_placed P (child l ls) items f j w h =
    ap₂ (λ x xs. x ∷ xs) (picked_denoted l (f j) w.1 ∙ ap (picked (type_of l) l) (sym (h j))) (columns_placed P ls items f (suc j) w.2 h)

pub columns_shared : (P : ℕ → Type 0) (ls : Layouts) (items : ItemRuns) (qs : List (Option ℕ)) (j : ℕ) → AreWellFormed P ls → ((i : ℕ) → places (runs_for items i) ≡ qs)
    → columns (children_picked ls qs) ≡ columns_at ls items j
columns_shared P no_layouts items qs j w h = refl
columns_shared P (child l ls) items qs j w h =
    ap₂ (λ x xs. x ∷ xs) (picked_denoted l qs w.1 ∙ ap (picked (type_of l) l) (sym (h j))) (columns_shared P ls items qs (suc j) w.2 h)
