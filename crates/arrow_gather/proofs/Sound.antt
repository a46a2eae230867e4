-- The canonical layout of picked slots is well formed where it fits.
use Rattle.std.proofs.Common.{◌≡◌, ℕ, ◌<◌, inr, zero, suc, List, [], ◌∷◌, length, get_or, refl, ap, sym, ◌∙◌, subst, arith, Option, Some, None}
use Rattle.std.specs.List.{AllByRecursion}
use Rattle.arrow_types.specs.Carried.{IsCarried}
use Rattle.arrow_types.specs.TypeData.{TypeData}
use Rattle.arrow_types.specs.TypeData as T
use Rattle.arrow_types.specs.Types.{logical_of}
use Rattle.arrow_flat.specs.Slots.{Slot}
use Rattle.arrow_layout.specs.Canon.{canon}
use Rattle.arrow_layout.specs.Denote.{denote}
use Rattle.arrow_layout.specs.Fits.{Fits, Small}
use Rattle.arrow_layout.specs.FitsHere.{FitsHere, HaveLengths}
use Rattle.arrow_layout.specs.Forms.{form_of}
use Rattle.arrow_layout.specs.Layouts.{Layout, nulls, booleans, primitives, binaries, fixed_size_binaries, views, lists, fixed_size_lists, structs, sparse_unions, dense_unions, dictionaries, Layouts, no_layouts, child, retyped, type_of, length_of}
use Rattle.arrow_layout.specs.SlotsOf.{HasSlots, IsSlot, fill}
use Rattle.arrow_layout.specs.WellFormed.{WellFormed, AreWellFormed}
use Rattle.arrow_layout.proofs.ByForm.{canon-by, canon_by, fill-form, retyped-by, type-canon}
use Rattle.arrow_layout.proofs.CanonForms.{canon_well_formed}
use Rattle.arrow_layout.proofs.Conforms.{conforms, slots_logical}
use Rattle.arrow_layout.proofs.Fills.{fill_is_slot}
use Rattle.arrow_layout.proofs.Lengths.{length-denote}
use Rattle.arrow_layout.proofs.Retyped.{small_under}
use Rattle.arrow_layout.proofs.Smalls.{From, all_from, small_from}
use Rattle.arrow_meaning.specs.Nodes.{IsOfItsType, IsSoundNode, layout_of}
use Rattle.arrow_meaning.specs.declared.node.Node.{Node}
use Rattle.arrow_meaning.specs.declared.node.Node.TheVariants as node
use Rattle.arrow_meaning.proofs.NullArrays.{same_form}
use Rattle.arrow_choice.proofs.DictionaryNodes.{well_formed_carried}
use Rattle.arrow_canon.specs.Picks.{pick, picks, picked, IsPlace, ArePlaces}
use Rattle.arrow_gather.specs.Types.{HasTypeOf}

-- ---- types that differ in the extensions around them

from_logical : (t : TypeData) → IsCarried (logical_of t) → IsCarried t
from_logical (T.extension n t m) c = from_logical t c
from_logical _ c = c

to_logical : (t : TypeData) → IsCarried t → IsCarried (logical_of t)
to_logical (T.extension n t m) c = to_logical t c
to_logical _ c = c

pub carried_same : (t u : TypeData) → logical_of t ≡ logical_of u → IsCarried u → IsCarried t
carried_same t u e c = from_logical t (subst IsCarried (sym e) (to_logical u c))

pub fill-same : (t u : TypeData) → form_of t ≡ form_of u → fill t ≡ fill u
fill-same t u e = fill-form t (form_of u) e ∙ sym (fill-form u (form_of u) refl)

canon-same : (t u : TypeData) (s : List Slot) → form_of t ≡ form_of u → canon t s ≡ retyped t (canon u s)
canon-same t u s e =
    canon-by t s ∙ ap (λ f. canon_by t f s) e ∙ sym (retyped-by t u (form_of u) s) ∙ ap (retyped t) (sym (canon-by u s))

small_same : (t u : TypeData) (s : List Slot) → form_of t ≡ form_of u → Small (canon u s) → Small (canon t s)
small_same t u s e h = subst Small (sym (canon-same t u s e)) (small_under t (canon u s) (e ∙ ap form_of (sym (type-canon u s))) h)

-- ---- what holds of each item and of the filling holds of picked items

module _ {A : Type 0} (P : A → Type 0) (d : A) (of_fill : P d) where
  at : (xs : List A) (i : ℕ) → i < length xs → AllByRecursion P xs → P (get_or xs i d)
  at [] i h k = of_fill
  at (x ∷ xs) zero h k = k.0
  at (x ∷ xs) (suc i) h k = at xs i (omega (arith, h)) k.1

  at_place : (xs : List A) (p : Option ℕ) → IsPlace (length xs) p → AllByRecursion P xs → P (pick d xs p)
  at_place xs None h k = of_fill
  at_place xs (Some i) h k = at xs i h k

  pub all_picked : (xs : List A) (ps : List (Option ℕ)) → ArePlaces (length xs) ps → AllByRecursion P xs → AllByRecursion P (picks d xs ps)
  all_picked xs [] h k = tt
  all_picked xs (p ∷ ps) h k = (at_place xs p h.0 k, all_picked xs ps h.1 k)

module _ (t : TypeData) (l : Layout) (ps : List (Option ℕ)) (w : WellFormed l) (of_type : HasTypeOf t l) (within : ArePlaces (length_of l) ps) where
  here : ArePlaces (length (denote l)) ps
  here = subst (λ n. ArePlaces n ps) (sym (length-denote l w)) within

  -- a dictionary of them has few enough values
  pub picked_small : Small (canon t (picked t l ps))
  picked_small =
      let e : form_of t ≡ form_of (type_of l) = same_form t (type_of l) of_type in
      let from : AllByRecursion (From l) (picked t l ps) = all_picked (From l) (fill t) (inr (fill-same t (type_of l) e)) (denote l) ps here (all_from l) in
      small_same t (type_of l) (picked t l ps) e (small_from l w (picked t l ps) from)

  pub picked_well_formed : Fits (canon t (picked t l ps)) → WellFormed (canon t (picked t l ps))
  picked_well_formed fits =
      let c : IsCarried t = carried_same t (type_of l) of_type (well_formed_carried l w) in
      let slots : HasSlots t (picked t l ps) =
      all_picked (IsSlot t) (fill t) (fill_is_slot t c) (denote l) ps here (slots_logical t (type_of l) (denote l) of_type (conforms l w)) in
      canon_well_formed t (picked t l ps) c slots fits picked_small

-- ---- what a node owes of a well-formed layout

pub lengths_of_all : (P : ℕ → Type 0) (ls : Layouts) → AreWellFormed P ls → HaveLengths P ls
lengths_of_all P no_layouts w = tt
lengths_of_all P (child l ls) w = (w.0, lengths_of_all P ls w.2)

fits_here : (l : Layout) → WellFormed l → FitsHere l
fits_here (lists t m os l) w = (w.0, w.1)
fits_here (fixed_size_lists t m k n l) w = (w.0, w.1)
fits_here (structs t m n ls) w = (w.0, w.1, lengths_of_all (λ i. i ≡ n) ls w.2)
fits_here (sparse_unions t o ts ls) w = (w.0, w.1, w.2, w.3, lengths_of_all _ ls w.4)
fits_here (dense_unions t o ts os ls) w = (w.0, w.1, w.2, w.3, w.4, w.5)
fits_here (dictionaries t u m ks l) w = (w.0, w.1, w.2, w.3, w.4)
fits_here (nulls t n) w = w
fits_here (booleans t m vs) w = w
fits_here (primitives t m vs) w = w
fits_here (binaries t m os bs) w = w
fits_here (fixed_size_binaries t m k n bs) w = w
fits_here (views t m vs buffers) w = w

pub sound_node : (n : Node) → IsOfItsType n → WellFormed (layout_of n) → IsSoundNode n
sound_node (node.Boolean a) e w = tt
sound_node (node.Primitive a) e w = tt
sound_node (node.Binary a) e w = tt
sound_node (node.LargeBinary a) e w = tt
sound_node (node.Utf8 a) e w = tt
sound_node (node.LargeUtf8 a) e w = tt
sound_node (node.FixedSizeBinary a) e w = tt
sound_node (node.BinaryView a) e w = tt
sound_node (node.Utf8View a) e w = tt
sound_node n e w = (fits_here (layout_of n) w, e)
