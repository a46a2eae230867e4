-- The values of a growable of values of one width.
use Rattle.std.proofs.Common.{◌≡◌, ℕ, zero, suc, ◌+◌, ◌<◌, ◌≤◌, ◌^◌, List, ◌∷◌, ◌++◌, map, length, take, replicate, Ok, Err, Some, refl, ap, sym, ◌∙◌, subst, arith, length-append}
use Rattle.std.specs.Prelude.{⊤, ℤ}
use Rattle.std.proofs.lemmas.List.{map-append, length-map, length-replicate, take_all}
use Rattle.arrow_types.specs.TypeData.{TypeData}
use Rattle.arrow_types.specs.Types.{physical_of}
use Rattle.arrow_types.specs.declared.datatype.PhysicalType.TheVariants as physical
use Rattle.arrow_types.specs.declared.datatype.PrimitiveType.{PrimitiveType}
use Rattle.arrow_types.specs.declared.error.GrowError.TheVariants as error
use Rattle.arrow_flat.specs.Primitives.{Primitives}
use Rattle.arrow_flat.specs.Slots.{Slot, null, num}
use Rattle.arrow_layout.specs.Cut.{part}
use Rattle.arrow_layout.specs.Denote.{denote, under}
use Rattle.arrow_layout.specs.Forms.{form_of, primitives_of}
use Rattle.arrow_meaning.specs.Nodes.{primitive_layout}
use Rattle.arrow_meaning.proofs.FlatKinds.{flat_form}
use Rattle.arrow_grow_flat.specs.Grown.{layout_at}
use Rattle.arrow_grow_flat.specs.Kinds.{number_values}
use Rattle.arrow_grow_flat.specs.Values.{GrowsValues, StandFor, Values}
use Rattle.arrow_grow_flat.proofs.Counts.{counted_full, counted_more, stand_copied}
use Rattle.arrow_grow_flat.proofs.SourceSlots.{part-map}
use Rattle.arrow_grow_flat.proofs.Stands.{stand_nulls}

-- anything may stand under a null
abbrev pub Any : Slot → Type 0
Any x = ⊤

pub map-replicate : {A B : Type 0} (f : A → B) (n : ℕ) (x : A) → map f (replicate n x) ≡ replicate n (f x)
map-replicate f zero x = refl
map-replicate f (suc n) x = ap (λ ys. f x ∷ ys) (map-replicate f n x)

module _ {T : Type 0} (parts : T → List ℤ) (p : PrimitiveType) (t : TypeData) (arrays : List (Primitives T)) (vs : List T)
    (stored : physical_of t ≡ Some (physical.Primitive p)) where
  abbrev numbers : List T → List Slot
  numbers xs = map num (map parts xs)

  abbrev grown_to : List T → Values
  grown_to ws = number_values parts t arrays ws

  numbers_join : (xs ys : List T) → numbers (xs ++ ys) ≡ numbers xs ++ numbers ys
  numbers_join xs ys = ap (map num) (map-append parts xs ys) ∙ map-append num (map parts xs) (map parts ys)

  numbers_count : (xs : List T) → length (numbers xs) ≡ length xs
  numbers_count xs = length-map (map parts xs) num ∙ length-map xs parts

  -- a run of the values of an array
  numbers_part : (a : Primitives T) (o n : ℕ) → part o n (under (primitive_layout parts a)) ≡ numbers (part o n a.values)
  numbers_part a o n = part-map num o n (map parts a.values) ∙ ap (map num) (part-map parts o n a.values)

  form : form_of t ≡ primitives_of p
  form = flat_form t (physical.Primitive p) stored tt

  more : (ws tail : List T) (xs : List Slot) → ws ≡ vs ++ tail → length ws < 2 ^ 64 → StandFor Any (numbers tail) xs
      → GrowsValues Any (grown_to vs) xs (grown_to ws) (Ok tt)
  more ws tail xs h small stand = record {
    same_type = refl;
    same_arrays = refl;
    outcome = λ s st.
        counted_more Any (grown_to vs) (primitives_of p) tt form s xs st (grown_to ws) (numbers tail) (ap numbers h ∙ numbers_join vs tail) stand
        (omega (arith, small, numbers_count ws));
  }

  pub run_more : (ws : List T) (a : Primitives T) (i o n : ℕ) → layout_at (map (primitive_layout parts) arrays) i ≡ primitive_layout parts a → ws ≡ vs ++ part o n a.values
      → length ws < 2 ^ 64 → GrowsValues Any (grown_to vs) (part o n (denote (layout_at (map (primitive_layout parts) arrays) i))) (grown_to ws) (Ok tt)
  run_more ws a i o n is h small =
      let l = primitive_layout parts a in
      let stand = subst (λ ys. StandFor Any ys (part o n (denote l))) (numbers_part a o n) (stand_copied Any (λ x. tt) l o n tt) in
      more ws (part o n a.values) (part o n (denote (layout_at (map (primitive_layout parts) arrays) i))) h small
      (subst (λ k. StandFor Any (numbers (part o n a.values)) (part o n (denote k))) (sym is) stand)

  pub nulls_more : (ws : List T) (x : T) (n : ℕ) → ws ≡ vs ++ replicate n x → length ws < 2 ^ 64
      → GrowsValues Any (grown_to vs) (replicate n null) (grown_to ws) (Ok tt)
  nulls_more ws x n h small =
      let same : replicate n (num (parts x)) ≡ numbers (replicate n x) = sym (ap (map num) (map-replicate parts n x) ∙ map-replicate num n (parts x)) in
      more ws (replicate n x) (replicate n null) h small
      (subst (λ ys. StandFor Any ys (replicate n null)) same (stand_nulls Any (num (parts x)) n tt))

  pub nulls_resized : (ws : List T) (x : T) (m k n : ℕ) → ws ≡ take m vs ++ replicate k x → length vs ≤ m → k ≡ n → length vs + n < 2 ^ 64
      → GrowsValues Any (grown_to vs) (replicate n null) (grown_to ws) (Ok tt)
  nulls_resized ws x m k n h l e small =
      let all : ws ≡ vs ++ replicate n x = h ∙ ap (λ ys. ys ++ replicate k x) (take_all m vs l) ∙ ap (λ j. vs ++ replicate j x) e in
      nulls_more ws x n all (omega (arith, small, ap length all, length-append vs (replicate n x), length-replicate n x))

  pub nulls_full : (n : ℕ) → 2 ^ 64 ≤ length vs + n → GrowsValues Any (grown_to vs) (replicate n null) (grown_to vs) (Err error.Overflow)
  nulls_full n h = record {
    same_type = refl;
    same_arrays = refl;
    outcome = λ s st.
        counted_full Any (grown_to vs) (primitives_of p) tt form s (replicate n null) st (omega (arith, h, numbers_count vs, length-replicate n null));
  }
