-- Views of arrays among the buffers of all, and what they stand for.
use Rattle.std.proofs.Common.{◌≡◌, ℕ, zero, suc, ◌+◌, ◌-◌, ◌<◌, ◌≤◌, ◌^◌, Bool, true, false, cond, List, [], ◌∷◌, ◌++◌, length, map, take, drop, get_or, slice_get, replicate, Option, Some, None, refl, ap, ap₂, sym, ◌∙◌, subst, arith, length-append, append_assoc}
use Rattle.std.specs.Prelude.{IsUtf8}
use Rattle.std.specs.List.{AllByRecursion}
use Rattle.std.proofs.lemmas.List.{get_or-append-add, get_or_append_left, get_or-drop, get_or-map, length-drop, length-map, length-take-le, length-take, map-append, take-append-drop, take_more}
use Rattle.std.proofs.lemmas.Grind.{flat_map-append}
use Rattle.arrow_buffers.specs.Bits.{Bits}
use Rattle.arrow_flat.specs.Packs.{view_limit}
use Rattle.arrow_flat.specs.Pieces.{AreTextsIf}
use Rattle.arrow_flat.specs.Primitives.{MaskHasLength, valid_at}
use Rattle.arrow_flat.specs.Slots.{Slot, null, bytes}
use Rattle.arrow_flat.specs.Views.{View, inline, long, IsView, view_bytes, view_length, zero_view}
use Rattle.arrow_flat.proofs.Lists.{all_join, all_map}
use Rattle.arrow_views.specs.ViewArrays.{AreViews, ViewArray, values_in, values_of}
use Rattle.arrow_views.specs.ViewParts.{IsPlaced, buffer_of, bytes_of, offset_of, prefix_of}
use Rattle.arrow_views.proofs.Checks.{prefix_at}
use Rattle.arrow_views.proofs.Packed.{value_fits as packed_fits}
use Rattle.arrow_layout.specs.Cut.{part}
use Rattle.arrow_layout.specs.Denote.{denote, masked, masked_by, view_slots}
use Rattle.arrow_meaning.specs.Nodes.{view_layout}
use Rattle.arrow_grow_flat.specs.SharedViews.{AreViewsOf, IsEmptyValue, buffer_starts, joined_buffers, shifted, slot_value, slot_values, slot_view, slot_views}
use Rattle.arrow_grow_flat.specs.Values.{StandsFor, StandFor}
use Rattle.arrow_grow_flat.proofs.SourceSlots.{all_at}
use Rattle.arrow_grow_flat.proofs.Stands.{stand_join}

-- ---- the buffers of one array among all

-- These buffers stand among others from the n-th on.
pub record IsRun (n : ℕ) (run buffers : List (List ℕ)) : Type 0 where
  pub within : n + length run ≤ length buffers
  pub same : (b : ℕ) → b < length run → get_or buffers (n + b) [] ≡ get_or run b []

middle : (front run rest : List (List ℕ)) (n : ℕ) → length front ≡ n → IsRun n run (front ++ (run ++ rest))
middle front run rest n e = record {
  within = omega (arith, length-append front (run ++ rest), length-append run rest, e);
  same = λ b h.
      ap (λ k. get_or (front ++ (run ++ rest)) (k + b) []) (sym e) ∙ get_or-append-add front (run ++ rest) b []
      ∙ get_or_append_left run rest [] b h;
}

run_from : (front : List (List ℕ)) (n : ℕ) (arrays : List ViewArray) (i : ℕ) (d : ViewArray) → length front ≡ n → i < length arrays
    → IsRun (get_or (buffer_starts n arrays) i 0) (get_or arrays i d).buffers (front ++ joined_buffers arrays)
run_from front n [] i d e h = absurd (omega (arith, h))
run_from front n (a ∷ arrays) zero d e h = middle front a.buffers (joined_buffers arrays) n e
run_from front n (a ∷ arrays) (suc i) d e h =
    subst (IsRun (get_or (buffer_starts (n + length a.buffers) arrays) i 0) (get_or arrays i d).buffers) (append_assoc front a.buffers (joined_buffers arrays))
    (run_from (front ++ a.buffers) (n + length a.buffers) arrays i d (omega (arith, e, length-append front a.buffers)) (omega (arith, h)))

pub run_of : (arrays : List ViewArray) (i : ℕ) (d : ViewArray) → i < length arrays → IsRun (get_or (buffer_starts 0 arrays) i 0) (get_or arrays i d).buffers (joined_buffers arrays)
run_of arrays i d h = run_from [] 0 arrays i d refl h

pub length-starts : (n : ℕ) (arrays : List ViewArray) → length (buffer_starts n arrays) ≡ length arrays
length-starts n [] = refl
length-starts n (a ∷ arrays) = ap suc (length-starts (n + length a.buffers) arrays)

starts_join : (n : ℕ) (arrays : List ViewArray) (a : ViewArray) → buffer_starts n (arrays ++ a ∷ []) ≡ buffer_starts n arrays ++ (n + length (joined_buffers arrays)) ∷ []
starts_join n [] a = let q : n ≡ n + 0 = omega arith in ap (λ k. k ∷ []) q
starts_join n (c ∷ arrays) a =
    let q : n + length c.buffers + length (joined_buffers arrays) ≡ n + length (c.buffers ++ joined_buffers arrays) = omega (arith, length-append c.buffers (joined_buffers arrays)) in
    ap (λ ns. n ∷ ns) (starts_join (n + length c.buffers) arrays a ∙ ap (λ k. buffer_starts (n + length c.buffers) arrays ++ k ∷ []) q)

joined_join : (arrays : List ViewArray) (a : ViewArray) → joined_buffers (arrays ++ a ∷ []) ≡ joined_buffers arrays ++ a.buffers
joined_join [] a = append_nil a.buffers
  where
    append_nil : (bs : List (List ℕ)) → bs ++ [] ≡ bs
    append_nil [] = refl
    append_nil (b ∷ bs) = ap (λ cs. b ∷ cs) (append_nil bs)
joined_join (c ∷ arrays) a = ap (λ bs. c.buffers ++ bs) (joined_join arrays a) ∙ sym (append_assoc c.buffers (joined_buffers arrays) a.buffers)

-- with one array more
pub starts_more : (arrays : List ViewArray) (i : ℕ) (d : ViewArray) → i < length arrays
    → buffer_starts 0 (take (i + 1) arrays) ≡ buffer_starts 0 (take i arrays) ++ length (joined_buffers (take i arrays)) ∷ []
starts_more arrays i d h = ap (buffer_starts 0) (take_more arrays i d h) ∙ starts_join 0 (take i arrays) (get_or arrays i d) ∙ ap (λ k. buffer_starts 0 (take i arrays) ++ k ∷ []) none
  where
    none : 0 + length (joined_buffers (take i arrays)) ≡ length (joined_buffers (take i arrays))
    none = omega arith

pub joined_more : (arrays : List ViewArray) (i : ℕ) (d : ViewArray) → i < length arrays → joined_buffers (take (i + 1) arrays) ≡ joined_buffers (take i arrays) ++ (get_or arrays i d).buffers
joined_more arrays i d h = ap joined_buffers (take_more arrays i d h) ∙ joined_join (take i arrays) (get_or arrays i d)

-- no fewer than those of the arrays up to one
pub buffers_past : (arrays : List ViewArray) (i : ℕ) (d : ViewArray) → i < length arrays
    → length (joined_buffers (take i arrays)) + length (get_or arrays i d).buffers ≤ length (joined_buffers arrays)
buffers_past arrays i d h =
    let front = take (i + 1) arrays in
    let all : joined_buffers arrays ≡ joined_buffers front ++ joined_buffers (drop (i + 1) arrays) =
    ap joined_buffers (sym (take-append-drop (i + 1) arrays)) ∙ flat_map-append (λ (a : ViewArray). a.buffers) front (drop (i + 1) arrays) in
    omega (arith, ap length all, length-append (joined_buffers front) (joined_buffers (drop (i + 1) arrays)), ap length (joined_more arrays i d h), length-append (joined_buffers (take i arrays)) (get_or arrays i d).buffers)

-- ---- one view

pub nothing_placed : (buffers : List (List ℕ)) → IsView buffers zero_view
nothing_placed buffers = (omega arith, refl, refl, below)
  where
    below : AllByRecursion (λ b. b < 256) (replicate 12 0)
    below = (omega arith, (omega arith, (omega arith, (omega arith, (omega arith, (omega arith, (omega arith, (omega arith, (omega arith, (omega arith, (omega arith, (omega arith, tt))))))))))))

-- a view of no bytes is the one of zeros
nothing_left : (n : ℕ) (bs : List ℕ) → n ≤ 12 → length bs ≡ 12 → take n bs ≡ [] → n ≡ 0
nothing_left n bs h e k = omega (arith, length-take-le n bs (omega (arith, h, e)), ap length k)

pub nothing_is : (buffers : List (List ℕ)) (v : View) → IsView buffers v → view_bytes buffers v ≡ [] → v ≡ zero_view
nothing_is buffers (inline n bs) h e =
    let z : n ≡ 0 = nothing_left n bs h.0 h.1 e in
    ap (λ m. inline m bs) z ∙ ap (inline 0) (sym (ap (λ m. drop m bs) z) ∙ h.2 ∙ ap (λ m. replicate (12 - m) 0) z)
nothing_is buffers (long n p b o) h e =
    let xs = get_or buffers b [] in
    absurd (omega (arith, length-take-le n (drop o xs) (omega (arith, h.2, length-drop o xs)), ap length e, h.0))

-- a value has as many bytes as its view says
pub length_is : (buffers : List (List ℕ)) (v : View) → IsView buffers v → length (view_bytes buffers v) ≡ view_length v
length_is buffers (inline n bs) h = length-take-le n bs (omega (arith, h.0, h.1))
length_is buffers (long n p b o) h = let xs = get_or buffers b [] in length-take-le n (drop o xs) (omega (arith, h.2, length-drop o xs))

view_fits : (buffers : List (List ℕ)) (v : View) → IsView buffers v → length (view_bytes buffers v) ≤ view_limit
view_fits buffers (inline n bs) h = omega (arith, length_is buffers (inline n bs) h, h.0)
view_fits buffers (long n p b o) h = omega (arith, length_is buffers (long n p b o) h, h.4)

-- each value fits into a buffer
pub value_fits : (a : ViewArray) (i : ℕ) (v : List ℕ) → AreViews a.buffers a.views → slice_get (values_of a) i ≡ Some v → length v ≤ view_limit
value_fits a i v h e =
    packed_fits (values_of a) i v (all_map (IsView a.buffers) (λ x. length x ≤ view_limit) (view_bytes a.buffers) (view_fits a.buffers) a.views h) e

-- a view with its buffer's number raised to that of the same buffer among all
module _ (first : ℕ) (run buffers : List (List ℕ)) (is : IsRun first run buffers) (few : length buffers < 2 ^ 32) where
  pub shifted_placed : (v : View) → IsView run v → IsView buffers (shifted first v)
  shifted_placed (inline n bs) h = h
  shifted_placed (long n p b o) h =
      let e : get_or run b [] ≡ get_or buffers (first + b) [] = sym (is.same b h.1) in
      let below : first + b < length buffers = omega (arith, is.within, h.1) in (
        h.0,
        below,
        subst (λ xs. o + n ≤ length xs) e h.2,
        subst (λ xs. p ≡ take 4 (take n (drop o xs))) e h.3,
        h.4,
        omega (arith, below, few),
        h.6,
      )

  pub shifted_bytes : (v : View) → IsView run v → view_bytes buffers (shifted first v) ≡ view_bytes run v
  shifted_bytes (inline n bs) h = refl
  shifted_bytes (long n p b o) h = ap (λ xs. take n (drop o xs)) (is.same b h.1)

-- what the program makes of a view of more than twelve bytes
first_four : (xs : List ℕ) → 4 ≤ length xs → take 4 xs ≡ get_or xs 0 0 ∷ get_or xs 1 0 ∷ get_or xs 2 0 ∷ get_or xs 3 0 ∷ []
first_four [] h = absurd (omega (arith, h))
first_four (a ∷ []) h = absurd (omega (arith, h))
first_four (a ∷ b ∷ []) h = absurd (omega (arith, h))
first_four (a ∷ b ∷ c ∷ []) h = absurd (omega (arith, h))
first_four (a ∷ b ∷ c ∷ d ∷ xs) h = refl

prefix_is : (bs : List ℕ) (v : View) → bs ≡ bytes_of v → IsPlaced v → 12 < view_length v → get_or bs 4 0 ∷ get_or bs 5 0 ∷ get_or bs 6 0 ∷ get_or bs 7 0 ∷ [] ≡ prefix_of v
prefix_is bs (inline n xs) e h l = absurd (omega (arith, h.0, l))
prefix_is bs (long n p b o) e h l =
    let four : take 4 (drop 4 bs) ≡ p = ap (λ xs. take 4 (drop 4 xs)) e ∙ prefix_at (long n p b o) h in
    let enough : 4 ≤ length (drop 4 bs) = omega (arith, ap length four, h.1, length-take 4 (drop 4 bs)) in
    at_four bs ∙ sym (first_four (drop 4 bs) enough) ∙ four
  where
    at_four : (bs : List ℕ) → get_or bs 4 0 ∷ get_or bs 5 0 ∷ get_or bs 6 0 ∷ get_or bs 7 0 ∷ [] ≡ get_or (drop 4 bs) 0 0 ∷ get_or (drop 4 bs) 1 0 ∷ get_or (drop 4 bs) 2 0 ∷ get_or (drop 4 bs) 3 0 ∷ []
    at_four bs =
        ap₂ (λ x xs. x ∷ xs) (sym (get_or-drop 4 bs 0 0)) (ap₂ (λ x xs. x ∷ xs) (sym (get_or-drop 4 bs 1 0)) (ap₂ (λ x xs. x ∷ xs) (sym (get_or-drop 4 bs 2 0)) (ap (λ x. x ∷ []) (sym (get_or-drop 4 bs 3 0)))))

shift_parts : (first : ℕ) (v : View) → 12 < view_length v → IsPlaced v → long (view_length v) (prefix_of v) (first + buffer_of v) (offset_of v) ≡ shifted first v
shift_parts first (inline n bs) l h = absurd (omega (arith, h.0, l))
shift_parts first (long n p b o) l h = refl

pub shift_is : (first : ℕ) (v : View) (bs : List ℕ) (n b o : ℕ) → bs ≡ bytes_of v → IsPlaced v → 12 < n → n ≡ view_length v → b ≡ buffer_of v → o ≡ offset_of v
    → long n (get_or bs 4 0 ∷ get_or bs 5 0 ∷ get_or bs 6 0 ∷ get_or bs 7 0 ∷ []) (first + b) o ≡ shifted first v
shift_is first v bs n b o e h l size buffer offset =
    let large : 12 < view_length v = omega (arith, l, size) in
    ap (λ k. long k (get_or bs 4 0 ∷ get_or bs 5 0 ∷ get_or bs 6 0 ∷ get_or bs 7 0 ∷ []) (first + b) o) size
    ∙ ap (λ q. long (view_length v) q (first + b) o) (prefix_is bs v e h large)
    ∙ ap (λ k. long (view_length v) (prefix_of v) (first + k) o) buffer
    ∙ ap (long (view_length v) (prefix_of v) (first + buffer_of v)) offset
    ∙ shift_parts first v large h

-- ---- the slot at a position

part_more : {A : Type 0} (o n : ℕ) (xs : List A) (d : A) → o + n < length xs → part o (suc n) xs ≡ part o n xs ++ get_or xs (o + n) d ∷ []
part_more o n xs d h =
    let q : suc n ≡ n + 1 = omega arith in
    ap (λ k. part o k xs) q ∙ take_more (drop o xs) n d (omega (arith, h, length-drop o xs)) ∙ ap (λ x. part o n xs ++ x ∷ []) (get_or-drop o xs n d)

masked_at : (bits : List Bool) (xs : List Slot) (i : ℕ) (d : Slot) → length bits ≡ length xs → i < length xs
    → get_or (masked_by bits xs) i d ≡ cond (get_or bits i false) (get_or xs i d) null
masked_at [] [] i d e h = absurd (omega (arith, h))
masked_at [] (x ∷ xs) i d e h = absurd (omega (arith, e))
masked_at (b ∷ bits) [] i d e h = absurd (omega (arith, e))
masked_at (b ∷ bits) (x ∷ xs) zero d e h = refl
masked_at (b ∷ bits) (x ∷ xs) (suc i) d e h = masked_at bits xs i d (omega (arith, e)) (omega (arith, h))

slot_by : (m : Option Bits) (xs : List Slot) (i : ℕ) (d : Slot) → MaskHasLength m (length xs) → i < length xs
    → get_or (masked m xs) i d ≡ cond (valid_at m i) (get_or xs i d) null
slot_by None xs i d f h = refl
slot_by (Some b) xs i d f h = masked_at b.bits xs i d f h

length-view_slots : (buffers : List (List ℕ)) (vs : List View) → length (view_slots buffers vs) ≡ length vs
length-view_slots buffers vs = length-map (map (view_bytes buffers) vs) bytes ∙ length-map vs (view_bytes buffers)

pub values_join : (buffers : List (List ℕ)) (vs ws : List View) → values_in buffers (vs ++ ws) ≡ values_in buffers vs ++ values_in buffers ws
values_join buffers vs ws = map-append (view_bytes buffers) vs ws

pub texts_join : (text : Bool) (xs ys : List (List ℕ)) → AreTextsIf text xs → AreTextsIf text ys → AreTextsIf text (xs ++ ys)
texts_join true xs ys h k = all_join IsUtf8 xs ys h k
texts_join false xs ys h k = tt

module _ (a : ViewArray) (fits : MaskHasLength a.mask (length a.views)) where
  slot_here : (i : ℕ) → i < length a.views → get_or (denote (view_layout a)) i null ≡ cond (valid_at a.mask i) (bytes (view_bytes a.buffers (get_or a.views i zero_view))) null
  slot_here i h =
      let vs = map (view_bytes a.buffers) a.views in
      let count = length-map a.views (view_bytes a.buffers) in
      let all = length-view_slots a.buffers a.views in
      slot_by a.mask (view_slots a.buffers a.views) i null (subst (MaskHasLength a.mask) (sym all) fits) (omega (arith, h, all))
      ∙ ap (λ x. cond (valid_at a.mask i) x null)
      (get_or-map bytes vs i [] null (omega (arith, h, count)) ∙ ap bytes (get_or-map (view_bytes a.buffers) a.views i zero_view [] h))

  slot_count : length (denote (view_layout a)) ≡ length a.views
  slot_count = by a.mask (subst (MaskHasLength a.mask) (sym (length-view_slots a.buffers a.views)) fits) ∙ length-view_slots a.buffers a.views
    where
      some : (bits : List Bool) (xs : List Slot) → length bits ≡ length xs → length (masked_by bits xs) ≡ length xs
      some [] xs e = refl
      some (b ∷ bits) [] e = refl
      some (b ∷ bits) (x ∷ xs) e = ap suc (some bits xs (omega (arith, e)))

      by : (m : Option Bits) → MaskHasLength m (length (view_slots a.buffers a.views)) → length (masked m (view_slots a.buffers a.views)) ≡ length (view_slots a.buffers a.views)
      by None f = refl
      by (Some b) f = some b.bits (view_slots a.buffers a.views) f

  one_stands : (i : ℕ) → i < length a.views → StandsFor IsEmptyValue (bytes (slot_value a i)) (get_or (denote (view_layout a)) i null)
  one_stands i h = subst (StandsFor IsEmptyValue (bytes (slot_value a i))) (sym (slot_here i h)) (by (valid_at a.mask i))
    where
      v : View
      v = get_or a.views i zero_view

      by : (b : Bool) → StandsFor IsEmptyValue (bytes (cond b (view_bytes a.buffers v) [])) (cond b (bytes (view_bytes a.buffers v)) null)
      by true = record { same = λ e. refl; blank = λ e. absurd (cc) }
      by false = record { same = λ e. absurd (cc); blank = λ e. refl }

  -- the values of n slots stand for them
  pub values_stand : (o n : ℕ) → o + n ≤ length a.views → StandFor IsEmptyValue (map bytes (slot_values a o n)) (part o n (denote (view_layout a)))
  values_stand o zero h = tt
  values_stand o (suc n) h =
      let here : o + n < length a.views = omega (arith, h) in
      let xs = slot_values a o n in
      let x = slot_value a (o + n) in
      subst (λ ys. StandFor IsEmptyValue ys (part o (suc n) (denote (view_layout a)))) (sym (map-append bytes xs (x ∷ [])))
      (subst (StandFor IsEmptyValue (map bytes xs ++ map bytes (x ∷ []))) (sym (part_more o n (denote (view_layout a)) null (omega (arith, here, slot_count))))
      (stand_join IsEmptyValue (map bytes xs) (part o n (denote (view_layout a))) (map bytes (x ∷ [])) (get_or (denote (view_layout a)) (o + n) null ∷ [])
      (values_stand o n (omega (arith, h))) (one_stands (o + n) here, tt)))

-- the value at a slot is UTF-8 where all are
one_text : (text : Bool) (a : ViewArray) (i : ℕ) → i < length a.views → AreTextsIf text (values_in a.buffers a.views) → AreTextsIf text (slot_value a i ∷ [])
one_text false a i h k = tt
one_text true a i h k = (by (valid_at a.mask i), tt)
  where
    v : View
    v = get_or a.views i zero_view

    here : IsUtf8 (view_bytes a.buffers v)
    here =
        subst IsUtf8 (get_or-map (view_bytes a.buffers) a.views i zero_view [] h)
        (all_at IsUtf8 (values_in a.buffers a.views) i [] (omega (arith, h, length-map a.views (view_bytes a.buffers))) k)

    by : (b : Bool) → IsUtf8 (cond b (view_bytes a.buffers v) [])
    by true = here
    by false = ([], (refl, refl))

pub no_texts : (text : Bool) → AreTextsIf text []
no_texts true = tt
no_texts false = tt

pub values_texts : (text : Bool) (a : ViewArray) (o n : ℕ) → o + n ≤ length a.views → AreTextsIf text (values_in a.buffers a.views) → AreTextsIf text (slot_values a o n)
values_texts text a o zero h k = no_texts text
values_texts text a o (suc n) h k =
    texts_join text (slot_values a o n) (slot_value a (o + n) ∷ []) (values_texts text a o n (omega (arith, h)) k) (one_text text a (o + n) (omega (arith, h)) k)

-- ---- the views for slots among the buffers of all

module _ (a : ViewArray) (first : ℕ) (buffers : List (List ℕ)) (is : IsRun first a.buffers buffers) (few : length buffers < 2 ^ 32) (placed : AreViews a.buffers a.views) where
  one_placed : (i : ℕ) → i < length a.views → IsView buffers (slot_view first a i) × (view_bytes buffers (slot_view first a i) ≡ slot_value a i)
  one_placed i h = by (valid_at a.mask i)
    where
      v : View
      v = get_or a.views i zero_view

      here : IsView a.buffers v
      here = all_at (IsView a.buffers) a.views i zero_view h placed

      by : (b : Bool) → IsView buffers (cond b (shifted first v) zero_view) × (view_bytes buffers (cond b (shifted first v) zero_view) ≡ cond b (view_bytes a.buffers v) [])
      by true = (shifted_placed first a.buffers buffers is few v here, shifted_bytes first a.buffers buffers is few v here)
      by false = (nothing_placed buffers, refl)

  pub run_placed : (o n : ℕ) → o + n ≤ length a.views → AreViewsOf buffers (slot_views first a o n) (slot_values a o n)
  run_placed o zero h = (tt, refl)
  run_placed o (suc n) h =
      let before = run_placed o n (omega (arith, h)) in
      let here = one_placed (o + n) (omega (arith, h)) in
      let vs = slot_views first a o n in
      let w = slot_view first a (o + n) in (
        all_join (IsView buffers) vs (w ∷ []) before.0 (here.0, tt),
        values_join buffers vs (w ∷ []) ∙ ap₂ (λ xs x. xs ++ x ∷ []) before.1 here.1,
      )

-- a view says how many bytes its value has
pub slot_length : (a : ViewArray) (first i : ℕ) → AreViews a.buffers a.views → i < length a.views → view_length (slot_view first a i) ≡ length (slot_value a i)
slot_length a first i placed h = by (valid_at a.mask i)
  where
    v : View
    v = get_or a.views i zero_view

    same : (w : View) → view_length (shifted first w) ≡ view_length w
    same (inline n bs) = refl
    same (long n p b o) = refl

    by : (b : Bool) → view_length (cond b (shifted first v) zero_view) ≡ length (cond b (view_bytes a.buffers v) [])
    by true = same v ∙ sym (length_is a.buffers v (all_at (IsView a.buffers) a.views i zero_view h placed))
    by false = refl
