-- The lists of an array that aren't null.
use Rattle.std.proofs.Common.{◌≡◌, ℕ, zero, suc, ◌+◌, ◌-◌, ◌<◌, ◌≤◌, Bool, true, false, cond, List, [], ◌∷◌, ◌++◌, length, map, take, drop, slice_get, flat_map, Option, Some, None, refl, ap, sym, ◌∙◌, subst, arith}
use Rattle.std.proofs.lemmas.Grind.{flat_map-append}
use Rattle.std.proofs.lemmas.List.{append-nil, take_all}
use Rattle.std.proofs.lemmas.List.Sums.{sum_by-cons}
use Rattle.std.specs.Prelude.{not}
use Rattle.std.specs.Option.{option_to_list}
use Rattle.std.specs.Simd.Lanes.{zip2}
use Rattle.arrow_buffers.specs.Bits.{count_unset}
use Rattle.arrow_flat.specs.Primitives.{MaskHasLength, masked_values, unset_in}
use Rattle.arrow_flat.proofs.Masked.{left_first, left_last, null_at, slot_at, slots_length}
use Rattle.arrow_layout.specs.Denote.{validity_of}
use Rattle.arrow_layout.specs.Layouts.{Layout, lists, length_of}
use Rattle.arrow_layout.specs.Masks.{null_count_of, valid_in}
use Rattle.arrow_layout.specs.WellFormed.{WellFormed}
use Rattle.arrow_nested.specs.Lists.{IsLists, list_values, lists_between, non_null_values, valid_list_values}
use Rattle.arrow_nested.proofs.Lists.{values_count, values_covered}

-- an item of a list
pub item_at : {A : Type 0} (xs : List A) (i : ℕ) → i < length xs → (x : A) × (slice_get xs i ≡ Some x)
item_at [] i h = absurd (omega arith)
item_at (x ∷ xs) zero h = (x, refl)
item_at (x ∷ xs) (suc i) h = item_at xs i (omega arith)

-- ---- slots

-- by the test for nulls
pub unset : (r b : Bool) → r ≡ not b → r ≡ true → b ≡ false
unset r true e t = sym t ∙ e
unset r false e t = refl

pub null_slot : (l : Layout) (i : ℕ) → IsLists l → WellFormed l → i < length_of l → valid_in l i ≡ false → slice_get (valid_list_values l) i ≡ Some None
null_slot (lists t m os l) i s w h e =
    let k = lists t m os l in
    null_at m (list_values k) i (values_covered k s w) (subst (λ n. i < n) (sym (values_count k s)) h) e
null_slot _ i s w h e = absurd s

pub valid_slot : (l : Layout) (i : ℕ) (x : Layout) → IsLists l → WellFormed l → valid_in l i ≡ true → slice_get (list_values l) i ≡ Some x → slice_get (valid_list_values l) i ≡ Some (Some x)
valid_slot (lists t m os l) i x s w e h =
    let k = lists t m os l in
    slot_at m (list_values k) i x (values_covered k s w) h ∙ ap (λ b. Some (cond b (Some x) None)) e
valid_slot _ i x s w e h = absurd s

-- ---- what is left

module _ (slots : List (Option Layout)) (a b : ℕ) where
  pub none_between : b ≤ a → lists_between slots a b ≡ []
  none_between h = let z : b - a ≡ 0 = omega arith in ap (λ n. flat_map option_to_list (take n (drop a slots))) z

  pub skip_first : (left : List Layout) → slice_get slots a ≡ Some None → a < b → lists_between slots a b ≡ left → lists_between slots (a + 1) b ≡ left
  skip_first left e h same = sym (ap (flat_map option_to_list) (left_first slots a b None e h)) ∙ same

  pub keep_first : (x : Layout) → slice_get slots a ≡ Some (Some x) → a < b → lists_between slots a b ≡ x ∷ lists_between slots (a + 1) b
  keep_first x e h = ap (flat_map option_to_list) (left_first slots a b (Some x) e h)

  pub skip_last : (left : List Layout) → slice_get slots (b - 1) ≡ Some None → a < b → lists_between slots a b ≡ left → lists_between slots a (b - 1) ≡ left
  skip_last left e h same =
      let front = take (b - 1 - a) (drop a slots) in
      sym (ap (flat_map option_to_list) (left_last slots a b None e h) ∙ flat_map-append option_to_list front (None ∷ []) ∙ append-nil (flat_map option_to_list front)) ∙ same

  pub keep_last : (x : Layout) → slice_get slots (b - 1) ≡ Some (Some x) → a < b → lists_between slots a b ≡ lists_between slots a (b - 1) ++ x ∷ []
  keep_last x e h =
      let front = take (b - 1 - a) (drop a slots) in
      ap (flat_map option_to_list) (left_last slots a b (Some x) e h) ∙ flat_map-append option_to_list front (Some x ∷ [])

-- there is a slot between, where a list is
below : (slots : List (Option Layout)) (a b : ℕ) → (length (lists_between slots a b) ≡ 0 → ⊥) → a < b
below slots a b h = by (b - a) refl
  where
    by : (d : ℕ) → b - a ≡ d → a < b
    by zero e = absurd (h (ap (λ n. length (flat_map option_to_list (take n (drop a slots)))) e))
    by (suc d) e = omega (arith, e)

-- the list of slot i of an array
abbrev ListAt : Layout → ℕ → Layout → Type 0
ListAt l i x = slice_get (list_values l) i ≡ Some x

module _ (l : Layout) (s : IsLists l) (w : WellFormed l) (front back left i : ℕ) (within : back ≤ length_of l) (count : length (lists_between (valid_list_values l) front back) ≡ left) (more : left ≡ 0 → ⊥) where
  pub step_first : lists_between (valid_list_values l) i back ≡ lists_between (valid_list_values l) front back → (i < back → valid_in l i ≡ true)
      → (x : Layout) × ListAt l i x × (lists_between (valid_list_values l) front back ≡ x ∷ lists_between (valid_list_values l) (i + 1) back) × (i < back)
  step_first same valid =
      let slots = valid_list_values l in
      let b : i < back = below slots i back (λ z. more (sym count ∙ (ap length (sym same) ∙ z))) in
      let x = item_at (list_values l) i (subst (λ n. i < n) (sym (values_count l s)) (omega (arith, b, within))) in
      (x.0, x.1, sym same ∙ keep_first slots i back x.0 (valid_slot l i x.0 s w (valid b) x.1) b, b)

  -- i is the place behind the last slot that isn't null
  pub step_last : i ≤ back → lists_between (valid_list_values l) front i ≡ lists_between (valid_list_values l) front back → (front < i → valid_in l (i - 1) ≡ true)
      → (x : Layout) × ListAt l (i - 1) x × (lists_between (valid_list_values l) front back ≡ lists_between (valid_list_values l) front (i - 1) ++ x ∷ []) × (front < i)
  step_last top same valid =
      let slots = valid_list_values l in
      let b : front < i = below slots front i (λ z. more (sym count ∙ (ap length (sym same) ∙ z))) in
      let x = item_at (list_values l) (i - 1) (subst (λ n. i - 1 < n) (sym (values_count l s)) (omega (arith, b, top, within))) in
      (x.0, x.1, sym same ∙ keep_last slots front i x.0 (valid_slot l (i - 1) x.0 s w (valid b) x.1) b, b)

pub all_between : (l : Layout) → IsLists l → WellFormed l → lists_between (valid_list_values l) 0 (length_of l) ≡ non_null_values l
all_between l s w =
    let slots = valid_list_values l in
    let n : length slots ≡ length_of l = slots_length (validity_of l) (list_values l) (values_covered l s w) ∙ values_count l s in
    ap (flat_map option_to_list) (take_all (length_of l - 0) slots (omega (arith, n)))

-- ---- how many

valid_count : {A : Type 0} (bits : List Bool) (xs : List A) → length bits ≡ length xs
    → length (flat_map option_to_list (zip2 (λ bit x. cond bit (Some x) None) bits xs)) + count_unset bits ≡ length xs
valid_count [] [] h = refl
valid_count [] (x ∷ xs) h = absurd (omega arith)
valid_count (b ∷ bits) [] h = absurd (omega arith)
valid_count (true ∷ bits) (x ∷ xs) h =
    let r = valid_count bits xs (omega arith) in
    let u : count_unset (true ∷ bits) ≡ 0 + count_unset bits = sum_by-cons (λ b. cond (not b) 1 0) true bits in
    let v : length (flat_map option_to_list (zip2 (λ bit x. cond bit (Some x) None) (true ∷ bits) (x ∷ xs))) ≡ suc (length (flat_map option_to_list (zip2 (λ bit x. cond bit (Some x) None) bits xs))) = refl in
    omega (arith, r, u, v)
valid_count (false ∷ bits) (x ∷ xs) h =
    let r = valid_count bits xs (omega arith) in
    let u : count_unset (false ∷ bits) ≡ 1 + count_unset bits = sum_by-cons (λ b. cond (not b) 1 0) false bits in
    let v : length (flat_map option_to_list (zip2 (λ bit x. cond bit (Some x) None) (false ∷ bits) (x ∷ xs))) ≡ length (flat_map option_to_list (zip2 (λ bit x. cond bit (Some x) None) bits xs)) = refl in
    omega (arith, r, u, v)

some_count : {A : Type 0} (xs : List A) → length (flat_map option_to_list (map Some xs)) ≡ length xs
some_count [] = refl
some_count (x ∷ xs) = ap suc (some_count xs)

slots_left : {A : Type 0} (m : _) (xs : List A) → MaskHasLength m (length xs) → length (flat_map option_to_list (masked_values m xs)) + unset_in m ≡ length xs
slots_left None xs h = let r = some_count xs in omega (arith, r)
slots_left (Some b) xs h = valid_count b.bits xs h

pub non_null_count : (l : Layout) → IsLists l → WellFormed l → length (non_null_values l) + null_count_of l ≡ length_of l
non_null_count (lists t m os l) s w = let k = lists t m os l in slots_left m (list_values k) (values_covered k s w) ∙ values_count k s
non_null_count _ s w = absurd s
