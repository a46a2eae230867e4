-- The values of a growable of views.
use Rattle.std.proofs.Common.{◌≡◌, ℕ, zero, suc, ◌+◌, ◌<◌, ◌≤◌, ◌^◌, Bool, true, false, List, [], ◌∷◌, ◌++◌, length, map, sum, take, drop, get_or, replicate, Option, Some, None, Ok, Err, refl, ap, ap₂, sym, ◌∙◌, subst, arith, nat_lt, ltb-true, ltb-false, length-append}
use Rattle.std.specs.Prelude.{⊤, IsErrOf, OnErr, OnOk, Result}
use Rattle.std.proofs.lemmas.List.{get_or_read, length-map, length-replicate, length-take, drop-append-le, map-append, take-append-drop, take-append-le, take_all}
use Rattle.std.proofs.lemmas.List.Sums.{sum-map, sum_by-append, sum_by-cons}
use Rattle.arrow_buffers.specs.Bits.{Bits}
use Rattle.arrow_types.specs.Seen.{seen}
use Rattle.arrow_types.specs.TypeData.{TypeData}
use Rattle.arrow_types.specs.declared.datatype.ArrowDataType.{ArrowDataType}
use Rattle.arrow_types.specs.declared.error.GrowError.{GrowError}
use Rattle.arrow_types.specs.declared.error.GrowError.TheVariants as error
use Rattle.arrow_flat.specs.Slots.{Slot, null, bool, num, bytes, items, parts, chosen, is_valid}
use Rattle.arrow_flat.specs.Pieces.{AreTextsIf}
use Rattle.arrow_flat.specs.Views.{View, IsView, view_bytes, zero_view}
use Rattle.arrow_flat.proofs.Lists.{all_join, all_replicate, map-map}
use Rattle.arrow_views.specs.ViewArrays.{AreViews, ViewArray, IsSound, physical_view, values_in, view_array}
use Rattle.arrow_layout.specs.Canon.{bytes_or}
use Rattle.arrow_layout.specs.Canonical.{AllUnset}
use Rattle.arrow_layout.specs.Cut.{part}
use Rattle.arrow_layout.specs.Denote.{denote, view_slots}
use Rattle.arrow_layout.specs.Forms.{form_of, views_of}
use Rattle.arrow_layout.specs.Layouts.{length_of, views}
use Rattle.arrow_layout.specs.WellFormed.{mask_bits}
use Rattle.arrow_meaning.specs.Nodes.{view_layout}
use Rattle.arrow_meaning.proofs.FlatLayouts.{view_form}
use Rattle.arrow_grow_flat.specs.Grown.{Refuses, layout_at}
use Rattle.arrow_grow_flat.specs.SharedViews.{AreGrowingViews, AreLongValues, AreShared, AreViewsOf, IsEmptyValue, KeepViews, buffer_starts, byte_count, joined_buffers, long_buffers, slot_value, slot_values, slot_views, view_values}
use Rattle.arrow_grow_flat.specs.Values.{AreStored, GrowsValues, IsOf, StandsFor, StandFor, StatesNulls, Values}
use Rattle.arrow_grow_flat.specs.declared.view.LongValues.{LongValues}
use Rattle.arrow_grow_flat.proofs.Making.{layout_map}
use Rattle.arrow_grow_flat.proofs.Numbers.{map-replicate}
use Rattle.arrow_grow_flat.proofs.Rooms.{room_from, room_to, weight}
use Rattle.arrow_grow_flat.proofs.SharedViews.{IsRun, length-starts, nothing_is, no_texts, nothing_placed, run_of, run_placed, texts_join, values_join, values_stand, values_texts}
use Rattle.arrow_grow_flat.proofs.Stands.{stand_join, stand_length, stand_nulls}

-- ---- how many bytes the values have

pub count_join : (xs ys : List (List ℕ)) → byte_count (xs ++ ys) ≡ byte_count xs + byte_count ys
count_join xs ys = sum-map length (xs ++ ys) ∙ sum_by-append length xs ys ∙ sym (ap₂ (λ n m. n + m) (sum-map length xs) (sum-map length ys))

count_cons : (x : List ℕ) (xs : List (List ℕ)) → byte_count (x ∷ xs) ≡ length x + byte_count xs
count_cons x xs = sum_by-cons (λ n. n) (length x) (map length xs)

-- with one value more
pub count_push : (xs : List (List ℕ)) (x : List ℕ) → byte_count (xs ++ x ∷ []) ≡ byte_count xs + length x
count_push xs x = omega (arith, count_join xs (x ∷ []), count_cons x [])

count_nothing : (n : ℕ) → byte_count (replicate n []) ≡ 0
count_nothing zero = refl
count_nothing (suc n) = omega (arith, count_cons [] (replicate n []), count_nothing n)

-- the value at a slot, and those before it, have at most the bytes of all
pub count_past : (a : ViewArray) (o n len : ℕ) → n < len → byte_count (slot_values a o n) + length (slot_value a (o + n)) ≤ byte_count (slot_values a o len)
count_past a o n zero h = absurd (omega (arith, h))
count_past a o n (suc len) h = by (nat_lt n len) refl (count_past a o n len)
  where
    here : byte_count (slot_values a o (suc len)) ≡ byte_count (slot_values a o len) + length (slot_value a (o + len))
    here = count_push (slot_values a o len) (slot_value a (o + len))

    by : (b : Bool) → nat_lt n len ≡ b
        → (n < len → byte_count (slot_values a o n) + length (slot_value a (o + n)) ≤ byte_count (slot_values a o len))
        → byte_count (slot_values a o n) + length (slot_value a (o + n)) ≤ byte_count (slot_values a o (suc len))
    by true e before = omega (arith, here, before (ltb-true n len e))
    by false e before =
        let same : n ≡ len = omega (arith, h, ltb-false n len e) in
        omega (arith, here, ap (λ k. byte_count (slot_values a o k)) same, ap (λ k. length (slot_value a (o + k))) same)

weight_cons : (x : Slot) (s : List Slot) → weight (x ∷ s) ≡ length (bytes_or [] x) + weight s
weight_cons x s = sum_by-cons (λ n. n) (length (bytes_or [] x)) (map (λ y. length (bytes_or [] y)) s)

weight_is : (xs : List (List ℕ)) → weight (map bytes xs) ≡ byte_count xs
weight_is xs = ap sum (map-map (λ y. length (bytes_or [] y)) bytes xs)

-- a slot weighs what the value that stands for it does
one_weight : (v x : Slot) → StandsFor IsEmptyValue v x → length (bytes_or [] x) ≡ length (bytes_or [] v)
one_weight v null h = ap (λ y. length (bytes_or [] y)) (sym (h.blank refl))
one_weight v (bool b) h = ap (λ y. length (bytes_or [] y)) (sym (h.same refl))
one_weight v (num zs) h = ap (λ y. length (bytes_or [] y)) (sym (h.same refl))
one_weight v (bytes bs) h = ap (λ y. length (bytes_or [] y)) (sym (h.same refl))
one_weight v (items xs) h = ap (λ y. length (bytes_or [] y)) (sym (h.same refl))
one_weight v (parts xs) h = ap (λ y. length (bytes_or [] y)) (sym (h.same refl))
one_weight v (chosen t x) h = ap (λ y. length (bytes_or [] y)) (sym (h.same refl))

stand_weight : (vs s : List Slot) → StandFor IsEmptyValue vs s → weight s ≡ weight vs
stand_weight [] [] h = refl
stand_weight [] (x ∷ s) h = absurd h
stand_weight (v ∷ vs) [] h = absurd h
stand_weight (v ∷ vs) (x ∷ s) h = weight_cons x s ∙ ap₂ (λ n m. n + m) (one_weight v x h.0) (stand_weight vs s h.1) ∙ sym (weight_cons v vs)

-- ---- an array over them is tidy

nothing_under : (b : Bool) (buffers : List (List ℕ)) (v : View) (x : Slot) → is_valid x ≡ b → IsView buffers v → StandsFor IsEmptyValue (bytes (view_bytes buffers v)) x
    → b ≡ false → v ≡ zero_view
nothing_under b buffers v x e h s f = nothing_is buffers v h (inner (view_bytes buffers v) (s.blank (e ∙ f)))
  where
    inner : (bs : List ℕ) → bytes bs ≡ bytes [] → bs ≡ []
    inner bs e = cc

tidy_by : (buffers : List (List ℕ)) (vs : List View) (s : List Slot) → AreViews buffers vs → StandFor IsEmptyValue (view_slots buffers vs) s → AllUnset (λ v. v ≡ zero_view) (map is_valid s) vs
tidy_by buffers [] [] h k = tt
tidy_by buffers [] (x ∷ s) h k = absurd k
tidy_by buffers (v ∷ vs) [] h k = absurd k
tidy_by buffers (v ∷ vs) (x ∷ s) h k = by (is_valid x) refl (tidy_by buffers vs s h.1 k.1)
  where
    by : (b : Bool) → is_valid x ≡ b → AllUnset (λ w. w ≡ zero_view) (map is_valid s) vs → AllUnset (λ w. w ≡ zero_view) (b ∷ map is_valid s) (v ∷ vs)
    by true e rest = rest
    by false e rest = (nothing_under false buffers v x e h.0 k.0 refl, rest)

no_nulls : (n : ℕ) (vs : List View) → AllUnset (λ v. v ≡ zero_view) (replicate n true) vs
no_nulls zero vs = tt
no_nulls (suc n) [] = tt
no_nulls (suc n) (v ∷ vs) = no_nulls n vs

tidy_under : (m : Option Bits) (buffers : List (List ℕ)) (vs : List View) (s : List Slot) → AreViews buffers vs → StandFor IsEmptyValue (view_slots buffers vs) s → StatesNulls m s
    → AllUnset (λ v. v ≡ zero_view) (mask_bits m (length vs)) vs
tidy_under None buffers vs s h k e = no_nulls (length vs) vs
tidy_under (Some b) buffers vs s h k e = subst (λ bits. AllUnset (λ v. v ≡ zero_view) bits vs) (sym e) (tidy_by buffers vs s h k)

-- the array of these views under a mask
pub array_of : (t d : ArrowDataType) (arrays : List ViewArray) (buffers cs : List (List ℕ)) (vs us : List View) (m : Option Bits)
    → AreViews buffers vs → d ≡ t → us ≡ vs → cs ≡ buffers
    → IsOf IsEmptyValue m (view_values (seen t) arrays buffers vs) (view_layout (view_array d us cs m))
array_of t d arrays buffers cs vs us m h e k j =
    let same : view_layout (view_array d us cs m) ≡ views (seen t) m vs buffers =
    ap (λ x. views (seen x) m us cs) e ∙ ap (λ x. views (seen t) m x cs) k ∙ ap (views (seen t) m vs) j in
    subst (IsOf IsEmptyValue m (view_values (seen t) arrays buffers vs)) (sym same)
    (record { of_type = refl; values = refl; mask = refl; plain = λ p. p; tidy = λ s st states. tidy_under m buffers vs s h st states })

-- ---- more values

-- views that stay the same in other buffers
pub kept_views : (bs cs : List (List ℕ)) → KeepViews bs cs → (vs : List View) → AreViews bs vs → AreViewsOf cs vs (values_in bs vs)
kept_views bs cs keep [] h = (tt, refl)
kept_views bs cs keep (v ∷ vs) h =
    let one = keep v h.0 in let rest = kept_views bs cs keep vs h.1 in ((one.0, rest.0), ap₂ (λ x xs. x ∷ xs) one.1 rest.1)

-- one view more after those of n slots of an array
pub one_more : (bs cs : List (List ℕ)) (front xs us : List View) (w : View) (a : ViewArray) (o i : ℕ) (x : List ℕ) → KeepViews bs cs → take (length front) xs ≡ front
    → AreViewsOf bs (drop (length front) xs) (slot_values a o i) → IsView cs w × (view_bytes cs w ≡ x) → x ≡ slot_value a (o + i) → us ≡ xs ++ w ∷ []
    → (take (length front) us ≡ front) × AreViewsOf cs (drop (length front) us) (slot_values a o (i + 1))
one_more bs cs front xs us w a o i x keep first are one same e =
    let n = length front in
    let within : n ≤ length xs = omega (arith, ap length first, length-take n xs) in
    let ws = drop n xs in
    let kept = kept_views bs cs keep ws are.0 in
    let next : suc i ≡ i + 1 = omega arith in
    let cut : drop n us ≡ ws ++ w ∷ [] = ap (drop n) e ∙ drop-append-le n xs (w ∷ []) within in (
      ap (take n) e ∙ take-append-le n xs (w ∷ []) within ∙ first,
      subst (λ vs. AreViewsOf cs vs (slot_values a o (i + 1))) (sym cut) (
        all_join (IsView cs) ws (w ∷ []) kept.0 (one.0, tt),
        values_join cs ws (w ∷ []) ∙ ap₂ (λ ys y. ys ++ y ∷ []) (kept.1 ∙ are.1) (one.1 ∙ same) ∙ ap (slot_values a o) next,
      ),
    )

-- more views after those
pub more_views : (bs cs : List (List ℕ)) (vs us : List View) (values : List (List ℕ)) → KeepViews bs cs → AreViews bs vs → take (length vs) us ≡ vs
    → AreViewsOf cs (drop (length vs) us) values → AreViewsOf cs us (values_in bs vs ++ values)
more_views bs cs vs us values keep h front more =
    let ws = drop (length vs) us in
    let all : vs ++ ws ≡ us = ap (λ xs. xs ++ ws) (sym front) ∙ take-append-drop (length vs) us in
    let kept = kept_views bs cs keep vs h in
    subst (λ xs. AreViewsOf cs xs (values_in bs vs ++ values)) all
    (all_join (IsView cs) vs ws kept.0 more.0, values_join cs vs ws ∙ ap₂ (λ xs ys. xs ++ ys) kept.1 more.1)

module _ (text : Bool) (t : TypeData) (arrays : List ViewArray) (bs : List (List ℕ)) (vs : List View) (total : ℕ) (inside : AreGrowingViews text t arrays bs vs total) where
  abbrev before : Values
  before = view_values t arrays bs vs

  form : form_of t ≡ views_of text
  form = view_form text t inside.stored.stored

  stored_with : (cs : List (List ℕ)) (us : List View) → AreStored (physical_view text) (view_values t arrays cs us)
  stored_with cs us = record {
    stored = inside.stored.stored;
    sound = record { form = inside.stored.sound.form; typed = inside.stored.sound.typed; few = inside.stored.sound.few };
  }

  -- where none are left
  pub inside_none : (cs : List (List ℕ)) (us : List View) → us ≡ [] → AreGrowingViews text t arrays cs us 0
  inside_none cs us e =
      subst (λ xs. AreGrowingViews text t arrays cs xs 0) (sym e)
      (record { stored = stored_with cs []; placed = tt; texts = no_texts text; counted = refl; within = omega arith })

  -- where a call was refused
  pub inside_same : (cs : List (List ℕ)) (us : List View) (n : ℕ) → KeepViews bs cs → us ≡ vs → n ≡ total → AreGrowingViews text t arrays cs us n
  inside_same cs us n keep e k =
      let kept = subst (λ xs. AreViewsOf cs xs (values_in bs vs)) (sym e) (kept_views bs cs keep vs inside.placed) in
      record {
        stored = stored_with cs us;
        placed = kept.0;
        texts = subst (AreTextsIf text) (sym kept.1) inside.texts;
        counted = k ∙ inside.counted ∙ ap byte_count (sym kept.1);
        within = omega (arith, k, inside.within);
      }

  module _ (values : List (List ℕ)) (xs : List Slot) (stand : StandFor IsEmptyValue (map bytes values) xs) where
    abbrev all : List (List ℕ)
    all = values_in bs vs ++ values

    all_stand : (s : List Slot) → StandFor IsEmptyValue (view_slots bs vs) s → StandFor IsEmptyValue (map bytes all) (s ++ xs)
    all_stand s st =
        subst (λ ys. StandFor IsEmptyValue ys (s ++ xs)) (sym (map-append bytes (values_in bs vs) values))
        (stand_join IsEmptyValue (view_slots bs vs) s (map bytes values) xs st stand)

    all_weigh : (s : List Slot) → StandFor IsEmptyValue (view_slots bs vs) s → weight (s ++ xs) ≡ total + byte_count values
    all_weigh s st =
        stand_weight (map bytes all) (s ++ xs) (all_stand s st) ∙ weight_is all ∙ count_join (values_in bs vs) values ∙ ap (λ k. k + byte_count values) (sym inside.counted)

    all_count : (s : List Slot) → StandFor IsEmptyValue (view_slots bs vs) s → length (s ++ xs) ≡ length vs + length values
    all_count s st =
        stand_length IsEmptyValue (map bytes all) (s ++ xs) (all_stand s st) ∙ length-map all bytes ∙ length-append (values_in bs vs) values
        ∙ ap (λ k. k + length values) (length-map vs (view_bytes bs))

    pub values_grow : (cs : List (List ℕ)) (us : List View) → AreViewsOf cs us all → length us < 2 ^ 64 → total + byte_count values ≤ 2 ^ 62
        → GrowsValues IsEmptyValue before xs (view_values t arrays cs us) (Ok tt)
    values_grow cs us are short small = record {
      same_type = refl;
      same_arrays = refl;
      outcome = λ s st. record {
        stand = subst (λ ys. StandFor IsEmptyValue (map bytes ys) (s ++ xs)) (sym are.1) (all_stand s st);
        room = room_from t (views_of text) (s ++ xs) tt form (
          omega (arith, all_count s st, ap length are.1, length-map us (view_bytes cs), length-append (values_in bs vs) values, length-map vs (view_bytes bs), short),
          omega (arith, all_weigh s st, small),
        );
      };
    }

    pub values_refused : (cs : List (List ℕ)) (us : List View) (e : GrowError) → (e ≡ error.Overflow → 2 ^ 62 < total + byte_count values)
        → GrowsValues IsEmptyValue before xs (view_values t arrays cs us) (Err e)
    values_refused cs us e why = record { same_type = refl; same_arrays = refl; outcome = λ s st. by e why s st }
      where
        by : (e : GrowError) → (e ≡ error.Overflow → 2 ^ 62 < total + byte_count values) → (s : List Slot) → StandFor IsEmptyValue (view_slots bs vs) s → Refuses t (s ++ xs) e
        by error.Overflow why s st = λ r. omega (arith, why refl, all_weigh s st, (room_to t (views_of text) (s ++ xs) tt form r).1)
        by error.OutOfMemory why s st = tt

    pub inside_more : (cs : List (List ℕ)) (us : List View) (n : ℕ) → AreViewsOf cs us all → AreTextsIf text values → n ≡ total + byte_count values → n ≤ 2 ^ 62
        → AreGrowingViews text t arrays cs us n
    inside_more cs us n are texts count small = record {
      stored = stored_with cs us;
      placed = are.0;
      texts = subst (AreTextsIf text) (sym are.1) (texts_join text (values_in bs vs) values inside.texts texts);
      counted = count ∙ ap (λ k. k + byte_count values) inside.counted ∙ sym (count_join (values_in bs vs) values) ∙ ap byte_count (sym are.1);
      within = small;
    }

  -- ---- values for a run of an array's slots

  module _ (a : ViewArray) (o n : ℕ) (sound : IsSound text a.dtype a.mask a.views a.buffers) (i : ℕ) (is : layout_at (map view_layout arrays) i ≡ view_layout a)
      (reached : o + n ≤ length a.views) (cs : List (List ℕ)) (us : List View) (n' : ℕ) where
    abbrev run : List (List ℕ)
    run = slot_values a o n

    run_stands : StandFor IsEmptyValue (map bytes run) (part o n (denote (layout_at (map view_layout arrays) i)))
    run_stands = subst (λ l. StandFor IsEmptyValue (map bytes run) (part o n (denote l))) (sym is) (values_stand a sound.array.fits o n reached)

    -- whatever the outcome, the values keep what they keep
    pub run_inside : (r : Result ⊤ GrowError) → KeepViews bs cs → OnOk r (AreViewsOf cs us (values_in bs vs ++ run)) → OnOk r (n' ≡ total + byte_count run) → n' ≤ 2 ^ 62
        → OnErr r ((us ≡ vs) × (n' ≡ total)) → AreGrowingViews text t arrays cs us n'
    run_inside (Ok u) keep are count small same =
        inside_more run (part o n (denote (layout_at (map view_layout arrays) i))) run_stands cs us n' are (values_texts text a o n reached sound.texts) count small
    run_inside (Err e) keep are count small same = inside_same cs us n' keep same.0 same.1

    pub run_grows : (r : Result ⊤ GrowError) → OnOk r (AreViewsOf cs us (values_in bs vs ++ run)) → OnOk r (n' ≡ total + byte_count run) → n' ≤ 2 ^ 62 → length us < 2 ^ 64
        → (IsErrOf r error.Overflow → 2 ^ 62 < total + byte_count run)
        → GrowsValues IsEmptyValue before (part o n (denote (layout_at (map view_layout arrays) i))) (view_values t arrays cs us) r
    run_grows (Ok u) are count small short why =
        values_grow run (part o n (denote (layout_at (map view_layout arrays) i))) run_stands cs us are short (omega (arith, count, small))
    run_grows (Err e) are count small short why =
        values_refused run (part o n (denote (layout_at (map view_layout arrays) i))) run_stands cs us e (λ same. why (ap Err same))

  -- ---- values for nulls

  nothing_values : (n : ℕ) → AreViewsOf bs (replicate n zero_view) (replicate n [])
  nothing_values n = (all_replicate (IsView bs) n zero_view (nothing_placed bs), map-replicate (view_bytes bs) n zero_view)

  nothing_texts : (n : ℕ) → AreTextsIf text (replicate n [])
  nothing_texts n = by text
    where
      some : (n : ℕ) → AreTextsIf true (replicate n [])
      some zero = tt
      some (suc n) = (([], (refl, refl)), some n)

      by : (b : Bool) → AreTextsIf b (replicate n [])
      by true = some n
      by false = tt

  nothing_stands : (n : ℕ) → StandFor IsEmptyValue (map bytes (replicate n [])) (replicate n null)
  nothing_stands n = subst (λ ys. StandFor IsEmptyValue ys (replicate n null)) (sym (map-replicate bytes n [])) (stand_nulls IsEmptyValue (bytes []) n refl)

  module _ (us : List View) (m k n : ℕ) (h : us ≡ take m vs ++ replicate k zero_view) (l : length vs ≤ m) (e : k ≡ n) where
    resized : us ≡ vs ++ replicate n zero_view
    resized = h ∙ ap (λ ys. ys ++ replicate k zero_view) (take_all m vs l) ∙ ap (λ j. vs ++ replicate j zero_view) e

    resized_are : AreViewsOf bs us (values_in bs vs ++ replicate n [])
    resized_are =
        let more = nothing_values n in
        subst (λ xs. AreViewsOf bs xs (values_in bs vs ++ replicate n [])) (sym resized)
        (all_join (IsView bs) vs (replicate n zero_view) inside.placed more.0, values_join bs vs (replicate n zero_view) ∙ ap (λ ys. values_in bs vs ++ ys) more.1)

    same_total : total + byte_count (replicate n []) ≡ total
    same_total = omega (arith, count_nothing n)

    pub nulls_inside : AreGrowingViews text t arrays bs us total
    nulls_inside = inside_more (replicate n []) (replicate n null) (nothing_stands n) bs us total resized_are (nothing_texts n) (sym same_total) inside.within

    pub nulls_grow : length vs + n < 2 ^ 64 → GrowsValues IsEmptyValue before (replicate n null) (view_values t arrays bs us) (Ok tt)
    nulls_grow short =
        values_grow (replicate n []) (replicate n null) (nothing_stands n) bs us resized_are
        (omega (arith, short, ap (λ zs. length zs) resized, length-append vs (replicate n zero_view), length-replicate n zero_view)) (omega (arith, same_total, inside.within))

  pub nulls_full : (n : ℕ) → 2 ^ 64 ≤ length vs + n → GrowsValues IsEmptyValue before (replicate n null) before (Err error.Overflow)
  nulls_full n h = record {
    same_type = refl;
    same_arrays = refl;
    outcome = λ s st r.
        let count = all_count (replicate n []) (replicate n null) (nothing_stands n) s st in
        omega (arith, h, count, length-replicate {A = List ℕ} n [], (room_to t (views_of text) (s ++ replicate n null) tt form r).0);
  }

-- ---- a run of an array whose buffers are shared

module _ (arrays : List ViewArray) (starts : List ℕ) (bs : List (List ℕ)) (held : AreShared arrays starts bs)
    (i : ℕ) (a : ViewArray) (first : ℕ) (named : i < length arrays) (is : a ≡ get_or arrays i a) (at : first ≡ get_or starts i first) where
  begins : first ≡ get_or (buffer_starts 0 arrays) i 0
  begins = get_or_read starts i first (omega (arith, named, ap length held.begin, length-starts 0 arrays)) at 0 ∙ ap (λ ns. get_or ns i 0) held.begin

  shared_run : IsRun first a.buffers bs
  shared_run =
      subst (IsRun first a.buffers) (sym held.joined)
      (subst (λ (b : ViewArray). IsRun first b.buffers (joined_buffers arrays)) (sym is)
      (subst (λ k. IsRun k (get_or arrays i a).buffers (joined_buffers arrays)) (sym begins) (run_of arrays i a named)))

  pub shared_numbered : first + length a.buffers < 2 ^ 32
  shared_numbered = let r = shared_run in omega (arith, r.within, held.few)

  -- the views that are appended
  pub shared_views : (vs us : List View) (o n : ℕ) → AreViews bs vs → AreViews a.buffers a.views → o + n ≤ length a.views → us ≡ vs ++ slot_views first a o n
      → AreViewsOf bs us (values_in bs vs ++ slot_values a o n)
  shared_views vs us o n placed sound h e =
      let ws = slot_views first a o n in
      let more = run_placed a first bs shared_run held.few sound o n h in
      subst (λ xs. AreViewsOf bs xs (values_in bs vs ++ slot_values a o n)) (sym e)
      (all_join (IsView bs) vs ws placed more.0, values_join bs vs ws ∙ ap (λ ys. values_in bs vs ++ ys) more.1)

-- ---- what a call of `extend` leaves

pub on_ok : {X E P Q : Type 0} (r : Result X E) → (P → Q) → OnOk r P → OnOk r Q
on_ok (Ok x) f h = f h
on_ok (Err e) f h = tt

pub on_both : {X E P Q R : Type 0} (r : Result X E) → (P → Q → R) → OnOk r P → OnOk r Q → OnOk r R
on_both (Ok x) f h k = f h k
on_both (Err e) f h k = tt

-- the slots of an array that growing views take
module _ (t : TypeData) (arrays : List ViewArray) (bs : List (List ℕ)) (vs : List View) (v : Values) (view : view_values t arrays bs vs ≡ v) (i : ℕ) where
  pub named_in : i < length v.arrays → i < length arrays
  named_in h = omega (arith, subst (λ (w : Values). i < length w.arrays) (sym view) h, length-map arrays view_layout)

  module _ (a : ViewArray) (is : a ≡ get_or arrays i a) (named : i < length v.arrays) where
    layout_is : layout_at (map view_layout arrays) i ≡ view_layout a
    layout_is = sym (ap view_layout is ∙ layout_map view_layout arrays i a (named_in named))

    pub reached_in : (o n : ℕ) → o + n ≤ length_of (layout_at v.arrays i) → o + n ≤ length a.views
    reached_in o n h = subst (λ l. o + n ≤ length_of l) layout_is (subst (λ (w : Values). o + n ≤ length_of (layout_at w.arrays i)) (sym view) h)

module _ (text : Bool) (t : TypeData) (arrays : List ViewArray) (held : LongValues) (vs : List View) (total : ℕ) (v : Values) (i : ℕ) (a : ViewArray) (o n : ℕ) where
  pub record Extends (after : LongValues) (us : List View) (m : ℕ) (r : Result ⊤ GrowError) : Type 0 where
    pub still : AreLongValues arrays after
    pub keep : KeepViews (long_buffers held) (long_buffers after)
    pub are : OnOk r (AreViewsOf (long_buffers after) us (values_in (long_buffers held) vs ++ slot_values a o n))
    pub count : OnOk r (m ≡ total + byte_count (slot_values a o n))
    pub small : m ≤ 2 ^ 62
    pub same : OnErr r ((us ≡ vs) × (m ≡ total))
    pub why : IsErrOf r error.Overflow → 2 ^ 62 < total + byte_count (slot_values a o n)

  module _ (inside : AreGrowingViews text t arrays (long_buffers held) vs total) (view : view_values t arrays (long_buffers held) vs ≡ v) (sound : IsSound text a.dtype a.mask a.views a.buffers)
      (is : a ≡ get_or arrays i a) (named : i < length v.arrays) (reached : o + n ≤ length_of (layout_at v.arrays i)) (after : LongValues) (us : List View) (m : ℕ) (r : Result ⊤ GrowError)
      (e : Extends after us m r) where
    abbrev within : o + n ≤ length a.views
    within = reached_in t arrays (long_buffers held) vs v view i a is named o n reached

    abbrev of_array : layout_at (map view_layout arrays) i ≡ view_layout a
    of_array = layout_is t arrays (long_buffers held) vs v view i a is named

    pub extend_inside : AreLongValues arrays after × AreGrowingViews text t arrays (long_buffers after) us m
    extend_inside = (e.still, run_inside text t arrays (long_buffers held) vs total inside a o n sound i of_array within (long_buffers after) us m r e.keep e.are e.count e.small e.same)

    pub extend_grows : length us < 2 ^ 64 → GrowsValues IsEmptyValue v (part o n (denote (layout_at v.arrays i))) (view_values t arrays (long_buffers after) us) r
    extend_grows short =
        subst (λ (w : Values). GrowsValues IsEmptyValue w (part o n (denote (layout_at w.arrays i))) (view_values t arrays (long_buffers after) us) r) view
        (run_grows text t arrays (long_buffers held) vs total inside a o n sound i of_array within (long_buffers after) us m r e.are e.count e.small short e.why)
