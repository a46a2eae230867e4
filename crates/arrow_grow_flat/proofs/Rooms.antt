-- Where slots without children have room, by the form of their type.
use Rattle.std.proofs.Common.{◌≡◌, ℕ, ◌+◌, ◌<◌, ◌≤◌, ◌^◌, Bool, true, false, cond, List, [], ◌∷◌, ◌++◌, map, length, flat_map, sum, replicate, refl, ap, sym, ◌∙◌, subst, arith, length-append}
use Rattle.std.specs.Prelude.{pos}
use Rattle.std.specs.List.{AllByRecursion}
use Rattle.std.proofs.lemmas.List.{length-map}
use Rattle.std.proofs.lemmas.Grind.{flat_map-append}
use Rattle.std.proofs.lemmas.List.Sums.{sum_by-cons}
use Rattle.arrow_types.specs.TypeData.{TypeData}
use Rattle.arrow_types.specs.Carried.{IsBelow}
use Rattle.arrow_flat.specs.Numbers.{zeros}
use Rattle.arrow_flat.specs.Packs.{view_limit, packed_views}
use Rattle.arrow_flat.specs.Slots.{Slot}
use Rattle.arrow_flat.specs.Views.{view_length}
use Rattle.arrow_layout.specs.Canon.{flat_canon, boolean_of, numbers_or, bytes_or, offsets, sums_from}
use Rattle.arrow_layout.specs.Fits.{Fits}
use Rattle.arrow_layout.specs.Forms.{Form, booleans_of, primitives_of, binaries_of, fixed_size_binaries_of, views_of, form_of, offset_limit}
use Rattle.arrow_layout.proofs.ByForm.{canon_by, canon-form}
use Rattle.arrow_layout.proofs.CanonLengths.{length-offsets}
use Rattle.arrow_flat.proofs.Lists.{map-map}
use Rattle.arrow_flat.proofs.PackedViews.{length-views, lengths-views}
use Rattle.arrow_grow_flat.specs.Grown.{Room}
use Rattle.arrow_grow_flat.specs.Values.{IsValuesForm}

-- how many bytes the slots have together
abbrev pub weight : List Slot → ℕ
weight s = sum (map (λ x. length (bytes_or [] x)) s)

abbrev pub RoomBy : Form → List Slot → Type 0
RoomBy (binaries_of large text) s = (length s < 2 ^ 64) × (weight s < cond large (2 ^ 63) (2 ^ 31))
RoomBy (fixed_size_binaries_of k) s = (length s < 2 ^ 64) × (length (flat_map (bytes_or (replicate k 0)) s) < 2 ^ 64)
RoomBy (views_of text) s = (length s < 2 ^ 64) × (weight s ≤ 2 ^ 62)
RoomBy f s = length s < 2 ^ 64

-- ---- offsets

sum_cons : (n : ℕ) (ns : List ℕ) → sum (n ∷ ns) ≡ n + sum ns
sum_cons n ns = sum_by-cons (λ x. x) n ns

sums_below : (limit a : ℕ) (ns : List ℕ) → a + sum ns < limit → AllByRecursion (IsBelow limit) (map pos (sums_from a ns))
sums_below limit a [] h = tt
sums_below limit a (n ∷ ns) h = let q = sum_cons n ns in (omega (arith, h, q), sums_below limit (a + n) ns (omega (arith, h, q)))

below_sums : (limit a : ℕ) (ns : List ℕ) → a < limit → AllByRecursion (IsBelow limit) (map pos (sums_from a ns)) → a + sum ns < limit
below_sums limit a [] h k = omega (arith, h)
below_sums limit a (n ∷ ns) h k = omega (arith, below_sums limit (a + n) ns k.0 k.1, sum_cons n ns)

some_limit : (large : Bool) → 0 < cond large (2 ^ 63) (2 ^ 31)
some_limit true = omega arith
some_limit false = omega arith

-- ---- room, by the form

lengths_packed : (s : List Slot) → sum (map view_length (packed_views view_limit (map (bytes_or []) s))) ≡ weight s
lengths_packed s = ap sum (lengths-views view_limit (map (bytes_or []) s) 0 0) ∙ ap sum (map-map length (bytes_or []) s)

to_by : (t : TypeData) (f : Form) (s : List Slot) → IsValuesForm f → form_of t ≡ f → Fits (flat_canon t f s) → RoomBy f s
to_by t booleans_of s v e h = omega (arith, h, length-map s boolean_of)
to_by t (primitives_of p) s v e h = omega (arith, h, length-map s (numbers_or (zeros p)))
to_by t (binaries_of large text) s v e h =
    let ns = map (λ x. length (bytes_or [] x)) s in
    let below : AllByRecursion (IsBelow (cond large (2 ^ 63) (2 ^ 31))) (offsets ns) = subst (λ g. AllByRecursion (IsBelow (offset_limit g)) (offsets ns)) e h.1 in
    (omega (arith, h.0, length-offsets (bytes_or []) s), omega (arith, below_sums (cond large (2 ^ 63) (2 ^ 31)) 0 ns below.0 below.1))
to_by t (fixed_size_binaries_of k) s v e h = h
to_by t (views_of text) s v e h =
    let vs = map (bytes_or []) s in
    (omega (arith, h.0, length-views view_limit vs 0 0, length-map s (bytes_or [])), subst (λ n. n ≤ 2 ^ 62) (lengths_packed s) h.1)
to_by t _ s v e h = absurd v

from_by : (t : TypeData) (f : Form) (s : List Slot) → IsValuesForm f → form_of t ≡ f → RoomBy f s → Fits (flat_canon t f s)
from_by t booleans_of s v e h = omega (arith, h, length-map s boolean_of)
from_by t (primitives_of p) s v e h = omega (arith, h, length-map s (numbers_or (zeros p)))
from_by t (binaries_of large text) s v e h =
    let ns = map (λ x. length (bytes_or [] x)) s in
    let limit = cond large (2 ^ 63) (2 ^ 31) in
    let below : AllByRecursion (IsBelow limit) (offsets ns) = (some_limit large, sums_below limit 0 ns (let q = h.1 in omega (arith, q))) in
    (omega (arith, h.0, length-offsets (bytes_or []) s), subst (λ g. AllByRecursion (IsBelow (offset_limit g)) (offsets ns)) (sym e) below)
from_by t (fixed_size_binaries_of k) s v e h = h
from_by t (views_of text) s v e h =
    let vs = map (bytes_or []) s in
    (omega (arith, h.0, length-views view_limit vs 0 0, length-map s (bytes_or [])), subst (λ n. n ≤ 2 ^ 62) (sym (lengths_packed s)) h.1)
from_by t _ s v e h = absurd v

by_flat : (t : TypeData) (f : Form) (s : List Slot) → IsValuesForm f → canon_by t f s ≡ flat_canon t f s
by_flat t booleans_of s v = refl
by_flat t (primitives_of p) s v = refl
by_flat t (binaries_of large text) s v = refl
by_flat t (fixed_size_binaries_of k) s v = refl
by_flat t (views_of text) s v = refl
by_flat t _ s v = absurd v

pub room_to : (t : TypeData) (f : Form) (s : List Slot) → IsValuesForm f → form_of t ≡ f → Room t s → RoomBy f s
room_to t f s v e h = to_by t f s v e (subst Fits (canon-form t f s e ∙ by_flat t f s v) h)

pub room_from : (t : TypeData) (f : Form) (s : List Slot) → IsValuesForm f → form_of t ≡ f → RoomBy f s → Room t s
room_from t f s v e h = subst Fits (sym (canon-form t f s e ∙ by_flat t f s v)) (from_by t f s v e h)

-- ---- what fits still fits without its last slots

weight_join : (s r : List Slot) → weight (s ++ r) ≡ weight s + weight r
weight_join [] r = omega arith
weight_join (x ∷ s) r =
    let n = length (bytes_or [] x) in
    let f : Slot → ℕ = λ y. length (bytes_or [] y) in
    omega (arith, weight_join s r, sum_cons n (map f s), sum_cons n (map f (s ++ r)))

by_front : (f : Form) (s r : List Slot) → IsValuesForm f → RoomBy f (s ++ r) → RoomBy f s
by_front (binaries_of large text) s r v h = let q = h.1 in (omega (arith, h.0, length-append s r), omega (arith, q, weight_join s r))
by_front (fixed_size_binaries_of k) s r v h =
    let g = bytes_or (replicate k 0) in
    (omega (arith, h.0, length-append s r), omega (arith, h.1, ap length (flat_map-append g s r), length-append (flat_map g s) (flat_map g r)))
by_front (views_of text) s r v h = (omega (arith, h.0, length-append s r), omega (arith, h.1, weight_join s r))
by_front booleans_of s r v h = omega (arith, h, length-append s r)
by_front (primitives_of p) s r v h = omega (arith, h, length-append s r)
by_front _ s r v h = absurd v

pub room_front : (t : TypeData) (s r : List Slot) → IsValuesForm (form_of t) → Room t (s ++ r) → Room t s
room_front t s r v h = room_from t (form_of t) s v refl (by_front (form_of t) s r v (room_to t (form_of t) (s ++ r) v refl h))

by_count : (f : Form) (s : List Slot) → IsValuesForm f → RoomBy f s → length s < 2 ^ 64
by_count (binaries_of large text) s v h = h.0
by_count (fixed_size_binaries_of k) s v h = h.0
by_count (views_of text) s v h = h.0
by_count booleans_of s v h = h
by_count (primitives_of p) s v h = h
by_count _ s v h = absurd v

pub room_count : (t : TypeData) (s : List Slot) → IsValuesForm (form_of t) → Room t s → length s < 2 ^ 64
room_count t s v h = by_count (form_of t) s v (room_to t (form_of t) s v refl h)

none_by : (f : Form) → IsValuesForm f → RoomBy f []
none_by (binaries_of large text) v = (omega arith, some_limit large)
none_by (fixed_size_binaries_of k) v = (omega arith, omega arith)
none_by (views_of text) v = (omega arith, omega arith)
none_by booleans_of v = omega arith
none_by (primitives_of p) v = omega arith
none_by _ v = absurd v

pub room_none : (t : TypeData) → IsValuesForm (form_of t) → Room t []
room_none t v = room_from t (form_of t) [] v refl (none_by (form_of t) v)
