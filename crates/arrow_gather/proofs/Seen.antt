-- The distinct slots of a list, one slot after the other, and the keys that name them.
use Rattle.std.proofs.Common.{◌≡◌, ℕ, suc, Bool, true, false, cond, List, [], ◌∷◌, ◌++◌, length, map, Option, Some, None, refl, ap, ap₂, sym, ◌∙◌}
use Rattle.std.specs.Prelude.{pos, ◌||◌, is_some, unwrap_or}
use Rattle.std.specs.List.{AllByRecursion}
use Rattle.std.proofs.lemmas.Bool.{false≢true}
use Rattle.std.proofs.lemmas.List.{map-append}
use Rattle.arrow_flat.specs.Slots.{Slot, is_valid, slot_eq}
use Rattle.arrow_flat.proofs.Lists.{map-map, map-same}
use Rattle.arrow_layout.specs.Canon.{is_among, first_place, seen_with, distinct, distinct_after, key_in}
use Rattle.arrow_layout.proofs.Distinct.{IsIn, all_taken, among_front, among_end}
use Rattle.arrow_layout.proofs.SlotSame.{slot_itself}
use Rattle.arrow_gather.specs.Met.{IsKeyOf, key_place, place_among}

neither : (a b : Bool) → a || b ≡ false → (a ≡ false) × (b ≡ false)
neither true b h = absurd (false≢true (sym h))
neither false b h = (refl, h)

or_then : (a b : Bool) → a || b ≡ true → a ≡ false → b ≡ true
or_then true b h k = absurd (false≢true (sym k))
or_then false b h k = h

-- ---- one slot more

distinct_then : (seen s : List Slot) (x : Slot) → distinct_after seen (s ++ x ∷ []) ≡ seen_with (distinct_after seen s) x
distinct_then seen [] x = refl
distinct_then seen (y ∷ s) x = distinct_then (seen_with seen y) s x

pub distinct_more : (s : List Slot) (x : Slot) → distinct (s ++ x ∷ []) ≡ seen_with (distinct s) x
distinct_more s x = distinct_then [] s x

seen_by : (d : List Slot) (x : Slot) (v b : Bool) → b ≡ true → cond v (cond b d (d ++ x ∷ [])) d ≡ d
seen_by d x true true h = refl
seen_by d x true false h = absurd (false≢true h)
seen_by d x false b h = refl

new_by : (d : List Slot) (x : Slot) (v b : Bool) → v ≡ true → b ≡ false → cond v (cond b d (d ++ x ∷ [])) d ≡ d ++ x ∷ []
new_by d x true false h k = refl
new_by d x true true h k = absurd (false≢true (sym k))
new_by d x false b h k = absurd (false≢true h)

null_by : (d more : List Slot) (v : Bool) → v ≡ false → cond v more d ≡ d
null_by d more true h = absurd (false≢true (sym h))
null_by d more false h = refl

was_seen : (d : List Slot) (x : Slot) → is_among x d ≡ true → seen_with d x ≡ d
was_seen d x h = seen_by d x (is_valid x) (is_among x d) h

pub is_new : (d : List Slot) (x : Slot) → is_valid x ≡ true → is_among x d ≡ false → seen_with d x ≡ d ++ x ∷ []
is_new d x h k = new_by d x (is_valid x) (is_among x d) h k

pub is_none : (d : List Slot) (x : Slot) → is_valid x ≡ false → seen_with d x ≡ d
is_none d x h = null_by d (cond (is_among x d) d (d ++ x ∷ [])) (is_valid x) h

-- what has a key was seen
pub key_seen : (d : List Slot) (x : Slot) (k : Option ℕ) → IsKeyOf d x k → seen_with d x ≡ d
key_seen d x None h = is_none d x h
key_seen d x (Some k) h = was_seen d x h.1

-- ---- places

found_first : (x : Slot) (ys : List Slot) (b : Bool) → b ≡ true → cond b 0 (suc (first_place x ys)) ≡ 0
found_first x ys true h = refl
found_first x ys false h = absurd (false≢true h)

found_next : (x : Slot) (ys : List Slot) (k : ℕ) (b : Bool) → b ≡ false → first_place x ys ≡ k → cond b 0 (suc (first_place x ys)) ≡ suc k
found_next x ys k true h e = absurd (false≢true (sym h))
found_next x ys k false h e = ap suc e

last_place : (x : Slot) (d : List Slot) → is_among x d ≡ false → first_place x (d ++ x ∷ []) ≡ length d
last_place x [] h = found_first x [] (slot_eq x x) (slot_itself x)
last_place x (y ∷ d) h =
    let none = neither (slot_eq x y) (is_among x d) h in
    found_next x (d ++ x ∷ []) (length d) (slot_eq x y) none.0 (last_place x d none.1)

front_by : (x : Slot) (d e : List Slot) (b : Bool) → (b ≡ false → first_place x (d ++ e) ≡ first_place x d)
    → cond b 0 (suc (first_place x (d ++ e))) ≡ cond b 0 (suc (first_place x d))
front_by x d e true h = refl
front_by x d e false h = ap suc (h refl)

place_front : (x : Slot) (d e : List Slot) → IsIn d x → first_place x (d ++ e) ≡ first_place x d
place_front x [] e h = absurd (false≢true h)
place_front x (y ∷ d) e h = front_by x d e (slot_eq x y) (λ q. place_front x d e (or_then (slot_eq x y) (is_among x d) h q))

-- the slot that comes last, and any other
pub place_last : (x : Slot) (d : List Slot) → is_among x d ≡ false → place_among (d ++ x ∷ []) x ≡ Some (length d)
place_last x d h =
    ap (λ b. cond b (Some (first_place x (d ++ x ∷ []))) None) (among_end x d) ∙ ap Some (last_place x d h)

among_more : (x y : Slot) (d : List Slot) → slot_eq y x ≡ false → is_among y (d ++ x ∷ []) ≡ is_among y d
among_more x y [] h = ap (λ b. b || false) h
among_more x y (z ∷ d) h = ap (λ b. slot_eq y z || b) (among_more x y d h)

other_by : (x y : Slot) (d : List Slot) (b : Bool) → is_among y d ≡ b
    → cond b (Some (first_place y (d ++ x ∷ []))) None ≡ cond b (Some (first_place y d)) None
other_by x y d true h = ap Some (place_front y d (x ∷ []) h)
other_by x y d false h = refl

pub place_other : (x y : Slot) (d : List Slot) → slot_eq y x ≡ false → place_among (d ++ x ∷ []) y ≡ place_among d y
place_other x y d h =
    ap (λ b. cond b (Some (first_place y (d ++ x ∷ []))) None) (among_more x y d h) ∙ other_by x y d (is_among y d) refl

there_by : (x : Slot) (d : List Slot) (k : ℕ) (b : Bool) → cond b (Some (first_place x d)) None ≡ Some k → (b ≡ true) × (first_place x d ≡ k)
there_by x d k true e = (refl, inner e) where
  inner : Some (first_place x d) ≡ Some k → first_place x d ≡ k
  inner e = cc
there_by x d k false e = absurd (none e) where
  none : None ≡ Some k → ⊥
  none e = cc

pub place_there : (x : Slot) (d : List Slot) (k : ℕ) → place_among d x ≡ Some k → (is_among x d ≡ true) × (first_place x d ≡ k)
place_there x d k e = there_by x d k (is_among x d) e

nowhere_by : (x : Slot) (d : List Slot) (b : Bool) → cond b (Some (first_place x d)) None ≡ None → b ≡ false
nowhere_by x d true e = absurd (some e) where
  some : Some (first_place x d) ≡ None → ⊥
  some e = cc
nowhere_by x d false e = refl

pub place_nowhere : (x : Slot) (d : List Slot) → place_among d x ≡ None → is_among x d ≡ false
place_nowhere x d e = nowhere_by x d (is_among x d) e

-- ---- keys

pub key_last : (d : List Slot) (x : Slot) → is_valid x ≡ true → is_among x d ≡ false → IsKeyOf (d ++ x ∷ []) x (Some (length d))
key_last d x v h = (v, among_end x d, last_place x d h)

key_front : (d e : List Slot) (y : Slot) (k : Option ℕ) → IsKeyOf d y k → IsKeyOf (d ++ e) y k
key_front d e y None h = h
key_front d e y (Some k) h = (h.0, among_front y d e h.1, place_front y d e h.1 ∙ h.2)

stays_by : (d : List Slot) (x y : Slot) (k : Option ℕ) (v b : Bool) → IsKeyOf d y k → IsKeyOf (cond v (cond b d (d ++ x ∷ [])) d) y k
stays_by d x y k true true h = h
stays_by d x y k true false h = key_front d (x ∷ []) y k h
stays_by d x y k false b h = h

pub key_stays : (d : List Slot) (x y : Slot) (k : Option ℕ) → IsKeyOf d y k → IsKeyOf (seen_with d x) y k
key_stays d x y k h = stays_by d x y k (is_valid x) (is_among x d) h

valid_key : (a : ℕ) (v : Bool) → v ≡ true → a ≡ cond v a 0
valid_key a true h = refl
valid_key a false h = absurd (false≢true h)

null_key : (a : ℕ) (v : Bool) → v ≡ false → 0 ≡ cond v a 0
null_key a true h = absurd (false≢true (sym h))
null_key a false h = refl

pub key_named : (d : List Slot) (x : Slot) (k : Option ℕ) → IsKeyOf d x k → unwrap_or k 0 ≡ key_place d x
key_named d x None h = null_key (first_place x d) (is_valid x) h
key_named d x (Some k) h = sym h.2 ∙ valid_key (first_place x d) (is_valid x) h.0

pub key_valid : (d : List Slot) (x : Slot) (k : Option ℕ) → IsKeyOf d x k → is_some k ≡ is_valid x
key_valid d x None h = sym h
key_valid d x (Some k) h = sym h.0

key_by : (x : Slot) (d e : List Slot) (v : Bool) → (v ≡ true → IsIn d x) → cond v (first_place x (d ++ e)) 0 ≡ cond v (first_place x d) 0
key_by x d e true h = place_front x d e (h refl)
key_by x d e false h = refl

keys_front : (d e s : List Slot) → AllByRecursion (λ x. is_valid x ≡ true → IsIn d x) s → map (key_place (d ++ e)) s ≡ map (key_place d) s
keys_front d e [] h = refl
keys_front d e (x ∷ s) h = ap₂ (λ k ks. k ∷ ks) (key_by x d e (is_valid x) h.0) (keys_front d e s h.1)

keys_with : (d s : List Slot) (x : Slot) (v b : Bool) → AllByRecursion (λ y. is_valid y ≡ true → IsIn d y) s
    → map (key_place (cond v (cond b d (d ++ x ∷ [])) d)) s ≡ map (key_place d) s
keys_with d s x true true h = refl
keys_with d s x true false h = keys_front d (x ∷ []) s h
keys_with d s x false b h = refl

keys_kept : (s : List Slot) (x : Slot) → map (key_place (distinct (s ++ x ∷ []))) s ≡ map (key_place (distinct s)) s
keys_kept s x =
    ap (λ d. map (key_place d) s) (distinct_more s x) ∙ keys_with (distinct s) s x (is_valid x) (is_among x (distinct s)) (all_taken [] s)

-- the keys of one slot more
pub keys_more : (s : List Slot) (x : Slot) (ks : List ℕ) (k : Option ℕ) → ks ≡ map (key_place (distinct s)) s → IsKeyOf (seen_with (distinct s) x) x k
    → ks ++ unwrap_or k 0 ∷ [] ≡ map (key_place (distinct (s ++ x ∷ []))) (s ++ x ∷ [])
keys_more s x ks k e h =
    let d = distinct (s ++ x ∷ []) in
    ap₂ (λ a b. a ++ b ∷ []) (e ∙ sym (keys_kept s x)) (key_named (seen_with (distinct s) x) x k h ∙ ap (λ d. key_place d x) (sym (distinct_more s x)))
    ∙ sym (map-append (key_place d) s (x ∷ []))

pub bits_more : (s d : List Slot) (x : Slot) (bits : List Bool) (k : Option ℕ) → bits ≡ map is_valid s → IsKeyOf d x k → bits ++ is_some k ∷ [] ≡ map is_valid (s ++ x ∷ [])
bits_more s d x bits k e h = ap₂ (λ a b. a ++ b ∷ []) e (key_valid d x k h) ∙ sym (map-append is_valid s (x ∷ []))

pos_either : (a : ℕ) (v : Bool) → pos (cond v a 0) ≡ cond v (pos a) (pos 0)
pos_either a true = refl
pos_either a false = refl

-- the keys as the canonical layout has them
pub keys_in : (d s : List Slot) → map pos (map (key_place d) s) ≡ map (key_in d) s
keys_in d s = map-map pos (key_place d) s ∙ map-same (λ x. pos (key_place d x)) (key_in d) (λ x. pos_either (first_place x d) (is_valid x)) s
