-- Places that are dealt out to lists of runs.
use Rattle.std.proofs.Common.{◌≡◌, ◌≢◌, ℕ, zero, suc, ◌+◌, ◌-◌, ◌<◌, ◌≤◌, Bool, true, false, cond, nat_eq, List, [], ◌∷◌, ◌++◌, length, map, take, get_or, set, replicate, flat_map, get_or-set_same, get_or-set_other, length-set, append_assoc, append-nil, refl, ap, ap₂, sym, ◌∙◌, subst, arith, Option, Some, None}
use Rattle.std.specs.List.{range_with_len}
use Rattle.std.proofs.lemmas.Bool.{eqb-true, eqb-false}
use Rattle.std.proofs.lemmas.List.{length-map, map-append}
use Rattle.std.specs.Global.{Vec}
use Rattle.arrow_flat.proofs.Lists.{map-map}
use Rattle.arrow_canon.specs.Picks.{span}
use Rattle.arrow_canon.specs.Runs.{places, places_of, AreWithin}
use Rattle.arrow_canon.specs.declared.run.Run.{Run}
use Rattle.arrow_canon.proofs.Places.{joined_span_more, joined_step}
use Rattle.arrow_items.specs.Dealt.{AllWithin, AreDealt, runs_of}
use Rattle.arrow_items.specs.Unions.{dense_places}

pub dealt_none : (lists : List (List Run)) → AreDealt (λ j. []) lists lists
dealt_none lists = (refl, λ j h. sym (append-nil (places (get_or lists j []))))

pub dealt_then : (given more : ℕ → List (Option ℕ)) (xs ys zs : List (List Run)) → AreDealt given xs ys → AreDealt more ys zs → AreDealt (λ j. given j ++ more j) xs zs
dealt_then given more xs ys zs h k = (
  k.0 ∙ h.0,
  λ j low. k.1 j (omega (arith, low, h.0)) ∙ ap (λ ps. ps ++ more j) (h.1 j low) ∙ append_assoc (places (get_or xs j [])) (given j) (more j),
)

pub dealt_same : (given other : ℕ → List (Option ℕ)) (xs ys : List (List Run)) → AreDealt given xs ys → ((j : ℕ) → given j ≡ other j) → AreDealt other xs ys
dealt_same given other xs ys h same = (h.0, λ j low. h.1 j low ∙ ap (λ ps. places (get_or xs j []) ++ ps) (same j))

-- ---- a list in place of another

set_by : (lists : List (List Run)) (k : ℕ) (rs : List Run) (ps : List (Option ℕ)) → k < length lists → places rs ≡ places (get_or lists k []) ++ ps → (j : ℕ) (b : Bool) → nat_eq k j ≡ b
    → places (get_or (set lists k rs) j []) ≡ places (get_or lists j []) ++ cond b ps []
set_by lists k rs ps low e j true q =
    let here : get_or (set lists k rs) k [] ≡ rs = rw get_or-set_same refl in
    subst (λ i. places (get_or (set lists k rs) i []) ≡ places (get_or lists i []) ++ ps) (eqb-true k j q) (ap places here ∙ e)
set_by lists k rs ps low e j false q =
    let ne = eqb-false k j q in
    let other : j ≢ k = λ p. ne (sym p) in
    let here : get_or (set lists k rs) j [] ≡ get_or lists j [] = rw get_or-set_other refl in
    ap places here ∙ sym (append-nil (places (get_or lists j [])))

pub dealt_set : (lists : List (List Run)) (k : ℕ) (rs : List Run) (ps : List (Option ℕ)) → k < length lists → places rs ≡ places (get_or lists k []) ++ ps
    → AreDealt (λ j. cond (nat_eq k j) ps []) lists (set lists k rs)
dealt_set lists k rs ps low e = (length-set lists k rs, λ j h. set_by lists k rs ps low e j (nat_eq k j) refl)

within_by : (lengths : List ℕ) (lists : List (List Run)) (k : ℕ) (rs : List Run) → k < length lists → AllWithin lengths lists → AreWithin (get_or lengths k 0) rs → (j : ℕ) (b : Bool) → nat_eq k j ≡ b
    → AreWithin (get_or lengths j 0) (get_or (set lists k rs) j [])
within_by lengths lists k rs low all w j true q =
    let here : get_or (set lists k rs) k [] ≡ rs = rw get_or-set_same refl in
    subst (λ i. AreWithin (get_or lengths i 0) (get_or (set lists k rs) i [])) (eqb-true k j q) (subst (AreWithin (get_or lengths k 0)) (sym here) w)
within_by lengths lists k rs low all w j false q =
    let ne = eqb-false k j q in
    let other : j ≢ k = λ p. ne (sym p) in
    let here : get_or (set lists k rs) j [] ≡ get_or lists j [] = rw get_or-set_other refl in
    subst (AreWithin (get_or lengths j 0)) (sym here) (all j)

pub within_set : (lengths : List ℕ) (lists : List (List Run)) (k : ℕ) (rs : List Run) → k < length lists → AllWithin lengths lists → AreWithin (get_or lengths k 0) rs → AllWithin lengths (set lists k rs)
within_set lengths lists k rs low all w j = within_by lengths lists k rs low all w j (nat_eq k j) refl

pub runs_set : (vs : List (Vec Run)) (k : ℕ) (v : Vec Run) → runs_of (set vs k v) ≡ set (runs_of vs) k v.items
runs_set [] k v = refl
runs_set (u ∷ vs) zero v = refl
runs_set (u ∷ vs) (suc k) v = ap (λ rest. u.items ∷ rest) (runs_set vs k v)

pub length-runs_of : (vs : List (Vec Run)) → length (runs_of vs) ≡ length vs
length-runs_of vs = length-map vs (λ v. v.items)

-- ---- fillings

fill_by : (f : Option ℕ → List (Option ℕ)) (b : Bool) (n : ℕ) → f None ≡ cond b (None ∷ []) [] → cond b (replicate n None) [] ≡ flat_map f (replicate n None)
fill_by f true zero e = refl
fill_by f false zero e = refl
fill_by f true (suc n) e = ap₂ (λ ps qs. ps ++ qs) (sym e) (fill_by f true n e)
fill_by f false (suc n) e = ap₂ (λ ps qs. ps ++ qs) (sym e) (fill_by f false n e)

pub dense_fill : (fields os : List ℕ) (first j n : ℕ) → cond (nat_eq first j) (replicate n None) [] ≡ flat_map (dense_places fields os first j) (replicate n None)
dense_fill fields os first j n = fill_by (dense_places fields os first j) (nat_eq first j) n refl

-- ---- from lists without runs

nothing_at : (n j : ℕ) → let none : List Run = [] in get_or (replicate n none) j none ≡ none
nothing_at zero j = refl
nothing_at (suc n) zero = refl
nothing_at (suc n) (suc j) = nothing_at n j

pub none_within : (lengths : List ℕ) (n : ℕ) → AllWithin lengths (replicate n [])
none_within lengths n j = subst (AreWithin (get_or lengths j 0)) (sym (nothing_at n j)) tt

mapped_from : (lists : List (List Run)) (given : ℕ → List (Option ℕ)) (a : ℕ) → ((j : ℕ) → j < length lists → places (get_or lists j []) ≡ given (a + j))
    → map places lists ≡ map given (range_with_len a (length lists))
mapped_from [] given a h = refl
mapped_from (rs ∷ lists) given a h =
    let here : a + 0 ≡ a = omega arith in
    let next : (j : ℕ) → a + suc j ≡ a + 1 + j = λ j. omega arith in
    ap₂ (λ ps pss. ps ∷ pss) (h 0 (omega arith) ∙ ap given here) (mapped_from lists given (a + 1) (λ j low. h (suc j) (omega (arith, low)) ∙ ap given (next j)))

pub dealt_all : (n : ℕ) (vs : List (Vec Run)) (given : ℕ → List (Option ℕ)) → length vs ≡ n → AreDealt given (replicate n []) (runs_of vs) → map (λ v. places v.items) vs ≡ map given (range_with_len 0 n)
dealt_all n vs given e h =
    let many : length (runs_of vs) ≡ n = length-runs_of vs ∙ e in
    let at : (j : ℕ) → j < length (runs_of vs) → places (get_or (runs_of vs) j []) ≡ given (0 + j) = λ j low.
    let same : j ≡ 0 + j = omega arith in
    h.1 j (omega (arith, low, h.0)) ∙ ap (λ rs. places rs ++ given j) (nothing_at n j) ∙ ap given same in
    sym (map-map places (λ v. v.items) vs) ∙ mapped_from (runs_of vs) given 0 at ∙ ap (λ k. map given (range_with_len 0 k)) many

-- before the first run nothing is dealt
nothing_taken : {A : Type 0} (xs : List A) → take 0 xs ≡ []
nothing_taken [] = refl
nothing_taken (x ∷ xs) = refl

pub dealt_first : (f : ℕ → Option ℕ → List (Option ℕ)) (rs : List Run) (n : ℕ) (lists : List (List Run)) → lists ≡ replicate n [] → AreDealt (λ j. flat_map (f j) (places (take 0 rs))) (replicate n []) lists
dealt_first f rs n lists e =
    let none : List (List Run) = replicate n [] in
    subst (AreDealt (λ j. flat_map (f j) (places (take 0 rs))) none) (sym e)
    (dealt_same (λ j. []) (λ j. flat_map (f j) (places (take 0 rs))) none none (dealt_none none) (λ j. ap (λ qs. flat_map (f j) (places qs)) (sym (nothing_taken rs))))

-- one more run
pub dealt_step : (f : ℕ → Option ℕ → List (Option ℕ)) (rs : List Run) (i : ℕ) (d : Run) (xs ys zs : List (List Run)) → i < length rs
    → AreDealt (λ j. flat_map (f j) (places (take i rs))) xs ys → AreDealt (λ j. flat_map (f j) (places_of (get_or rs i d))) ys zs
    → AreDealt (λ j. flat_map (f j) (places (take (i + 1) rs))) xs zs
dealt_step f rs i d xs ys zs low h k =
    dealt_same (λ j. flat_map (f j) (places (take i rs)) ++ flat_map (f j) (places_of (get_or rs i d))) (λ j. flat_map (f j) (places (take (i + 1) rs))) xs zs
    (dealt_then (λ j. flat_map (f j) (places (take i rs))) (λ j. flat_map (f j) (places_of (get_or rs i d))) xs ys zs h k) (λ j. joined_step (f j) rs i d low)

-- one more slot
pub dealt_slot : (f : ℕ → Option ℕ → List (Option ℕ)) (a i : ℕ) (xs ys zs : List (List Run)) → a ≤ i → AreDealt (λ j. flat_map (f j) (span a (i - a))) xs ys → AreDealt (λ j. f j (Some i)) ys zs
    → AreDealt (λ j. flat_map (f j) (span a (i + 1 - a))) xs zs
dealt_slot f a i xs ys zs low h k =
    dealt_same (λ j. flat_map (f j) (span a (i - a)) ++ f j (Some i)) (λ j. flat_map (f j) (span a (i + 1 - a))) xs zs
    (dealt_then (λ j. flat_map (f j) (span a (i - a))) (λ j. f j (Some i)) xs ys zs h k) (λ j. joined_span_more (f j) [] a i low)

pub dealt_nowhere : (f : ℕ → Option ℕ → List (Option ℕ)) (a n : ℕ) (lists : List (List Run)) → n ≡ 0 → AreDealt (λ j. flat_map (f j) (span a n)) lists lists
dealt_nowhere f a n lists e =
    let none : (j : ℕ) → [] ≡ flat_map (f j) (span a n) = λ j. ap (λ k. flat_map (f j) (span a k)) (sym e) in
    dealt_same (λ j. []) (λ j. flat_map (f j) (span a n)) lists lists (dealt_none lists) none

-- ---- a list that is changed in place

found_at : (vs : List (Vec Run)) (k : ℕ) (x : Vec Run) → k < length vs → x ≡ get_or vs k x → get_or (runs_of vs) k [] ≡ x.items
found_at [] k x h e = absurd (omega (arith, h))
found_at (v ∷ vs) zero x h e = ap (λ u. u.items) (sym e)
found_at (v ∷ vs) (suc k) x h e = found_at vs k x (omega (arith, h)) e

module _ (vs ws : List (Vec Run)) (k : ℕ) (x w : Vec Run) (changed : ws ≡ set vs k w) (within : k < length vs) (found : x ≡ get_or vs k x) where
  runs_changed : runs_of ws ≡ set (runs_of vs) k w.items
  runs_changed = ap runs_of changed ∙ runs_set vs k w

  low : k < length (runs_of vs)
  low = omega (arith, within, length-runs_of vs)

  pub dealt_to : (ps : List (Option ℕ)) → places w.items ≡ places x.items ++ ps → AreDealt (λ j. cond (nat_eq k j) ps []) (runs_of vs) (runs_of ws)
  dealt_to ps e =
      let there : get_or (runs_of vs) k [] ≡ x.items = found_at vs k x within found in
      subst (AreDealt (λ j. cond (nat_eq k j) ps []) (runs_of vs)) (sym runs_changed)
      (dealt_set (runs_of vs) k w.items ps low (e ∙ ap (λ rs. places rs ++ ps) (sym there)))

  pub within_to : (lengths : List ℕ) → (AreWithin (get_or lengths k 0) x.items → AreWithin (get_or lengths k 0) w.items) → AllWithin lengths (runs_of vs) → AllWithin lengths (runs_of ws)
  within_to lengths keeps all =
      let there : get_or (runs_of vs) k [] ≡ x.items = found_at vs k x within found in
      subst (AllWithin lengths) (sym runs_changed) (within_set lengths (runs_of vs) k w.items low all (keeps (subst (AreWithin (get_or lengths k 0)) there (all k))))

-- ---- one more list without runs

none_more : (n : ℕ) → let none : List Run = [] in replicate n none ++ none ∷ [] ≡ replicate (n + 1) none
none_more zero = refl
none_more (suc n) = let e : suc n + 1 ≡ suc (n + 1) = omega arith in ap (λ rest. [] ∷ rest) (none_more n) ∙ ap (λ k. replicate {A = List Run} k []) (sym e)

pub empty_more : (vs : List (Vec Run)) (v : Vec Run) (n : ℕ) → runs_of vs ≡ replicate n [] → v.items ≡ [] → runs_of (vs ++ v ∷ []) ≡ replicate (n + 1) []
empty_more vs v n e h =
    map-append (λ u. u.items) vs (v ∷ []) ∙ ap₂ (λ front rs. front ++ rs ∷ []) e h ∙ none_more n
