-- Numbers that do not fall, and what offsets are made of.
use Rattle.std.proofs.Common.{◌≡◌, ℕ, zero, suc, ◌+◌, ◌-◌, ◌<◌, ◌≤◌, ℤ, pos, negsuc, ◌≤ℤ◌, ◌<ℤ◌, true, false, ◌||◌, int_lt, List, [], ◌∷◌, ◌++◌, map, length, take, drop, get_or, replicate, slice_get, Some, sum, refl, ap, sym, ◌∙◌, subst, arith, add-one, add-zero}
use Rattle.std.proofs.lemmas.Int.{ints}
use Rattle.std.proofs.lemmas.List.{take-map, drop-map, get_or-map, length-map, drop_more, map-append, map_more, take_more, append_assoc, take_all}
use Rattle.std.proofs.lemmas.List.Sums.{sum_by-cons}
use Rattle.std.proofs.lemmas.Option.{slice_get-get_or, get_or_from_slice_get}
use Rattle.std.proofs.lemmas.Grind.{common_steps}
use Rattle.arrow_buffers.specs.Offsets.{to_nat, Ascend, AreOffsets, falls, first_of, end_from, end_of, ends, moved}

-- ---- parts of ascending numbers
pub ascend_lower : (limit : ℕ) (a b : ℤ) (os : List ℤ) → a ≤ℤ b → Ascend limit b os → Ascend limit a os
ascend_lower limit a b [] l h = tt
ascend_lower limit a b (x ∷ os) l h = (let q = h.0 in omega (arith, ints), h.1, h.2)

pub ascend_take : (limit : ℕ) (least : ℤ) (n : ℕ) (os : List ℤ) → Ascend limit least os → Ascend limit least (take n os)
ascend_take limit least zero os h = tt
ascend_take limit least (suc n) [] h = tt
ascend_take limit least (suc n) (x ∷ os) h = (h.0, h.1, ascend_take limit x n os h.2)

pub ascend_drop : (limit : ℕ) (least : ℤ) (n : ℕ) (os : List ℤ) → Ascend limit least os → Ascend limit least (drop n os)
ascend_drop limit least zero os h = h
ascend_drop limit least (suc n) [] h = tt
ascend_drop limit least (suc n) (x ∷ os) h = ascend_lower limit least x (drop n os) h.0 (ascend_drop limit x n os h.2)

pub ascend_append : (limit a : ℕ) (os more : List ℤ) → Ascend limit (pos a) os → Ascend limit (pos (end_from a os)) more → Ascend limit (pos a) (os ++ more)
ascend_append limit a [] more h m = m
ascend_append limit a (pos k ∷ os) more h m = (h.0, h.1, ascend_append limit k os more h.2 m)
ascend_append limit a (negsuc k ∷ os) more h m = absurd (let q = h.0 in omega (arith, ints))

pub end_from-append : (a : ℕ) (os more : List ℤ) → end_from a (os ++ more) ≡ end_from (end_from a os) more
end_from-append a [] more = refl
end_from-append a (x ∷ os) more = end_from-append (to_nat x) os more

-- ---- where ascending numbers lie
pub end_reaches : (limit a : ℕ) (os : List ℤ) → Ascend limit (pos a) os → a ≤ end_from a os
end_reaches limit a [] h = omega arith
end_reaches limit a (pos k ∷ os) h = let q = h.0 in let r = end_reaches limit k os h.2 in omega (arith, ints)
end_reaches limit a (negsuc k ∷ os) h = absurd (let q = h.0 in omega (arith, ints))

-- each is at least the bound and at most the last one
pub ascend_at : (limit a : ℕ) (os : List ℤ) (i : ℕ) (d : ℤ) → Ascend limit (pos a) os → i < length os
    → (pos a ≤ℤ get_or os i d) × (get_or os i d ≤ℤ pos (end_from a os)) × (get_or os i d <ℤ pos limit)
ascend_at limit a [] i d h l = absurd (omega arith)
ascend_at limit a (negsuc k ∷ os) i d h l = absurd (let q = h.0 in omega (arith, ints))
ascend_at limit a (pos k ∷ os) zero d h l = (h.0, (let r = end_reaches limit k os h.2 in omega (arith, ints)), h.1)
ascend_at limit a (pos k ∷ os) (suc i) d h l =
    let r = ascend_at limit k os i d h.2 (omega arith) in
    let q = h.0 in
    let s = r.0 in
    (omega (arith, ints), r.1, r.2)

-- neighbours do not fall
pub ascend_step : (limit : ℕ) (least : ℤ) (os : List ℤ) (i : ℕ) (d : ℤ) → Ascend limit least os → i + 1 < length os → get_or os i d ≤ℤ get_or os (i + 1) d
ascend_step limit least os i d h l = rw add-one (by least os i h (omega arith))
  where
    by : (least : ℤ) (os : List ℤ) (i : ℕ) → Ascend limit least os → suc i < length os → get_or os i d ≤ℤ get_or os (suc i) d
    by least [] i h l = absurd (omega arith)
    by least (x ∷ []) i h l = absurd (omega arith)
    by least (x ∷ y ∷ os) zero h l = h.2.0
    by least (x ∷ y ∷ os) (suc i) h l = by x (y ∷ os) i h.2 (omega arith)

-- the last one
pub end_at : (limit a : ℕ) (os : List ℤ) (j : ℕ) (d : ℤ) → Ascend limit (pos a) os → length os ≡ suc j → get_or os j d ≡ pos (end_from a os)
end_at limit a [] j d h e = absurd (omega arith)
end_at limit a (negsuc k ∷ os) j d h e = absurd (let q = h.0 in omega (arith, ints))
end_at limit a (pos k ∷ []) zero d h e = refl
end_at limit a (pos k ∷ []) (suc j) d h e = absurd (omega arith)
end_at limit a (pos k ∷ y ∷ os) zero d h e = absurd (omega arith)
end_at limit a (pos k ∷ y ∷ os) (suc j) d h e = end_at limit k (y ∷ os) j d h.2 (omega arith)

pub end_below : (limit a : ℕ) (os : List ℤ) → a < limit → Ascend limit (pos a) os → end_from a os < limit
end_below limit a [] l h = l
end_below limit a (pos k ∷ os) l h = end_below limit k os (let q = h.1 in omega (arith, ints)) h.2
end_below limit a (negsuc k ∷ os) l h = absurd (let q = h.0 in omega (arith, ints))

-- ---- offsets
pub offsets-ascend : (limit : ℕ) (os : List ℤ) → AreOffsets limit os → Ascend limit (pos 0) os
offsets-ascend limit [] h = absurd h
offsets-ascend limit (x ∷ os) h = h

pub some-offsets : (limit : ℕ) (os : List ℤ) → AreOffsets limit os → 0 < length os
some-offsets limit [] h = absurd h
some-offsets limit (x ∷ os) h = omega arith

pub offsets-from_ascend : (limit : ℕ) (os : List ℤ) → 0 < length os → Ascend limit (pos 0) os → AreOffsets limit os
offsets-from_ascend limit [] l h = absurd (omega arith)
offsets-from_ascend limit (x ∷ os) l h = h

pub offsets_end : (limit : ℕ) (os : List ℤ) → AreOffsets limit os → end_of os < limit
offsets_end limit [] h = absurd h
offsets_end limit (pos k ∷ os) h = end_below limit k os (let q = h.1 in omega (arith, ints)) h.2
offsets_end limit (negsuc k ∷ os) h = absurd (let q = h.0 in omega (arith, ints))

pub offsets_window : (limit : ℕ) (os : List ℤ) (o n : ℕ) → AreOffsets limit os → o + n < length os → AreOffsets limit (take (n + 1) (drop o os))
offsets_window limit os o n h l =
    offsets-from_ascend limit (take (n + 1) (drop o os)) (grind (arith, common_steps))
    (ascend_take limit (pos 0) (n + 1) (drop o os) (ascend_drop limit (pos 0) o os (offsets-ascend limit os h)))

pub offsets_append : (limit : ℕ) (os more : List ℤ) → AreOffsets limit os → Ascend limit (pos (end_of os)) more → AreOffsets limit (os ++ more)
offsets_append limit [] more h m = absurd h
offsets_append limit (x ∷ os) more h m = ascend_append limit 0 (x ∷ os) more h m

-- each lies from the first to the last
pub offsets_at : (limit : ℕ) (os : List ℤ) (i : ℕ) (d : ℤ) → AreOffsets limit os → i < length os
    → (pos (first_of os) ≤ℤ get_or os i d) × (get_or os i d ≤ℤ pos (end_of os))
offsets_at limit [] i d h l = absurd h
offsets_at limit (negsuc k ∷ os) i d h l = absurd (let q = h.0 in omega (arith, ints))
offsets_at limit (pos k ∷ os) i d h l =
    let f : pos k ≤ℤ pos k = omega (arith, ints) in
    let r = ascend_at limit k (pos k ∷ os) i d (f, h.1, h.2) l in (r.0, r.1)

pub first_at : (os : List ℤ) (n : ℕ) → slice_get os 0 ≡ Some (pos n) → first_of os ≡ n
first_at [] n e = cc
first_at (pos k ∷ os) n e = cc
first_at (negsuc k ∷ os) n e = cc

-- behind the first
pub offsets_rest : (limit : ℕ) (os : List ℤ) → AreOffsets limit os → Ascend limit (pos (first_of os)) (drop 1 os)
offsets_rest limit [] h = absurd h
offsets_rest limit (pos k ∷ os) h = h.2
offsets_rest limit (negsuc k ∷ os) h = absurd (let q = h.0 in omega (arith, ints))

pub end_of-rest : (limit : ℕ) (os : List ℤ) → AreOffsets limit os → end_from (first_of os) (drop 1 os) ≡ end_of os
end_of-rest limit [] h = absurd h
end_of-rest limit (pos k ∷ os) h = refl
end_of-rest limit (negsuc k ∷ os) h = absurd (let q = h.0 in omega (arith, ints))

-- neighbours, as they are read
pub read_step : (limit : ℕ) (os : List ℤ) (i a b : ℕ) → AreOffsets limit os → i + 1 < length os → slice_get os i ≡ Some (pos a)
    → slice_get os (i + 1) ≡ Some (pos b) → a ≤ b
read_step limit os i a b h l p q =
    let s = ascend_step limit (pos 0) os i (pos 0) (offsets-ascend limit os h) l in
    let x = get_or_from_slice_get os i (pos a) (pos 0) p in
    let y = get_or_from_slice_get os (i + 1) (pos b) (pos 0) q in
    let t : pos a ≤ℤ pos b = subst (λ z. z ≤ℤ pos b) x (subst (λ z. get_or os i (pos 0) ≤ℤ z) y s) in
    omega (arith, ints)

-- ---- a list of offsets, by their numbers
module _ {O : Type 0} (number : O → ℤ) (limit : ℕ) where
  pub number_read : (xs : List O) (i : ℕ) (x : O) (d : ℤ) → i < length xs → x ≡ get_or xs i x → get_or (map number xs) i d ≡ number x
  number_read xs i x d l e = get_or-map number xs i x d l ∙ ap number (sym e)

  pub numbers_window : (xs : List O) (o n : ℕ) → AreOffsets limit (map number xs) → o + n < length xs
      → AreOffsets limit (map number (take (n + 1) (drop o xs)))
  numbers_window xs o n h l =
      let m = length-map xs number in
      let e : take (n + 1) (drop o (map number xs)) ≡ map number (take (n + 1) (drop o xs)) =
      ap (take (n + 1)) (drop-map number o xs) ∙ take-map number (n + 1) (drop o xs) in
      subst (AreOffsets limit) e (offsets_window limit (map number xs) o n h (omega arith))

  pub numbers_take : (xs : List O) (n : ℕ) → AreOffsets limit (map number xs) → AreOffsets limit (map number (take (n + 1) xs))
  numbers_take [] n h = absurd h
  numbers_take (x ∷ xs) n h =
      rw add-one (h.0, h.1, subst (Ascend limit (number x)) (take-map number n xs) (ascend_take limit (number x) n (map number xs) h.2))

  -- one that is read lies from the first to the last
  pub number_bounds : (xs : List O) (i : ℕ) (x : O) → AreOffsets limit (map number xs) → i < length xs → x ≡ get_or xs i x
      → (pos (first_of (map number xs)) ≤ℤ number x) × (number x ≤ℤ pos (end_of (map number xs)))
  number_bounds xs i x h l e =
      let m = length-map xs number in
      subst (λ z. (pos (first_of (map number xs)) ≤ℤ z) × (z ≤ℤ pos (end_of (map number xs)))) (number_read xs i x (pos 0) l e)
      (offsets_at limit (map number xs) i (pos 0) h (omega arith))

  pub number_get : (xs : List O) (i : ℕ) (x : O) → i < length xs → x ≡ get_or xs i x → slice_get (map number xs) i ≡ Some (number x)
  number_get xs i x l e =
      let m = length-map xs number in
      slice_get-get_or (map number xs) i (pos 0) (omega arith) ∙ ap Some (number_read xs i x (pos 0) l e)

  -- the last one, as a number
  pub last_number : (xs ys : List O) (x : O) → number x ≡ pos (end_of (map number ys)) → ys ≡ xs → to_nat (number x) ≡ end_of (map number xs)
  last_number xs ys x e q = ap to_nat e ∙ ap (λ zs. end_of (map number zs)) q

  pub number_end : (xs : List O) (x : O) (n : ℕ) → AreOffsets limit (map number xs) → n ≡ length xs → x ≡ get_or xs (n - 1) x → number x ≡ pos (end_of (map number xs))
  number_end xs x n h q e =
      let m = length-map xs number in
      let s = some-offsets limit (map number xs) h in
      sym (number_read xs (n - 1) x (pos 0) (omega arith) e)
      ∙ end_at limit 0 (map number xs) (n - 1) (pos 0) (offsets-ascend limit (map number xs) h) (omega arith)

  -- the numbers that are left, from one on
  pub numbers_rest : (xs : List O) (i : ℕ) (x : O) → i < length xs → x ≡ get_or xs i x → drop i (map number xs) ≡ number x ∷ drop (i + 1) (map number xs)
  numbers_rest xs i x l e =
      let m = length-map xs number in
      drop_more (map number xs) i (number x) (omega arith)
      ∙ ap (λ y. y ∷ drop (i + 1) (map number xs)) (number_read xs i x (number x) l e)

  pub numbers_append : (xs ys : List O) (more : List ℤ) → map number ys ≡ map number xs ++ more → AreOffsets limit (map number xs)
      → Ascend limit (pos (end_of (map number xs))) more → AreOffsets limit (map number ys)
  numbers_append xs ys more e h m = subst (AreOffsets limit) (sym e) (offsets_append limit (map number xs) more h m)

  pub numbers_push : (xs : List O) (x : O) (n : ℕ) → AreOffsets limit (map number xs) → number x ≡ pos (end_of (map number xs) + n)
      → end_of (map number xs) + n < limit → AreOffsets limit (map number (xs ++ x ∷ []))
  numbers_push xs x n h e l =
      let q : number x ≡ pos (end_of (map number xs) + n) = e in
      numbers_append xs (xs ++ x ∷ []) (number x ∷ []) (map-append number xs (x ∷ [])) h (omega (arith, ints), omega (arith, ints), tt)

  pub numbers_repeated : (xs : List O) (x : O) (n m k : ℕ) → number x ≡ pos (end_of (map number xs)) → length xs ≤ m → k ≡ n
      → map number (take m xs ++ replicate k x) ≡ map number xs ++ replicate n (pos (end_of (map number xs)))
  numbers_repeated xs x n m k e l q =
      map-append number (take m xs) (replicate k x)
      ∙ ap (λ ys. map number ys ++ map number (replicate k x)) (take_all m xs l)
      ∙ ap (λ ys. map number xs ++ ys) (map-replicate k ∙ ap (λ y. replicate k y) e ∙ ap (λ j. replicate j (pos (end_of (map number xs)))) q)
    where
      map-replicate : (k : ℕ) → map number (replicate k x) ≡ replicate k (number x)
      map-replicate zero = refl
      map-replicate (suc k) = ap (λ ys. number x ∷ ys) (map-replicate k)

  pub number_between : (xs : List O) (i : ℕ) (x : O) (a : ℕ) → Ascend limit (pos a) (map number xs) → i < length xs → x ≡ get_or xs i x
      → (pos a ≤ℤ number x) × (number x ≤ℤ pos (end_from a (map number xs)))
  number_between xs i x a h l e =
      let m = length-map xs number in
      let r = ascend_at limit a (map number xs) i (pos 0) h (omega arith) in
      subst (λ z. (pos a ≤ℤ z) × (z ≤ℤ pos (end_from a (map number xs)))) (number_read xs i x (pos 0) l e) (r.0, r.1)

-- ---- what is appended ascends
pub ascend_repeated : (limit a n : ℕ) → a < limit → Ascend limit (pos a) (replicate n (pos a))
ascend_repeated limit a zero h = tt
ascend_repeated limit a (suc n) h = (omega (arith, ints), omega (arith, ints), ascend_repeated limit a n h)

pub ascend_ends : (limit a : ℕ) (ns : List ℕ) → a + sum ns < limit → Ascend limit (pos a) (ends a ns)
ascend_ends limit a [] h = tt
ascend_ends limit a (n ∷ ns) h =
    let q = sum_by-cons (λ x. x) n ns in
    (omega (arith, ints), omega (arith, ints), ascend_ends limit (a + n) ns (omega arith))

pub ascend_moved : (limit first a to : ℕ) (os : List ℤ) → Ascend limit (pos a) os → first ≤ a → to + (end_from a os - first) < limit
    → Ascend limit (pos (to + (a - first))) (moved first to os)
ascend_moved limit first a to [] h l f = tt
ascend_moved limit first a to (negsuc k ∷ os) h l f = absurd (let q = h.0 in omega (arith, ints))
ascend_moved limit first a to (pos k ∷ os) h l f =
    let q = h.0 in
    let r = end_reaches limit k os h.2 in
    (omega (arith, ints), omega (arith, ints), ascend_moved limit first k to os h.2 (omega (arith, ints)) f)

-- what is moved from behind the first of some offsets
pub ascend_behind : {O : Type 0} (number : O → ℤ) (limit : ℕ) (xs : List O) (first to : ℕ) → AreOffsets limit (map number xs) → first ≡ first_of (map number xs)
    → to + (end_of (map number xs) - first) < limit → Ascend limit (pos to) (moved first to (map number (drop 1 xs)))
ascend_behind number limit xs first to h e l =
    let os = map number xs in
    let r : Ascend limit (pos first) (drop 1 os) = subst (λ a. Ascend limit (pos a) (drop 1 os)) (sym e) (offsets_rest limit os h) in
    let q : end_from first (drop 1 os) ≡ end_of os = ap (λ a. end_from a (drop 1 os)) e ∙ end_of-rest limit os h in
    let s : to + (first - first) ≡ to = omega arith in
    subst (λ ys. Ascend limit (pos to) (moved first to ys)) (drop-map number 1 xs)
    (subst (λ a. Ascend limit (pos a) (moved first to (drop 1 os))) s
    (ascend_moved limit first first to (drop 1 os) r (omega arith) (omega arith)))

-- ---- numbers that fall
pub falls_here : (least x : ℤ) (os : List ℤ) → x <ℤ least → falls least (x ∷ os) ≡ true
falls_here least x os h = let t : int_lt x least ≡ true = grind (arith, ints) in ap (λ b. b || falls x os) t

pub falls_later : (least x : ℤ) (os : List ℤ) → least ≤ℤ x → falls least (x ∷ os) ≡ falls x os
falls_later least x os h = let t : int_lt x least ≡ false = grind (arith, ints) in ap (λ b. b || falls x os) t

-- ---- where slots end, one after another
ends-append : (a : ℕ) (ns ms : List ℕ) → ends a (ns ++ ms) ≡ ends a ns ++ ends (a + sum ns) ms
ends-append a [] ms = ap (λ k. ends k ms) (sym (add-zero a))
ends-append a (n ∷ ns) ms =
    let q = sum_by-cons (λ x. x) n ns in
    let e : a + n + sum ns ≡ a + sum (n ∷ ns) = omega arith in
    ap (λ xs. pos (a + n) ∷ xs) (ends-append (a + n) ns ms ∙ ap (λ k. ends (a + n) ns ++ ends k ms) e)

pub ends_more : (a : ℕ) (ns : List ℕ) (i d : ℕ) → i < length ns
    → ends a (take (i + 1) ns) ≡ ends a (take i ns) ++ pos (a + sum (take i ns) + get_or ns i d) ∷ []
ends_more a ns i d h = ap (ends a) (take_more ns i d h) ∙ ends-append a (take i ns) (get_or ns i d ∷ [])

pub moved_more : {O : Type 0} (number : O → ℤ) (first to : ℕ) (xs : List O) (i : ℕ) (d : O) → i < length xs
    → moved first to (map number (take (i + 1) xs)) ≡ moved first to (map number (take i xs)) ++ pos (to + (to_nat (number (get_or xs i d)) - first)) ∷ []
moved_more number first to xs i d h =
    ap (moved first to) (map_more number xs i d h)
    ∙ map-append (λ o. pos (to + (to_nat o - first))) (map number (take i xs)) (number (get_or xs i d) ∷ [])

-- one more item behind numbers that were appended
pub numbers_more : {O : Type 0} (number : O → ℤ) (old mid new : List O) (more : List ℤ) (x : O) (n : ℕ) → map number mid ≡ map number old ++ more
    → new ≡ mid ++ x ∷ [] → number x ≡ pos n → map number new ≡ map number old ++ (more ++ pos n ∷ [])
numbers_more number old mid new more x n e q r =
    ap (map number) q ∙ map-append number mid (x ∷ []) ∙ ap (λ ys. ys ++ number x ∷ []) e
    ∙ ap (λ z. map number old ++ more ++ z ∷ []) r ∙ append_assoc (map number old) more (pos n ∷ [])
