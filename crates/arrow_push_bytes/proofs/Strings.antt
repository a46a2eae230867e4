-- Strings one behind another, and the offsets and bytes that hold them.
use Rattle.std.proofs.Common.{◌≡◌, ℕ, zero, suc, ◌+◌, ◌-◌, ◌<◌, ◌≤◌, ℤ, pos, List, [], ◌∷◌, ◌++◌, map, length, take, drop, refl, ap, sym, ◌∙◌, subst, arith}
use Rattle.std.specs.List.{concat}
use Rattle.std.proofs.lemmas.List.{append_assoc, append-nil, length-append, length-map, take-map}
use Rattle.std.proofs.lemmas.List.Folds.{concat-append}
use Rattle.std.proofs.Math.Seq.{take-append_seam, drop-append_seam, take-append-add}
use Rattle.arrow_buffers.specs.Offsets.{to_nat, end_from, end_of, ends}
use Rattle.arrow_flat.specs.Natives.{AreBytes}
use Rattle.arrow_flat.specs.Pieces.{pieces_from, pieces}
use Rattle.arrow_flat.proofs.Lists.{all_join, all_take}
use Rattle.arrow_push_bytes.specs.Strings.{total_of, borders, AreStrings}

-- ---- sums

pub total_append : (xs ys : List (List ℕ)) → total_of (xs ++ ys) ≡ total_of xs + total_of ys
total_append [] ys = omega arith
total_append (x ∷ xs) ys = let q = total_append xs ys in omega arith

pub total_push : (xs : List (List ℕ)) (v : List ℕ) → total_of (xs ++ v ∷ []) ≡ total_of xs + length v
total_push xs v = let q : total_of (xs ++ v ∷ []) ≡ total_of xs + (length v + 0) = total_append xs (v ∷ []) in omega arith

joined_push : (xs : List (List ℕ)) (v : List ℕ) → concat (xs ++ v ∷ []) ≡ concat xs ++ v
joined_push xs v = concat-append xs (v ∷ []) ∙ ap (λ zs. concat xs ++ zs) (append-nil v)

pub joined_length : (xs : List (List ℕ)) → length (concat xs) ≡ total_of xs
joined_length [] = refl
joined_length (x ∷ xs) = length-append x (concat xs) ∙ ap (λ n. length x + n) (joined_length xs)

-- ---- borders

ends_push : (a : ℕ) (xs : List (List ℕ)) (v : List ℕ) → ends a (map length (xs ++ v ∷ [])) ≡ ends a (map length xs) ++ pos (a + total_of xs + length v) ∷ []
ends_push a [] v = let q : a + length v ≡ a + 0 + length v = omega arith in ap (λ n. pos n ∷ []) q
ends_push a (x ∷ xs) v =
    let q : a + length x + total_of xs + length v ≡ a + (length x + total_of xs) + length v = omega arith in
    ap (λ os. pos (a + length x) ∷ os) (ends_push (a + length x) xs v ∙ ap (λ n. ends (a + length x) (map length xs) ++ pos n ∷ []) q)

borders_push : (xs : List (List ℕ)) (v : List ℕ) → borders (xs ++ v ∷ []) ≡ borders xs ++ pos (total_of xs + length v) ∷ []
borders_push xs v =
    let q : 0 + total_of xs + length v ≡ total_of xs + length v = omega arith in
    ap (λ os. pos 0 ∷ os) (ends_push 0 xs v) ∙ ap (λ n. borders xs ++ pos n ∷ []) q

ends_end : (a : ℕ) (xs : List (List ℕ)) → end_from a (ends a (map length xs)) ≡ a + total_of xs
ends_end a [] = omega arith
ends_end a (x ∷ xs) = let q = ends_end (a + length x) xs in omega arith

pub borders_end : (xs : List (List ℕ)) → end_of (borders xs) ≡ total_of xs
borders_end xs = let q = ends_end 0 xs in omega arith

ends_count : (a : ℕ) (ns : List ℕ) → length (ends a ns) ≡ length ns
ends_count a [] = refl
ends_count a (n ∷ ns) = ap suc (ends_count (a + n) ns)

borders_count : (xs : List (List ℕ)) → length (borders xs) ≡ length xs + 1
borders_count xs =
    let a : length (ends 0 (map length xs)) ≡ length (map length xs) = ends_count 0 (map length xs) in
    let b : length (map length xs) ≡ length xs = length-map xs length in
    omega arith

ends_take : (a n : ℕ) (xs : List (List ℕ)) → take n (ends a (map length xs)) ≡ ends a (map length (take n xs))
ends_take a zero xs = refl
ends_take a (suc n) [] = refl
ends_take a (suc n) (x ∷ xs) = ap (λ os. pos (a + length x) ∷ os) (ends_take (a + length x) n xs)

borders_take : (n : ℕ) (xs : List (List ℕ)) → take (n + 1) (borders xs) ≡ borders (take n xs)
borders_take n xs =
    let q : n + 1 ≡ suc n = omega arith in
    ap (λ k. take k (borders xs)) q ∙ ap (λ os. pos 0 ∷ os) (ends_take 0 n xs)

joined_take : (n : ℕ) (xs : List (List ℕ)) → take (total_of (take n xs)) (concat xs) ≡ concat (take n xs)
joined_take zero xs = refl
joined_take (suc n) [] = refl
joined_take (suc n) (x ∷ xs) = take-append-add x (concat xs) (total_of (take n xs)) ∙ ap (λ zs. x ++ zs) (joined_take n xs)

-- ---- the pieces between the borders of strings are the strings

pieces_joined : (a : ℕ) (front : List ℕ) (xs : List (List ℕ)) → length front ≡ a
    → pieces_from a (map to_nat (ends a (map length xs))) (front ++ concat xs) ≡ xs
pieces_joined a front [] e = refl
pieces_joined a front (x ∷ xs) e =
    let all = front ++ (x ++ concat xs) in
    let later = map to_nat (ends (a + length x) (map length xs)) in
    let n : a + length x - a ≡ length x = omega arith in
    let here : take (a + length x - a) (drop a all) ≡ x =
    ap (λ k. take k (drop a all)) n ∙ ap (λ k. take (length x) (drop k all)) (sym e)
    ∙ ap (λ ys. take (length x) ys) (drop-append_seam front (x ++ concat xs)) ∙ take-append_seam x (concat xs) in
    let rest : pieces_from (a + length x) later all ≡ xs =
    ap (λ ys. pieces_from (a + length x) later ys) (sym (append_assoc front x (concat xs)))
    ∙ pieces_joined (a + length x) (front ++ x) xs (length-append front x ∙ ap (λ k. k + length x) e) in
    ap (λ y. y ∷ pieces_from (a + length x) later all) here ∙ ap (λ ys. x ∷ ys) rest

pub pieces_are : (os : List ℤ) (bs : List ℕ) (xs : List (List ℕ)) → AreStrings os bs xs → pieces (map to_nat os) bs ≡ xs
pieces_are os bs xs s =
    ap (λ ps. pieces (map to_nat ps) bs) s.borders_are ∙ ap (λ cs. pieces (map to_nat (borders xs)) cs) s.bytes_are ∙ pieces_joined 0 [] xs refl

pub own_strings : (os : List ℤ) (bs : List ℕ) (xs : List (List ℕ)) → AreStrings os bs xs → AreStrings os bs (pieces (map to_nat os) bs)
own_strings os bs xs s = subst (AreStrings os bs) (sym (pieces_are os bs xs s)) s

-- ---- what calls do

module _ (os : List ℤ) (bs : List ℕ) (xs : List (List ℕ)) (s : AreStrings os bs xs) where
  pub strings_end : end_of os ≡ total_of xs
  strings_end = ap end_of s.borders_are ∙ borders_end xs

  pub strings_count : length os ≡ length xs + 1
  strings_count = ap (λ (ps : List ℤ). length ps) s.borders_are ∙ borders_count xs

  pub strings_bytes : length bs ≡ total_of xs
  strings_bytes = ap (λ (cs : List ℕ). length cs) s.bytes_are ∙ joined_length xs

  pub strings_push : (ps : List ℤ) (cs v : List ℕ) → AreBytes v → ps ≡ os ++ pos (end_of os + length v) ∷ [] → cs ≡ bs ++ v → AreStrings ps cs (xs ++ v ∷ [])
  strings_push ps cs v h e f = record {
    borders_are = e ∙ ap (λ n. os ++ pos (n + length v) ∷ []) strings_end ∙ ap (λ qs. qs ++ pos (total_of xs + length v) ∷ []) s.borders_are ∙ sym (borders_push xs v);
    bytes_are = f ∙ ap (λ ds. ds ++ v) s.bytes_are ∙ sym (joined_push xs v);
    small = subst AreBytes (sym f) (all_join (λ b. b < 256) bs v s.small h);
  }

  pub strings_take : (ps : List ℤ) (cs : List ℕ) (n : ℕ) → ps ≡ take (n + 1) os → cs ≡ take (end_of ps) bs → AreStrings ps cs (take n xs)
  strings_take ps cs n e f =
      let b : ps ≡ borders (take n xs) = e ∙ ap (λ qs. take (n + 1) qs) s.borders_are ∙ borders_take n xs in
      record {
        borders_are = b;
        bytes_are = f ∙ ap (λ k. take k bs) (ap end_of b ∙ borders_end (take n xs)) ∙ ap (λ ds. take (total_of (take n xs)) ds) s.bytes_are ∙ joined_take n xs;
        small = subst AreBytes (sym f) (all_take (λ b. b < 256) (end_of ps) bs s.small);
      }

pub no_strings : AreStrings (pos 0 ∷ []) [] []
no_strings = record { borders_are = refl; bytes_are = refl; small = tt }

pub same_strings : (os ps : List ℤ) (bs cs : List ℕ) (xs : List (List ℕ)) → AreStrings os bs xs → ps ≡ os → cs ≡ bs → AreStrings ps cs xs
same_strings os ps bs cs xs s e f = record {
  borders_are = e ∙ s.borders_are;
  bytes_are = f ∙ s.bytes_are;
  small = subst AreBytes (sym f) s.small;
}

-- ---- offsets by their numbers

module _ {O : Type 0} (number : O → ℤ) where
  pub numbers_count : (os : List O) (bs : List ℕ) (xs : List (List ℕ)) → AreStrings (map number os) bs xs → length os ≡ length xs + 1
  numbers_count os bs xs s = sym (length-map os number) ∙ strings_count (map number os) bs xs s

  -- a slot was put behind, and goes again
  numbers_back : (os more ps : List O) (z : ℤ) (n : ℕ) → map number more ≡ map number os ++ z ∷ [] → n + 1 ≡ length os → ps ≡ take (n + 1) more
      → map number ps ≡ map number os
  numbers_back os more ps z n e c f =
      let k : n + 1 ≡ length (map number os) = c ∙ sym (length-map os number) in
      ap (map number) f ∙ sym (take-map number (n + 1) more) ∙ ap (take (n + 1)) e
      ∙ ap (λ j. take j (map number os ++ z ∷ [])) k ∙ take-append_seam (map number os) (z ∷ [])

  pub strings_back : (os more ps : List O) (bs cs : List ℕ) (xs : List (List ℕ)) (z : ℤ) (n : ℕ) → AreStrings (map number os) bs xs
      → map number more ≡ map number os ++ z ∷ [] → n + 1 ≡ length os → ps ≡ take (n + 1) more → cs ≡ bs → AreStrings (map number ps) cs xs
  strings_back os more ps bs cs xs z n s e c f h = same_strings (map number os) (map number ps) bs cs xs s (numbers_back os more ps z n e c f) h

  pub numbers_cut : (os ps : List O) (n : ℕ) → ps ≡ take (n + 1) os → map number ps ≡ take (n + 1) (map number os)
  numbers_cut os ps n e = ap (map number) e ∙ sym (take-map number (n + 1) os)

-- ---- strings of others behind

pub total_take : (n : ℕ) (xs : List (List ℕ)) → total_of (take n xs) ≤ total_of xs
total_take zero xs = omega arith
total_take (suc n) [] = omega arith
total_take (suc n) (x ∷ xs) = let q = total_take n xs in omega arith
