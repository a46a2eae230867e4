-- Parts of the lists that a layout holds.
use Rattle.std.proofs.Common.{Bool, List, None, Option, Some, [], add-mul, ap, ap₂, arith, cond, drop, drop-drop, false, get_or, if◌then◌else◌, length, map, mul-le-mul_right, refl, replicate, suc, sym, take, take-take, true, zero, ℕ, ◌*◌, ◌+◌, ◌-◌, ◌∙◌, ◌∷◌, ◌≡◌, ◌≤◌}
use Rattle.std.proofs.lemmas.Bool.{and_parts}
use Rattle.std.proofs.lemmas.List.{drop-map, drop-replicate, drop-take, take-map, take-replicate}
use Rattle.std.specs.List.{list_all}
use Rattle.arrow_buffers.specs.Bits.{Bits, cut_bits}
use Rattle.arrow_flat.specs.Slots.{Slot, Slots, chosen, null, slot}
use Rattle.arrow_layout.specs.Cut.{part}
use Rattle.arrow_flat.specs.Primitives.{cut_mask}
use Rattle.arrow_layout.specs.Denote.{first_slot, masked, masked_by, sparse_slots, with_column}
use Rattle.arrow_flat.specs.Pieces.{chunks, pieces, pieces_from}
use Rattle.arrow_layout.specs.WellFormed.{MaskFits}
use Rattle.arrow_flat.proofs.Lists.{drop_none, map-map, map-same}

pub part-map : {A B : Type 0} (f : A → B) (o n : ℕ) (xs : List A) → part o n (map f xs) ≡ map f (part o n xs)
part-map f o n xs = ap (take n) (drop-map f o xs) ∙ take-map f n (drop o xs)

drop-masked_by : (o : ℕ) (bits : List Bool) (xs : List Slot) → length bits ≡ length xs → drop o (masked_by bits xs) ≡ masked_by (drop o bits) (drop o xs)
drop-masked_by zero bits xs e = refl
drop-masked_by (suc o) [] [] e = refl
drop-masked_by (suc o) [] (x ∷ xs) e = absurd (omega arith)
drop-masked_by (suc o) (b ∷ bits) [] e = absurd (omega arith)
drop-masked_by (suc o) (b ∷ bits) (x ∷ xs) e = drop-masked_by o bits xs (omega arith)

take-masked_by : (n : ℕ) (bits : List Bool) (xs : List Slot) → take n (masked_by bits xs) ≡ masked_by (take n bits) (take n xs)
take-masked_by zero bits xs = refl
take-masked_by (suc n) [] xs = refl
take-masked_by (suc n) (b ∷ bits) [] = refl
take-masked_by (suc n) (b ∷ bits) (x ∷ xs) = ap (λ ys. cond b x null ∷ ys) (take-masked_by n bits xs)

all_true_masked : (bits : List Bool) (xs : List Slot) → list_all (λ b. b) bits ≡ true → masked_by bits xs ≡ xs
all_true_masked [] xs e = refl
all_true_masked (b ∷ bits) [] e = refl
all_true_masked (b ∷ bits) (x ∷ xs) e = let both = and_parts b (list_all (λ c. c) bits) e in rw both.0 (ap (λ ys. x ∷ ys) (all_true_masked bits xs both.1))

needed_masked_by : (b : Bits) (xs : List Slot) (c : Bool) → list_all (λ d. d) b.bits ≡ c → masked (if c then None else Some b) xs ≡ masked_by b.bits xs
needed_masked_by b xs true e = sym (all_true_masked b.bits xs e)
needed_masked_by b xs false e = refl

-- the slots under the part of a mask
pub part-masked : (m : Option Bits) (o n len : ℕ) (xs : List Slot) → length xs ≡ len → MaskFits m len → masked (cut_mask o n m) (part o n xs) ≡ part o n (masked m xs)
part-masked None o n len xs e f = refl
part-masked (Some b) o n len xs e f =
    needed_masked_by (cut_bits b o n) (part o n xs) (list_all (λ c. c) (part o n b.bits)) refl
    ∙ (sym (take-masked_by n (drop o b.bits) (drop o xs)) ∙ ap (take n) (sym (drop-masked_by o b.bits xs (f.0 ∙ sym e))))

take-none : {A : Type 0} (n : ℕ) → ◌≡◌ {A = List A} (take n []) []
take-none zero = refl
take-none (suc n) = refl

drop-none : {A : Type 0} (o : ℕ) → ◌≡◌ {A = List A} (drop o []) []
drop-none zero = refl
drop-none (suc o) = refl

take-pieces_from : {A : Type 0} (n a : ℕ) (os : List ℕ) (xs : List A) → pieces_from a (take n os) xs ≡ take n (pieces_from a os xs)
take-pieces_from zero a os xs = refl
take-pieces_from (suc n) a [] xs = refl
take-pieces_from (suc n) a (b ∷ os) xs = ap (λ ps. take (b - a) (drop a xs) ∷ ps) (take-pieces_from n b os xs)

pub part-pieces : {A : Type 0} (o n : ℕ) (os : List ℕ) (xs : List A) → pieces (part o (suc n) os) xs ≡ part o n (pieces os xs)
part-pieces zero n [] xs = sym (take-none n)
part-pieces zero n (a ∷ os) xs = take-pieces_from n a os xs
part-pieces (suc o) n [] xs = sym (take-none n)
part-pieces (suc o) n (a ∷ []) xs = part-pieces o n [] xs ∙ ap (take n) (drop-none o)
part-pieces (suc o) n (a ∷ b ∷ os) xs = part-pieces o n (b ∷ os) xs

drop-chunks : {A : Type 0} (o k len : ℕ) (xs : List A) → o ≤ len → chunks k (len - o) (drop (o * k) xs) ≡ drop o (chunks k len xs)
drop-chunks zero k len xs h = let e : len - 0 ≡ len = omega arith in let f : 0 * k ≡ 0 = omega arith in rw (e, f) refl
drop-chunks (suc o) k zero xs h = absurd (omega arith)
drop-chunks (suc o) k (suc len) xs h =
    let e : suc len - suc o ≡ len - o = omega arith in
    let f : suc o * k ≡ k + o * k = grind arith in
    rw (e, f, ← drop-drop (o * k) k xs) (drop-chunks o k len (drop k xs) (omega arith))

take-chunks : {A : Type 0} (n k len : ℕ) (xs : List A) → n ≤ len → chunks k n (take (n * k) xs) ≡ take n (chunks k len xs)
take-chunks zero k len xs h = refl
take-chunks (suc n) k zero xs h = absurd (omega arith)
take-chunks (suc n) k (suc len) xs h =
    let f : suc n * k ≡ k + n * k = grind arith in
    rw f (ap₂ (λ y ys. y ∷ ys) (take-take k (k + n * k) xs (omega arith)) (ap (chunks k n) (drop-take k (n * k) xs) ∙ take-chunks n k len (drop k xs) (omega arith)))

pub part-chunks : {A : Type 0} (o n k len : ℕ) (xs : List A) → o + n ≤ len → chunks k n (part (o * k) (n * k) xs) ≡ part o n (chunks k len xs)
part-chunks o n k len xs h = take-chunks n k (len - o) (drop (o * k) xs) (omega arith) ∙ ap (take n) (drop-chunks o k len xs (omega arith))

pub take-with_column : (n : ℕ) (xs : List Slot) (rs : List Slots) → with_column (take n xs) (take n rs) ≡ take n (with_column xs rs)
take-with_column zero xs rs = refl
take-with_column (suc n) [] rs = refl
take-with_column (suc n) (x ∷ xs) [] = refl
take-with_column (suc n) (x ∷ xs) (r ∷ rs) = ap (λ qs. slot x r ∷ qs) (take-with_column n xs rs)

pub drop-with_column : (o : ℕ) (xs : List Slot) (rs : List Slots) → length xs ≡ length rs → with_column (drop o xs) (drop o rs) ≡ drop o (with_column xs rs)
drop-with_column zero xs rs e = refl
drop-with_column (suc o) [] [] e = refl
drop-with_column (suc o) [] (r ∷ rs) e = absurd (omega arith)
drop-with_column (suc o) (x ∷ xs) [] e = absurd (omega arith)
drop-with_column (suc o) (x ∷ xs) (r ∷ rs) e = drop-with_column o xs rs (omega arith)

pub part-replicate : {A : Type 0} (o n len : ℕ) (x : A) → o + n ≤ len → replicate n x ≡ part o n (replicate len x)
part-replicate o n len x h = rw (drop-replicate o len x) (sym (take-replicate n (len - o) x (omega arith)))

pub take-sparse : (select_field : ℕ → ℕ) (n : ℕ) (ts : List ℕ) (cs : List (List Slot)) → sparse_slots select_field (take n ts) cs ≡ take n (sparse_slots select_field ts cs)
take-sparse select_field zero ts cs = refl
take-sparse select_field (suc n) [] cs = refl
take-sparse select_field (suc n) (t ∷ ts) cs = ap (λ xs. chosen t (first_slot (get_or cs (select_field t) [])) ∷ xs) (take-sparse select_field n ts (map (drop 1) cs))

drop_again : (o : ℕ) (cs : List (List Slot)) → map (drop (suc o)) cs ≡ map (drop o) (map (drop 1) cs)
drop_again o cs = map-same (drop (suc o)) (λ c. drop o (drop 1 c)) (λ c. let e : 1 + o ≡ suc o = omega arith in sym (drop-drop o 1 c ∙ ap (λ i. drop i c) e)) cs ∙ sym (map-map (drop o) (drop 1) cs)

pub drop-sparse : (select_field : ℕ → ℕ) (o : ℕ) (ts : List ℕ) (cs : List (List Slot)) → sparse_slots select_field (drop o ts) (map (drop o) cs) ≡ drop o (sparse_slots select_field ts cs)
drop-sparse select_field zero ts cs = ap (sparse_slots select_field ts) (drop_none cs)
drop-sparse select_field (suc o) [] cs = refl
drop-sparse select_field (suc o) (t ∷ ts) cs = rw (drop_again o cs) (drop-sparse select_field o ts (map (drop 1) cs))

pub shifted : (s o : ℕ) (cs : List (List Slot)) → map (drop (s + o)) cs ≡ map (drop o) (map (drop s) cs)
shifted s o cs = map-same (drop (s + o)) (λ c. drop o (drop s c)) (λ c. sym (drop-drop o s c)) cs ∙ sym (map-map (drop o) (drop s) cs)

pub scaled : (o n len k : ℕ) → o + n ≤ len → o * k + n * k ≤ len * k
scaled o n len k h = rw (← add-mul o n k) (mul-le-mul_right k h)
