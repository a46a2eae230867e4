-- Offsets behind which those of other lists are appended.
use Rattle.std.proofs.Common.{◌≡◌, ℕ, zero, suc, pred, ◌+◌, ◌-◌, ◌*◌, ◌<◌, ◌≤◌, ℤ, pos, List, [], ◌∷◌, ◌++◌, length, map, take, drop, sum, replicate, flat_map, refl, ap, ap₂, sym, ◌∙◌, subst, arith, append_assoc}
use Rattle.std.specs.List.{AllByRecursion}
use Rattle.std.proofs.Math.Nat.{mul-le-mul_right}
use Rattle.std.proofs.lemmas.Int.{ints}
use Rattle.std.proofs.lemmas.List.{append-nil, replicate-append-replicate, take_all}
use Rattle.std.proofs.lemmas.Grind.{flat_map-append}
use Rattle.arrow_types.specs.Carried.{IsBelow}
use Rattle.arrow_buffers.specs.Offsets.{AreOffsets, Ascend, end_of, first_of, moved}
use Rattle.arrow_layout.specs.Canon.{offsets, sums_from}
use Rattle.arrow_items.proofs.ByKind.{below_sum, sum_cons}
use Rattle.arrow_items.proofs.ListItems.{end_of-offsets, offsets-append, sum-append}
use Rattle.arrow_growable.specs.Parts.{repeated}

pub repeated_split : {A : Type 0} (i k : ℕ) (xs : List A) → repeated (i + k) xs ≡ repeated i xs ++ repeated k xs
repeated_split i k xs = ap (flat_map (λ ys. ys)) (sym (replicate-append-replicate i k xs)) ∙ flat_map-append (λ ys. ys) (replicate i xs) (replicate k xs)

pub repeated_more : {A : Type 0} (i : ℕ) (xs : List A) → repeated i xs ++ xs ≡ repeated (i + 1) xs
repeated_more i xs = ap (λ ys. repeated i xs ++ ys) (sym (append-nil xs)) ∙ sym (repeated_split i 1 xs)

pub repeated_replicate : {A : Type 0} (k n : ℕ) (x : A) → repeated k (replicate n x) ≡ replicate (n * k) x
repeated_replicate zero n x = let z : 0 ≡ n * 0 = omega arith in ap (λ i. replicate i x) z
repeated_replicate (suc k) n x =
    let z : n + n * k ≡ n * suc k = omega arith in
    ap (λ ys. replicate n x ++ ys) (repeated_replicate k n x) ∙ replicate-append-replicate n (n * k) x ∙ ap (λ i. replicate i x) z

pub repeated_none : (ns ms : List ℕ) → ns ≡ ns ++ repeated 0 ms
repeated_none ns ms = sym (append-nil ns)

pub repeated_sum : (n : ℕ) (ms : List ℕ) → sum (repeated n ms) ≡ n * sum ms
repeated_sum zero ms = omega arith
repeated_sum (suc n) ms = let e = repeated_sum n ms in let a = sum-append ms (repeated n ms) in grind arith

moved_sums : (e a : ℕ) (ms : List ℕ) → moved 0 e (map pos (sums_from a ms)) ≡ map pos (sums_from (e + a) ms)
moved_sums e a [] = refl
moved_sums e a (m ∷ ms) =
    let h : e + ((a + m) - 0) ≡ (e + a) + m = omega arith in
    let k : e + (a + m) ≡ (e + a) + m = omega arith in
    ap₂ (λ x xs. pos x ∷ xs) h (moved_sums e (a + m) ms ∙ ap (λ b. map pos (sums_from b ms)) k)

pub ends_appended : (ns ms : List ℕ) → offsets ns ++ moved (first_of (offsets ms)) (end_of (offsets ns)) (drop 1 (offsets ms)) ≡ offsets (ns ++ ms)
ends_appended ns ms =
    let e : end_of (offsets ns) + 0 ≡ sum ns = omega (arith, end_of-offsets ns) in
    ap (λ ys. offsets ns ++ ys) (moved_sums (end_of (offsets ns)) 0 ms ∙ ap (λ b. map pos (sums_from b ms)) e) ∙ sym (offsets-append ns ms)

pub whole_window : {A : Type 0} (xs : List A) (n : ℕ) → n ≡ pred (length xs) → 0 < length xs → take (n + 1) (drop 0 xs) ≡ xs
whole_window xs n e h = take_all (n + 1) xs (omega (arith, e, h))

-- where the copies before the last one would pass a limit, all of them do
pub copies_past : (limit : ℕ) (ns ms : List ℕ) (i n : ℕ) → i < n → limit ≤ sum ((ns ++ repeated i ms) ++ ms) → limit ≤ sum (ns ++ repeated n ms)
copies_past limit ns ms i n h k =
    let a = sum-append (ns ++ repeated i ms) ms in
    let b = sum-append ns (repeated i ms) in
    let c = sum-append ns (repeated n ms) in
    let more : (i + 1) * sum ms ≤ n * sum ms = mul-le-mul_right (sum ms) (omega (arith, h)) in
    let one : (i + 1) * sum ms ≡ i * sum ms + sum ms = grind arith in
    omega (arith, k, a, b, c, repeated_sum i ms, repeated_sum n ms, more, one)

last_below : (limit a : ℕ) (least : ℤ) (ns : List ℕ) → Ascend limit least (pos a ∷ map pos (sums_from a ns)) → a + sum ns < limit
last_below limit a least [] h = let q = h.1 in omega (arith, ints)
last_below limit a least (n ∷ ns) h = omega (arith, last_below limit (a + n) (pos a) ns h.2, sum_cons n ns)

pub sum_low : (limit : ℕ) (os : List ℤ) (ns : List ℕ) → os ≡ offsets ns → AreOffsets limit os → sum ns < limit
sum_low limit os ns e h = omega (arith, last_below limit 0 (pos 0) ns (subst (AreOffsets limit) e h))

length-sums : (a : ℕ) (ns : List ℕ) → length (map pos (sums_from a ns)) ≡ length ns
length-sums a [] = refl
length-sums a (n ∷ ns) = ap suc (length-sums (a + n) ns)

pub offsets_count : (ns : List ℕ) → length (offsets ns) ≡ suc (length ns)
offsets_count ns = ap suc (length-sums 0 ns)

-- lists that pass a limit once do so copied, behind others
pub once_past : (limit : ℕ) (ns ks ms : List ℕ) (n : ℕ) → 0 < n → offsets ks ≡ offsets ms → limit ≤ sum ks → limit ≤ sum (ns ++ repeated n ms)
once_past limit ns ks ms n some e h =
    let same : sum ks ≡ sum ms = sym (end_of-offsets ks) ∙ ap end_of e ∙ end_of-offsets ms in
    let more : 1 * sum ms ≤ n * sum ms = mul-le-mul_right (sum ms) (omega (arith, some)) in
    omega (arith, h, same, more, sum-append ns (repeated n ms), repeated_sum n ms)

pub ends_below : (limit : ℕ) (ns : List ℕ) → sum ns < limit → AllByRecursion (IsBelow limit) (offsets ns)
ends_below limit ns h = (omega (arith, h), below_sum limit 0 ns (omega (arith, h)))
