use Rattle.std.proofs.Common.{refl, arith, sym, ap, ◌∙◌, ◌≡◌, ◌≤◌, ◌<◌, ℕ, ◌+◌, ◌-◌, ◌++◌, List, [], length, take, drop, min, take-append-drop, length-append, length-drop}
use Rattle.std.proofs.lemmas.List.{take_all, take-append-le, drop-drop, length-take, drop_all}
use Rattle.jobs.proofs.memory.give.Goals as goal

taken : (xs new : List ℕ) (i n : ℕ) → new ≡ take ((i + n) - i) (drop i xs) → new ≡ take n (drop i xs)
taken xs new i n is = let e : (i + n) - i ≡ n = omega arith in is ∙ ap (λ k. take k (drop i xs)) e

new_len : (xs new : List ℕ) (i n : ℕ) → new ≡ take n (drop i xs) → i + n ≤ length xs → length new ≡ n
new_len xs new i n is fits = let e : length new ≡ min n (length (drop i xs)) = ap length is ∙ length-take n (drop i xs) in omega (arith, length-drop i xs)

-- the bytes that were left are those given and those left now
moved : (xs new rest : List ℕ) (i n : ℕ) → new ≡ take n (drop i xs) → i + n ≤ length xs → drop i xs ≡ take n (new ++ rest) ++ drop (i + n) xs
moved xs new rest i n is fits =
    let len = new_len xs new i n is fits in
    let front : take n (new ++ rest) ≡ take n (drop i xs) = take-append-le n new rest (omega (arith, len)) ∙ take_all n new (omega (arith, len)) ∙ is in
    sym (take-append-drop n (drop i xs)) ∙ ap (λ l. take n (drop i xs) ++ l) (drop-drop n i xs) ∙ ap (λ l. l ++ drop (i + n) xs) (sym front)

-- nothing is given into a buffer with room only at the end
ended : (xs new buf : List ℕ) (i n p b left : ℕ) → length new ≡ n → n ≡ min (min p b) left → 0 < p → b ≡ length buf → left ≡ length xs - i → n ≡ 0 → 0 < length (new ++ drop n buf) → drop (i + n) xs ≡ []
ended xs new buf i n p b left len is some room rest zero more =
    let has : length (new ++ drop n buf) ≡ length new + (length buf - n) = length-append new (drop n buf) ∙ ap (λ k. length new + k) (length-drop n buf) in
    drop_all (i + n) xs (omega arith)

pub returns-clause-moved : goal.returns-clause-moved
returns-clause-moved c =
    let n : ℕ = c.min-count.result in
    let new : List ℕ = c.copy_from_slice.new.self in
    let xs : List ℕ = c.args.bytes.now in
    let at : ℕ = c.args.at in
    let some : 0 < c.args.most = c.requires.some in
    let within : at ≤ length xs = c.requires.within in
    let fits : at + n ≤ length xs = omega arith in
    let is = taken xs new at n c.copy_from_slice.ensures.after in
    let least : n ≡ min (min c.args.most (length c.args.buf.now)) (length xs - at) = omega arith in
    (moved xs new _ at n is fits, ended xs new c.args.buf.now at n c.args.most _ _ (new_len xs new at n is fits) least some refl refl)
