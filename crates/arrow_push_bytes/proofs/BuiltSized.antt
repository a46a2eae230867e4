-- What pushes do to builders of binary values of one size.
use Rattle.std.proofs.Common.{◌≡◌, ℕ, zero, suc, ◌+◌, ◌-◌, ◌*◌, ◌/◌, ◌%◌, ◌<◌, ◌≤◌, nat_eq, Bool, true, false, cond, if◌then◌else◌, List, [], ◌∷◌, ◌++◌, map, length, take, drop, replicate, refl, ap, sym, subst, ◌∙◌, arith, Some}
use Rattle.std.specs.List.{AllByRecursion}
use Rattle.std.specs.Option.{unwrap_or}
use Rattle.std.proofs.lemmas.List.{append-nil, map-append, length-append, length-map, length-drop, length-take-le, length-replicate, take-append-le, drop-append-le, take-append-drop, take_all}
use Rattle.std.proofs.Math.Nat.{div-mul-le_self, mul-le-mul_right, mod-eq-sub-div-mul}
use Rattle.std.proofs.Math.Seq.{take-append_seam}
use Rattle.arrow_types.specs.Seen.{seen}
use Rattle.arrow_types.specs.TypeData.{TypeData}
use Rattle.arrow_types.specs.declared.datatype.ArrowDataType.{ArrowDataType}
use Rattle.arrow_types.specs.declared.error.PolarsError.TheVariants.{ComputeError}
use Rattle.arrow_types.specs.declared.error.Reason.TheVariants.{WrongWidth}
use Rattle.arrow_flat.specs.Natives.{AreBytes}
use Rattle.arrow_flat.specs.Pieces.{chunks}
use Rattle.arrow_flat.proofs.Lists.{all_join, all_replicate}
use Rattle.arrow_flat.specs.Slots.{Slot, bytes}
use Rattle.arrow_flat.specs.Built.{Takes, IsUnchanged, IsCutTo}
use Rattle.arrow_flat.proofs.Pieces.{chunk_count, whole_count, whole_multiple}
use Rattle.arrow_bytes.specs.FixedSizeBinaries.{declared_size, size_or_zero}
use Rattle.arrow_push_bytes.proofs.BuiltStrings.{strings_take, strings_keep, strings_cut}
use Rattle.arrow_push_bytes.specs.BuiltSized.{SizedBytes, sized_strings, width_refusal, built_sized, zeros_of}

-- ---- whole multiples

pub multiple : (n k : ℕ) → 0 < k → n % k ≡ 0 → n ≡ n / k * k
multiple n k p e = let q = mod-eq-sub-div-mul n k in let l = div-mul-le_self n k in omega arith

pub sum_multiple : (a b k : ℕ) → 0 < k → a % k ≡ 0 → b % k ≡ 0 → (a + b) % k ≡ 0
sum_multiple a b k p e f =
    let m = multiple a k p e in
    let n = multiple b k p f in
    let q : a + b ≡ (a / k + b / k) * k = omega arith in
    ap (λ z. z % k) q ∙ whole_multiple (a / k + b / k) k p

sum_count : (a b k : ℕ) → 0 < k → a % k ≡ 0 → b % k ≡ 0 → (a + b) / k ≡ a / k + b / k
sum_count a b k p e f =
    let m = multiple a k p e in
    let n = multiple b k p f in
    let q : a + b ≡ (a / k + b / k) * k = omega arith in
    ap (λ z. z / k) q ∙ whole_count (a / k + b / k) k p

own_multiple : (k : ℕ) → 0 < k → k % k ≡ 0
own_multiple k p = let q : k ≡ 1 * k = omega arith in ap (λ z. z % k) q ∙ whole_multiple 1 k p

own_count : (k : ℕ) → 0 < k → k / k ≡ 1
own_count k p = let q : k ≡ 1 * k = omega arith in ap (λ z. z / k) q ∙ whole_count 1 k p

-- ---- appended chunks

chunks_append : (k n m : ℕ) (bs cs : List ℕ) → length bs ≡ n * k → chunks k (n + m) (bs ++ cs) ≡ chunks k n bs ++ chunks k m cs
chunks_append k zero m [] cs e = let q : 0 + m ≡ m = omega arith in ap (λ j. chunks k j cs) q
chunks_append k zero m (b ∷ bs) cs e = absurd (omega arith)
chunks_append k (suc n) m bs cs e =
    let q : suc n + m ≡ suc (n + m) = omega arith in
    let h : k ≤ length bs = omega arith in
    let d = length-drop k bs in
    ap (λ j. chunks k j (bs ++ cs)) q
    ∙ ap (λ x. x ∷ chunks k (n + m) (drop k (bs ++ cs))) (take-append-le k bs cs h)
    ∙ ap (λ ys. take k bs ∷ chunks k (n + m) ys) (drop-append-le k bs cs h)
    ∙ ap (λ ys. take k bs ∷ ys) (chunks_append k n m (drop k bs) cs (omega arith))

pub strings_append : (k : ℕ) (bs cs : List ℕ) → 0 < k → length bs % k ≡ 0 → length cs % k ≡ 0
    → sized_strings k (bs ++ cs) ≡ sized_strings k bs ++ sized_strings k cs
strings_append k bs cs p e f =
    ap (λ n. chunks k (n / k) (bs ++ cs)) (length-append bs cs) ∙ ap (λ n. chunks k n (bs ++ cs)) (sum_count (length bs) (length cs) k p e f)
    ∙ chunks_append k (length bs / k) (length cs / k) bs cs (multiple (length bs) k p e)

pub one_string : (k : ℕ) (x : List ℕ) → 0 < k → length x ≡ k → sized_strings k x ≡ x ∷ []
one_string k x p e =
    ap (λ n. chunks k n x) (ap (λ n. n / k) e ∙ own_count k p) ∙ ap (λ y. y ∷ []) (take_all k x (omega arith))

pub one_multiple : (k : ℕ) (x : List ℕ) → 0 < k → length x ≡ k → length x % k ≡ 0
one_multiple k x p e = ap (λ n. n % k) e ∙ own_multiple k p

pub strings_count : (k : ℕ) (bs : List ℕ) → length (sized_strings k bs) ≡ length bs / k
strings_count k bs = chunk_count k (length bs / k) bs

-- ---- the first strings

pub within : (k m n : ℕ) → m ≤ n / k → m * k ≤ n
within k m n h =
    let a : m * k ≤ n / k * k = mul-le-mul_right k h in
    let b = div-mul-le_self n k in
    omega arith

pub cut_length : (k m : ℕ) (bs : List ℕ) → m ≤ length bs / k → length (take (m * k) bs) ≡ m * k
cut_length k m bs h = length-take-le (m * k) bs (within k m (length bs) h)

pub cut_multiple : (k m : ℕ) (bs : List ℕ) → 0 < k → m ≤ length bs / k → length (take (m * k) bs) % k ≡ 0
cut_multiple k m bs p h = ap (λ n. n % k) (cut_length k m bs h) ∙ whole_multiple m k p

pub strings_cut_sized : (k m : ℕ) (bs : List ℕ) → 0 < k → m ≤ length bs / k → sized_strings k (take (m * k) bs) ≡ take m (sized_strings k bs)
strings_cut_sized k m bs p h =
    let front = take (m * k) bs in
    let back = drop (m * k) bs in
    let n = length bs / k in
    let c : length front ≡ m * k = cut_length k m bs h in
    let q : n ≡ m + (n - m) = omega arith in
    let whole : chunks k n bs ≡ chunks k m front ++ chunks k (n - m) back =
    ap (λ j. chunks k j bs) q ∙ ap (λ ys. chunks k (m + (n - m)) ys) (sym (take-append-drop (m * k) bs)) ∙ chunks_append k m (n - m) front back c in
    ap (λ j. chunks k (j / k) front) c ∙ ap (λ j. chunks k j front) (whole_count m k p)
    ∙ sym (ap (take m) whole ∙ ap (λ j. take j (chunks k m front ++ chunks k (n - m) back)) (sym (chunk_count k m front))
    ∙ take-append_seam (chunks k m front) (chunks k (n - m) back))

-- ---- refusals

abbrev IsSized : ℕ → List ℕ → Type 0
IsSized k x = length x ≡ k

chunks_sized : (k n : ℕ) (bs : List ℕ) → n * k ≤ length bs → AllByRecursion (IsSized k) (chunks k n bs)
chunks_sized k zero bs h = tt
chunks_sized k (suc n) bs h =
    let q : k + n * k ≤ length bs = omega arith in
    (length-take-le k bs (omega arith), chunks_sized k n (drop k bs) (omega (arith, length-drop k bs)))

refusal_behind : (k : ℕ) (xs : List (List ℕ)) (ys : List Slot) → AllByRecursion (IsSized k) xs → width_refusal k (map bytes xs ++ ys) ≡ width_refusal k ys
refusal_behind k [] ys h = refl
refusal_behind k (x ∷ xs) ys h =
    let s : length x ≡ k = h.0 in
    let f : nat_eq (length x) k ≡ true = grind arith in
    ap (λ b. cond b (width_refusal k (map bytes xs ++ ys)) (Some (ComputeError WrongWidth))) f ∙ refusal_behind k xs ys h.1

strings_sized : (k : ℕ) (bs : List ℕ) → AllByRecursion (IsSized k) (sized_strings k bs)
strings_sized k bs = chunks_sized k (length bs / k) bs (div-mul-le_self (length bs) k)

pub refused_width : (k : ℕ) (x : List ℕ) → (length x ≡ k → ⊥) → width_refusal k (bytes x ∷ []) ≡ Some (ComputeError WrongWidth)
refused_width k x h =
    let f : nat_eq (length x) k ≡ false = grind arith in
    ap (λ b. cond b (width_refusal k []) (Some (ComputeError WrongWidth))) f

-- ---- pushes

pub took_sized : (k : ℕ) (t u : TypeData) (bs cs more : List ℕ) → 0 < k → length bs % k ≡ 0 → length cs % k ≡ 0 → u ≡ t → more ≡ bs ++ cs
    → Takes (built_sized k t bs) (built_sized k u more) (map bytes (sized_strings k cs))
took_sized k t u bs cs more p e f same m =
    let xs = sized_strings k cs in
    strings_take (λ us ys. width_refusal k ys) t u (sized_strings k bs) xs (sized_strings k more) same (ap (sized_strings k) m ∙ strings_append k bs cs p e f)
    (ap (width_refusal k) (sym (append-nil (map bytes xs))) ∙ refusal_behind k xs [] (strings_sized k cs))
    (λ zs. sym (refusal_behind k xs zs (strings_sized k cs)))

pub took_one_sized : (k : ℕ) (t u : TypeData) (bs x more : List ℕ) → 0 < k → length bs % k ≡ 0 → length x ≡ k → u ≡ t → more ≡ bs ++ x
    → Takes (built_sized k t bs) (built_sized k u more) (bytes x ∷ [])
took_one_sized k t u bs x more p e s same m =
    subst (λ xs. Takes (built_sized k t bs) (built_sized k u more) (map bytes xs)) (one_string k x p s)
    (took_sized k t u bs x more p e (one_multiple k x p s) same m)

pub kept_sized : (k : ℕ) (t u : TypeData) (bs cs : List ℕ) → u ≡ t → cs ≡ bs → IsUnchanged (built_sized k t bs) (built_sized k u cs)
kept_sized k t u bs cs same m =
    strings_keep (λ us ys. width_refusal k ys) t u (sized_strings k bs) (sized_strings k cs) same (ap (sized_strings k) m)

pub cut_sized : (k : ℕ) (t : TypeData) (bs cs : List ℕ) (n : ℕ) → 0 < k → n ≤ length bs / k → cs ≡ take (n * k) bs → IsCutTo n (built_sized k t bs) (built_sized k t cs)
cut_sized k t bs cs n p h m =
    strings_cut (λ us ys. width_refusal k ys) t t (sized_strings k bs) (sized_strings k cs) n refl (ap (sized_strings k) m ∙ strings_cut_sized k n bs p h)

-- ---- what a call leaves, whether or not there was memory

pub grown_multiple : (k : ℕ) (bs xs more : List ℕ) (went : Bool) → 0 < k → length bs % k ≡ 0 → length xs % k ≡ 0 → more ≡ (if went then bs ++ xs else bs)
    → length more % k ≡ 0
grown_multiple k bs xs more true p e f m = ap (λ (zs : List ℕ). length zs % k) m ∙ ap (λ n. n % k) (length-append bs xs) ∙ sum_multiple (length bs) (length xs) k p e f
grown_multiple k bs xs more false p e f m = ap (λ (zs : List ℕ). length zs % k) m ∙ e

-- zeros after the bytes
pub zeros_behind : (k total n : ℕ) (bs : List ℕ) → length bs ≡ n → total ≡ n + k → take total bs ++ replicate (total - n) 0 ≡ bs ++ replicate k 0
zeros_behind k total n bs l t =
    let q : total - n ≡ k = omega arith in
    ap (λ ys. ys ++ replicate (total - n) 0) (take_all total bs (omega arith)) ∙ ap (λ j. bs ++ replicate j 0) q

pub zeros_multiple : (k total n : ℕ) (bs more : List ℕ) (went : Bool) → 0 < k → length bs % k ≡ 0 → length bs ≡ n → total ≡ n + k
    → more ≡ (if went then take total bs ++ replicate (total - n) 0 else bs) → length more % k ≡ 0
zeros_multiple k total n bs more true p e l t m =
    grown_multiple k bs (replicate k 0) more true p e (one_multiple k (replicate k 0) p (length-replicate k 0)) (m ∙ zeros_behind k total n bs l t)
zeros_multiple k total n bs more false p e l t m = ap (λ (zs : List ℕ). length zs % k) m ∙ e

pub zeros_are : (t : TypeData) (k : ℕ) → declared_size t ≡ Some k → bytes (replicate k 0) ≡ zeros_of t
zeros_are t k e = ap (λ o. bytes (replicate (unwrap_or o 0) 0)) (sym e)

pub known_size : (s t : TypeData) (k : ℕ) → s ≡ t → declared_size t ≡ Some k → size_or_zero s ≡ k
known_size s t k e h = ap size_or_zero e ∙ ap (λ o. unwrap_or o 0) h

-- two types that are the same declare the same size
pub same_size : (s t : TypeData) (j k : ℕ) → s ≡ t → declared_size s ≡ Some j → declared_size t ≡ Some k → j ≡ k
same_size s t j k e h l =
    let both : Some j ≡ Some k = sym h ∙ ap declared_size e ∙ l in
    cc

pub slots_count : (k : ℕ) (bs : List ℕ) → length (map bytes (sized_strings k bs)) ≡ length bs / k
slots_count k bs = length-map (sized_strings k bs) bytes ∙ strings_count k bs

-- ---- a builder by its type, its size and its bytes

abbrev pub sized : ArrowDataType → ℕ → List ℕ → SizedBytes
sized t k bs = record { dtype = t; size = k; bytes = bs }

-- a count of slots that is within a builder's
pub few_sized : (t : ArrowDataType) (k n : ℕ) (bs : List ℕ) (b : SizedBytes) → sized t k bs ≡ b → n ≤ length (map bytes (sized_strings b.size b.bytes)) → n ≤ length bs / k
few_sized t k n bs b e h =
    subst (λ j. n ≤ j) (slots_count k bs) (subst (λ (a : SizedBytes). n ≤ length (map bytes (sized_strings a.size a.bytes))) (sym e) h)

-- builders of one type have values of one size
pub sizes_agree : (t u : ArrowDataType) (j k : ℕ) (bs cs : List ℕ) (a b : SizedBytes) → sized t j bs ≡ a → sized u k cs ≡ b → seen b.dtype ≡ seen a.dtype
    → declared_size (seen t) ≡ Some j → declared_size (seen u) ≡ Some k → k ≡ j
sizes_agree t u j k bs cs a b e f same h l =
    same_size (seen u) (seen t) k j
    (ap (λ (c : SizedBytes). seen c.dtype) f ∙ (same ∙ sym (ap (λ (c : SizedBytes). seen c.dtype) e))) l h

-- what a call leaves of the bytes, whether or not there was memory
pub grown_small : (bs xs more : List ℕ) (went : Bool) → AreBytes bs → AreBytes xs → more ≡ (if went then bs ++ xs else bs) → AreBytes more
grown_small bs xs more true h k m = subst AreBytes (sym m) (all_join (λ b. b < 256) bs xs h k)
grown_small bs xs more false h k m = subst AreBytes (sym m) h

pub zeros_small : (k total n : ℕ) (bs more : List ℕ) (went : Bool) → AreBytes bs → length bs ≡ n → total ≡ n + k
    → more ≡ (if went then take total bs ++ replicate (total - n) 0 else bs) → AreBytes more
zeros_small k total n bs more true h l t m =
    grown_small bs (replicate k 0) more true h (all_replicate (λ b. b < 256) k 0 (omega arith)) (m ∙ zeros_behind k total n bs l t)
zeros_small k total n bs more false h l t m = subst AreBytes (sym m) h
