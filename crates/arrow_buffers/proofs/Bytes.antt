-- Bits of bytes.
use Rattle.std.proofs.Common.{◌≡◌, ◌≢◌, ℕ, ◌+◌, ◌-◌, ◌*◌, ◌/◌, ◌%◌, ◌<◌, ◌≤◌, zero, suc, Bool, true, false, not, ◌&&◌, cond, List, [], ◌∷◌, ◌++◌, map, length, take, get_or, nat_eq, refl, ap, sym, ◌∙◌, subst, arith, add-one}
use Rattle.std.specs.Int.{bit_at, from_bool}
use Rattle.std.specs.List.{range_with_len, count_by, list_all}
use Rattle.std.specs.Prelude.{count_ones, set}
use Rattle.std.specs.Simd.Lanes.{mask_l}
use Rattle.std.proofs.lemmas.Simd.{mask_l-lt, bit_mask_l, ones-mask_l}
use Rattle.std.proofs.lemmas.Nat.Bits.{bit_at-lt, same_from_bits_below}
use Rattle.std.proofs.lemmas.List.{get_or-set_same, get_or-set_other, get_or_append_left}
use Rattle.std.proofs.lemmas.List.FromFn.{map-range_with_len_more, sum_by-map-range_with_len_more}
use Rattle.std.proofs.lemmas.List.Sums.{sum_by-append, count_by-le-length}
use Rattle.std.proofs.Math.Dec.{eqb}
use Rattle.std.proofs.lemmas.Bool.{eq-eqb, ne_eqb, eqb-true, eqb-false}
use Rattle.arrow_buffers.specs.Bits.{Bits, both, same, count_unset, ones_of, bit_of, bits_of, lead_of, cut_bits, bytes_for_bits}
use Rattle.arrow_buffers.proofs.Windows.{cut_range, same_range, shifted, split_sum}
use Rattle.std.proofs.lemmas.List.FromFn.{get_or-map-range_with_len, length-map-range_with_len}

-- what a window shows
abbrev pub seen : List ℕ → ℕ → ℕ → Bits
seen bytes s n = record { bits = bits_of bytes s n; lead = lead_of s n }

pub seen_length : (bytes : List ℕ) (s n : ℕ) (b : Bits) → seen bytes s n ≡ b → length b.bits ≡ n
seen_length bytes s n b e = ap (λ x. length x.bits) (sym e) ∙ length-map-range_with_len (bit_of bytes) s n

pub seen_lead : (bytes : List ℕ) (s n : ℕ) (b : Bits) → seen bytes s n ≡ b → (n ≡ 0 → ⊥) → b.lead ≡ s % 8
seen_lead bytes s zero b e h = absurd (h refl)
seen_lead bytes s (suc n) b e h = ap (λ x. x.lead) (sym e)

-- the bytes that bits lie in
pub bytes_of_none : (lead n : ℕ) → n ≡ 0 → bytes_for_bits lead n ≡ 0
bytes_of_none lead zero h = refl
bytes_of_none lead (suc n) h = absurd (omega arith)

pub bytes_of_some : (lead n : ℕ) → (n ≡ 0 → ⊥) → bytes_for_bits lead n ≡ (lead + n + 7) / 8
bytes_of_some lead zero h = absurd (h refl)
bytes_of_some lead (suc n) h = refl

pub cut_lead : (s m o n : ℕ) → o + n ≤ m → lead_of (s + o) n ≡ lead_of (lead_of s m + o) n
cut_lead s m o zero h = refl
cut_lead s zero o (suc n) h = absurd (omega arith)
cut_lead s (suc m) o (suc n) h = let e : (s + o) % 8 ≡ (s % 8 + o) % 8 = omega arith in e

pub seen_cut : (bytes : List ℕ) (s m o n : ℕ) (b : Bits) → seen bytes s m ≡ b → o + n ≤ m → seen bytes (s + o) n ≡ cut_bits b o n
seen_cut bytes s m o n b e h =
    subst (λ b. seen bytes (s + o) n ≡ cut_bits b o n) e
    (ap (λ l. record { bits = bits_of bytes (s + o) n; lead = l }) (cut_lead s m o n h)
    ∙ ap (λ x. record { bits = x; lead = lead_of (lead_of s m + o) n }) (sym (cut_range (bit_of bytes) s m o n h)))

pub seen_bit : (bytes : List ℕ) (s n i : ℕ) (b : Bits) → seen bytes s n ≡ b → i < n → bit_of bytes (s + i) ≡ get_or b.bits i false
seen_bit bytes s n i b e h =
    sym (get_or-map-range_with_len (bit_of bytes) s n i (s + i) false h refl) ∙ ap (λ x. get_or x.bits i false) e

-- ---- one bit is written
test_bit : (bit : Bool) → nat_eq (cond bit 1 0) 1 ≡ bit
test_bit true = refl
test_bit false = refl

written_here : (bs : List ℕ) (i v : ℕ) (bit : Bool) → i / 8 < length bs → bit_at v (i % 8) ≡ cond bit 1 0 → bit_of (set bs (i / 8) v) i ≡ bit
written_here bs i v bit h s =
    ap (λ x. nat_eq (bit_at x (i % 8)) 1) (get_or-set_same bs (i / 8) v 0 h) ∙ ap (λ x. nat_eq x 1) s ∙ test_bit bit

written_there : (bs : List ℕ) (i k v : ℕ) → i / 8 < length bs → ((j : ℕ) → j ≢ i % 8 → j < 8 → bit_at v j ≡ bit_at (get_or bs (i / 8) 0) j)
    → (k ≡ i → ⊥) → bit_of (set bs (i / 8) v) k ≡ bit_of bs k
written_there bs i k v h o n = by (eqb (k / 8) (i / 8)) refl
  where
    by : (b : Bool) → eqb (k / 8) (i / 8) ≡ b → bit_of (set bs (i / 8) v) k ≡ bit_of bs k
    by true e =
        let q : k / 8 ≡ i / 8 = eqb-true (k / 8) (i / 8) e in
        let r : (k % 8 ≡ i % 8 → ⊥) = λ m. n (omega arith) in
        ap (λ x. nat_eq (bit_at (get_or (set bs (i / 8) v) x 0) (k % 8)) 1) q
        ∙ ap (λ x. nat_eq (bit_at x (k % 8)) 1) (get_or-set_same bs (i / 8) v 0 h)
        ∙ ap (λ x. nat_eq x 1) (o (k % 8) r (omega arith))
        ∙ ap (λ x. nat_eq (bit_at (get_or bs x 0) (k % 8)) 1) (sym q)
    by false e = ap (λ x. nat_eq (bit_at x (k % 8)) 1) (get_or-set_other bs (i / 8) (k / 8) v 0 (eqb-false (k / 8) (i / 8) e))

pub written : (bs : List ℕ) (i k v : ℕ) (bit : Bool) → i / 8 < length bs → bit_at v (i % 8) ≡ cond bit 1 0
    → ((j : ℕ) → j ≢ i % 8 → j < 8 → bit_at v j ≡ bit_at (get_or bs (i / 8) 0) j)
    → bit_of (set bs (i / 8) v) k ≡ cond (nat_eq k i) bit (bit_of bs k)
written bs i k v bit h s o = by (eqb k i) refl
  where
    by : (b : Bool) → eqb k i ≡ b → bit_of (set bs (i / 8) v) k ≡ cond (nat_eq k i) bit (bit_of bs k)
    by true e =
        ap (bit_of (set bs (i / 8) v)) (eqb-true k i e) ∙ written_here bs i v bit h s
        ∙ ap (λ b. cond b bit (bit_of bs k)) (sym e)
    by false e =
        written_there bs i k v h o (eqb-false k i e) ∙ ap (λ b. cond b bit (bit_of bs k)) (sym e)

-- ---- one bit more
pub same_after : (xs ys : List ℕ) (n : ℕ) (bit : Bool) → ((k : ℕ) → bit_of ys k ≡ cond (nat_eq k n) bit (bit_of xs k))
    → bits_of ys 0 (n + 1) ≡ bits_of xs 0 n ++ bit ∷ []
same_after xs ys n bit h =
    let here : bit_of ys n ≡ bit = h n ∙ ap (λ b. cond b bit (bit_of xs n)) (eq-eqb n n refl) in
    let there : (k : ℕ) → 0 ≤ k → k < 0 + n → bit_of ys k ≡ bit_of xs k =
    λ k l u. h k ∙ ap (λ b. cond b bit (bit_of xs k)) (ne_eqb k n (λ e. omega arith)) in
    map-range_with_len_more (bit_of ys) 0 n n (omega arith)
    ∙ ap (λ b. bits_of ys 0 n ++ b ∷ []) here
    ∙ ap (λ bs. bs ++ bit ∷ []) (same_range (bit_of ys) (bit_of xs) 0 n there)

pub same_longer : (xs : List ℕ) (y n : ℕ) → n ≤ 8 * length xs → bits_of (xs ++ y ∷ []) 0 n ≡ bits_of xs 0 n
same_longer xs y n h =
    same_range (bit_of (xs ++ y ∷ [])) (bit_of xs) 0 n
    (λ k l u. ap (λ x. nat_eq (bit_at x (k % 8)) 1) (get_or_append_left xs (y ∷ []) 0 (k / 8) (omega arith)))

pub no_lead : (n : ℕ) → lead_of 0 n ≡ 0
no_lead zero = refl
no_lead (suc n) = refl

-- ---- counts
count_by-cons : (p : Bool → Bool) (x : Bool) (xs : List Bool) → count_by p (x ∷ xs) ≡ cond (p x) 1 0 + count_by p xs
count_by-cons p x xs =
    let z : 0 + cond (p x) 1 0 ≡ cond (p x) 1 0 = omega arith in
    sum_by-append (λ b. cond (p b) 1 0) (x ∷ []) xs ∙ ap (λ n. n + count_by p xs) z

pub ones_more : (bytes : List ℕ) (s n j : ℕ) → s + n ≡ j → ones_of bytes s (n + 1) ≡ ones_of bytes s n + cond (bit_of bytes j) 1 0
ones_more bytes s n j h = sum_by-map-range_with_len_more (λ b. cond b 1 0) (bit_of bytes) s n j h

pub ones_split : (bytes : List ℕ) (s n m : ℕ) → ones_of bytes s (n + m) ≡ ones_of bytes s n + ones_of bytes (s + n) m
ones_split bytes s n m = split_sum (ones_of bytes) (λ j. cond (bit_of bytes j) 1 0) (λ s. refl) (ones_more bytes) s n m

abbrev bit_in : ℕ → ℕ → Bool
bit_in b j = nat_eq (bit_at b j) 1

bit_number : (x : ℕ) → x < 2 → cond (nat_eq x 1) 1 0 ≡ x
bit_number zero h = refl
bit_number (suc zero) h = refl
bit_number (suc (suc x)) h = absurd (omega arith)

byte_mask : (b : ℕ) → b < 256 → b ≡ mask_l (map (bit_in b) (range_with_len 0 8))
byte_mask b h =
    same_from_bits_below 8 b (mask_l (map (bit_in b) (range_with_len 0 8))) h (mask_l-lt (map (bit_in b) (range_with_len 0 8)))
    (λ i l. sym (bit_mask_l (map (bit_in b) (range_with_len 0 8)) i
    ∙ ap (λ x. cond x 1 0) (get_or-map-range_with_len (bit_in b) 0 8 i i false l (omega arith))
    ∙ bit_number (bit_at b i) (bit_at-lt b i)))

pub ones_byte : (bytes : List ℕ) (k b : ℕ) → b < 256 → get_or bytes k 0 ≡ b → ones_of bytes (8 * k) 8 ≡ count_ones b
ones_byte bytes k b h e =
    ap (count_by same) (shifted (bit_of bytes) (bit_in b) (8 * k) 0 8 bits)
    ∙ sym (ap count_ones (byte_mask b h) ∙ ones-mask_l (bit_in b) (range_with_len 0 8))
  where
    bits : (j : ℕ) → j < 8 → bit_of bytes (8 * k + j) ≡ bit_in b (0 + j)
    bits j l =
        let q : (8 * k + j) / 8 ≡ k = omega arith in
        let r : (8 * k + j) % 8 ≡ 0 + j = omega arith in
        ap (λ x. nat_eq (bit_at (get_or bytes x 0) ((8 * k + j) % 8)) 1) q ∙ ap (λ x. nat_eq (bit_at x ((8 * k + j) % 8)) 1) e
        ∙ ap (λ x. bit_in b x) r

-- ---- two bitmaps
pub both_more : (xs ys : List Bool) (i : ℕ) → i < length xs → i < length ys
    → both (take (i + 1) xs) (take (i + 1) ys) ≡ both (take i xs) (take i ys) ++ (get_or xs i false && get_or ys i false) ∷ []
both_more xs ys i h l = rw add-one (by xs ys i h l)
  where
    by : (xs ys : List Bool) (i : ℕ) → i < length xs → i < length ys
        → both (take (suc i) xs) (take (suc i) ys) ≡ both (take i xs) (take i ys) ++ (get_or xs i false && get_or ys i false) ∷ []
    by [] ys i h l = absurd (omega arith)
    by (x ∷ xs) [] i h l = absurd (omega arith)
    by (x ∷ xs) (y ∷ ys) zero h l = refl
    by (x ∷ xs) (y ∷ ys) (suc i) h l = ap (λ bs. (x && y) ∷ bs) (by xs ys i (omega arith) (omega arith))

-- the set bits of a range of whole bytes, and of the bits on both sides of it
pub ones_bytes : (bytes : List ℕ) (a n k b : ℕ) → a + n ≡ k → b < 256 → get_or bytes k 0 ≡ b
    → ones_of bytes (8 * a) (8 * (n + 1)) ≡ ones_of bytes (8 * a) (8 * n) + count_ones b
ones_bytes bytes a n k b q h e =
    let l : 8 * (n + 1) ≡ 8 * n + 8 = omega arith in
    let m : 8 * a + 8 * n ≡ 8 * k = omega arith in
    ap (ones_of bytes (8 * a)) l ∙ ones_split bytes (8 * a) (8 * n) 8
    ∙ ap (λ x. ones_of bytes (8 * a) (8 * n) + x) (ap (λ s. ones_of bytes s 8) m ∙ ones_byte bytes k b h e)

pub ones_parts : (bytes : List ℕ) (start end first last : ℕ) → start ≤ 8 * first → first ≤ last → 8 * last ≤ end
    → ones_of bytes start (8 * first - start) + ones_of bytes (8 * first) (8 * (last - first)) + ones_of bytes (8 * last) (end - 8 * last)
    ≡ ones_of bytes start (end - start)
ones_parts bytes start end first last p q r =
    let a : 8 * first ≡ start + (8 * first - start) = omega arith in
    let b : 8 * last ≡ start + (8 * first - start + 8 * (last - first)) = omega arith in
    let d : 8 * first - start + 8 * (last - first) + (end - 8 * last) ≡ end - start = omega arith in
    ap (λ x. x + ones_of bytes (8 * last) (end - 8 * last))
    (ap (λ s. ones_of bytes start (8 * first - start) + ones_of bytes s (8 * (last - first))) a
    ∙ sym (ones_split bytes start (8 * first - start) (8 * (last - first))))
    ∙ ap (λ s. ones_of bytes start (8 * first - start + 8 * (last - first)) + ones_of bytes s (end - 8 * last)) b
    ∙ sym (ones_split bytes start (8 * first - start + 8 * (last - first)) (end - 8 * last))
    ∙ ap (ones_of bytes start) d

pub bool_number : (b : Bool) → from_bool b ≡ cond b 1 0
bool_number true = refl
bool_number false = refl

pub ones_at_most : (bytes : List ℕ) (s n : ℕ) → ones_of bytes s n ≤ n
ones_at_most bytes s n =
    let e = length-map-range_with_len (bit_of bytes) s n in
    let h = count_by-le-length same (bits_of bytes s n) in
    omega arith

-- each bit is set or unset
pub unset_rest : (bits : List Bool) → length bits - count_by same bits ≡ count_by not bits
unset_rest bits = let e = all_counted bits in omega arith
  where
    all_counted : (bits : List Bool) → count_by same bits + count_by not bits ≡ length bits
    all_counted [] = refl
    all_counted (true ∷ bits) = let a = count_by-cons same true bits in let b = count_by-cons not true bits in let e = all_counted bits in omega arith
    all_counted (false ∷ bits) = let a = count_by-cons same false bits in let b = count_by-cons not false bits in let e = all_counted bits in omega arith

-- ---- the bits that are left
pub left_length : (bytes : List ℕ) (front n : ℕ) (bits : List Bool) → bits_of bytes front n ≡ bits → length bits ≡ n
left_length bytes front n bits e = ap length (sym e) ∙ length-map-range_with_len (bit_of bytes) front n

pub left_first : (bytes : List ℕ) (front back : ℕ) (bit : Bool) → bit ≡ bit_of bytes front → front < back
    → bits_of bytes front (back - front) ≡ bit ∷ bits_of bytes (front + 1) (back - (front + 1))
left_first bytes front back bit e h =
    let q : back - front ≡ suc (back - (front + 1)) = omega arith in
    ap (bits_of bytes front) q
    ∙ ap (λ b. b ∷ bits_of bytes (front + 1) (back - (front + 1))) (sym e)

pub left_last : (bytes : List ℕ) (front back : ℕ) (bit : Bool) → bit ≡ bit_of bytes (back - 1) → front < back
    → bits_of bytes front (back - front) ≡ bits_of bytes front (back - 1 - front) ++ bit ∷ []
left_last bytes front back bit e h =
    let q : back - front ≡ back - 1 - front + 1 = omega arith in
    ap (bits_of bytes front) q
    ∙ map-range_with_len_more (bit_of bytes) front (back - 1 - front) (back - 1) (omega arith)
    ∙ ap (λ b. bits_of bytes front (back - 1 - front) ++ b ∷ []) (sym e)

-- no bit is unset, or some bit is
pub none_unset : (bits : List Bool) → count_unset bits ≡ 0 → list_all same bits ≡ true
none_unset [] h = refl
none_unset (true ∷ bits) h = let a = count_by-cons not true bits in none_unset bits (omega arith)
none_unset (false ∷ bits) h = absurd (let a = count_by-cons not false bits in omega arith)

pub some_unset : (bits : List Bool) → (count_unset bits ≡ 0 → ⊥) → list_all same bits ≡ false
some_unset [] h = absurd (h refl)
some_unset (true ∷ bits) h = let a = count_by-cons not true bits in some_unset bits (λ e. h (omega arith))
some_unset (false ∷ bits) h = refl
