-- Views are their sixteen bytes.
use Rattle.std.specs.Prelude.{◌≡◌, ℕ, zero, suc, ◌+◌, ◌-◌, ◌%◌, ◌^◌, ◌<◌, ◌≤◌, Bool, true, false, nat_le, cond, List, [], ◌∷◌, ◌++◌, take, drop, get_or, length, replicate, refl}
use Rattle.std.specs.Int.{w32, from_le_bytes}
use Rattle.std.proofs.Common.{Fits, w8, ap, sym, ◌∙◌, arith}
use Rattle.std.proofs.lemmas.Bool.{le-leb}
use Rattle.std.proofs.lemmas.Bool.Decides.{nat_tests}
use Rattle.std.proofs.lemmas.List.{length-take-le, length-drop, take-append-drop, drop-drop, drop-replicate}
use Rattle.std.proofs.Math.Seq.{take-length}
use Rattle.std.proofs.lemmas.Nat.{le_bytes_4}
use Rattle.arrow_flat.specs.Natives.{octets}
use Rattle.arrow_flat.specs.Views.{View, inline, long, view_length, inline_view}
use Rattle.arrow_flat.specs.Natives.{AreBytes}
use Rattle.arrow_views.specs.ViewParts.{number_at, le_bytes, view_of, bytes_of, buffer_of, offset_of, IsPlaced}

-- ---- bytes
pub byte_at : (bs : List ℕ) (i : ℕ) → AreBytes bs → get_or bs i 0 < 256
byte_at [] i h = omega arith
byte_at (b ∷ bs) zero h = h.0
byte_at (b ∷ bs) (suc i) h = byte_at bs i h.1

pub bytes_take : (n : ℕ) (bs : List ℕ) → AreBytes bs → AreBytes (take n bs)
bytes_take zero bs h = tt
bytes_take (suc n) [] h = tt
bytes_take (suc n) (b ∷ bs) h = (h.0, bytes_take n bs h.1)

pub bytes_drop : (n : ℕ) (bs : List ℕ) → AreBytes bs → AreBytes (drop n bs)
bytes_drop zero bs h = h
bytes_drop (suc n) [] h = tt
bytes_drop (suc n) (b ∷ bs) h = bytes_drop n bs h.1

pub bytes_from : (bs : List ℕ) → ((i : ℕ) → i < length bs → get_or bs i 0 < 256) → AreBytes bs
bytes_from [] h = tt
bytes_from (b ∷ bs) h = (h 0 (omega arith), bytes_from bs (λ i l. h (suc i) (omega arith)))

pub octets_same : (bs : List ℕ) → AreBytes bs → octets bs ≡ bs
octets_same [] h = refl
octets_same (b ∷ bs) h = ap (λ c. c ∷ octets bs) (let q : b % 256 ≡ b = omega (arith, h.0) in q) ∙ ap (λ cs. b ∷ cs) (octets_same bs h.1)

-- bytes that the program holds
pub own_octets : (bs : List ℕ) → ((i : ℕ) → Fits w8 (get_or bs i 0)) → octets bs ≡ bs
own_octets bs h = octets_same bs (bytes_from bs (λ i l. omega (arith, h i)))

-- ---- numbers of four bytes
four_at : (at : ℕ) (bs : List ℕ) → at + 4 ≤ length bs → length (take 4 (drop at bs)) ≡ 4
four_at at bs l = length-take-le 4 (drop at bs) (omega (arith, length-drop at bs))

pub number_back : (at : ℕ) (bs : List ℕ) → at + 4 ≤ length bs → AreBytes bs → le_bytes (number_at at bs) ≡ take 4 (drop at bs)
number_back at bs l h =
    le_bytes_4 (take 4 (drop at bs)) (number_at at bs) (four_at at bs l) (λ i. byte_at (take 4 (drop at bs)) i (bytes_take 4 (drop at bs) (bytes_drop at bs h))) refl

number_below_of : (bs : List ℕ) → ((i : ℕ) → get_or bs i 0 < 256) → from_le_bytes w32 bs < 2 ^ 32
number_below_of bs h = omega (arith, h 0, h 1, h 2, h 3)

pub number_below : (at : ℕ) (bs : List ℕ) → AreBytes bs → number_at at bs < 2 ^ 32
number_below at bs h = number_below_of (take 4 (drop at bs)) (λ i. byte_at (take 4 (drop at bs)) i (bytes_take 4 (drop at bs) (bytes_drop at bs h)))

-- ---- views
back_by : (c : Bool) (x y : View) (bs : List ℕ) → bytes_of x ≡ bs → bytes_of y ≡ bs → bytes_of (cond c x y) ≡ bs
back_by true x y bs e f = e
back_by false x y bs e f = f

inline_back : (bs : List ℕ) → length bs ≡ 16 → AreBytes bs → le_bytes (number_at 0 bs) ++ drop 4 bs ≡ bs
inline_back bs l h = ap (λ n. n ++ drop 4 bs) (number_back 0 bs (omega arith) h) ∙ take-append-drop 4 bs

long_back : (bs : List ℕ) → length bs ≡ 16 → AreBytes bs
    → le_bytes (number_at 0 bs) ++ (take 4 (drop 4 bs) ++ (le_bytes (number_at 8 bs) ++ le_bytes (number_at 12 bs))) ≡ bs
long_back bs l h =
    let last : take 4 (drop 12 bs) ≡ drop 12 bs =
    (let n : 4 ≡ length (drop 12 bs) = omega (arith, length-drop 12 bs) in ap (λ n. take n (drop 12 bs)) n ∙ take-length (drop 12 bs)) in
    let third : le_bytes (number_at 8 bs) ++ le_bytes (number_at 12 bs) ≡ drop 8 bs =
    ap (λ n. n ++ le_bytes (number_at 12 bs)) (number_back 8 bs (omega arith) h)
    ∙ ap (λ n. take 4 (drop 8 bs) ++ n) (number_back 12 bs (omega arith) h ∙ last ∙ sym (drop-drop 4 8 bs))
    ∙ take-append-drop 4 (drop 8 bs) in
    ap (λ n. n ++ (take 4 (drop 4 bs) ++ (le_bytes (number_at 8 bs) ++ le_bytes (number_at 12 bs)))) (number_back 0 bs (omega arith) h)
    ∙ ap (λ n. take 4 bs ++ (take 4 (drop 4 bs) ++ n)) (third ∙ sym (drop-drop 4 4 bs))
    ∙ ap (λ n. take 4 bs ++ n) (take-append-drop 4 (drop 4 bs)) ∙ take-append-drop 4 bs

pub bytes_back : (bs : List ℕ) → length bs ≡ 16 → AreBytes bs → bytes_of (view_of bs) ≡ bs
bytes_back bs l h =
    back_by (nat_le (number_at 0 bs) 12) (inline (number_at 0 bs) (drop 4 bs)) (long (number_at 0 bs) (take 4 (drop 4 bs)) (number_at 8 bs) (number_at 12 bs)) bs
    (inline_back bs l h) (long_back bs l h)

placed_by : (c : Bool) (x y : View) → (c ≡ true → IsPlaced x) → (c ≡ false → IsPlaced y) → IsPlaced (cond c x y)
placed_by true x y f g = f refl
placed_by false x y f g = g refl

le_true : (m n : ℕ) → nat_le m n ≡ true → m ≤ n
le_true m n e = grind (arith, nat_tests)

le_false : (m n : ℕ) → nat_le m n ≡ false → n < m
le_false m n e = grind (arith, nat_tests)

pub placed : (bs : List ℕ) → length bs ≡ 16 → AreBytes bs → IsPlaced (view_of bs)
placed bs l h =
    let n = number_at 0 bs in
    placed_by (nat_le n 12) (inline n (drop 4 bs)) (long n (take 4 (drop 4 bs)) (number_at 8 bs) (number_at 12 bs))
    (λ e. (le_true n 12 e, length-drop 4 bs ∙ ap (λ k. k - 4) l, bytes_drop 4 bs h))
    (λ e. (le_false n 12 e, four_at 4 bs (omega arith), bytes_take 4 (drop 4 bs) (bytes_drop 4 bs h), number_below 0 bs h, number_below 8 bs h, number_below 12 bs h))

-- the numbers at their places
length_by : (c : Bool) (n : ℕ) (r p : List ℕ) (b o : ℕ) → n ≡ view_length (cond c (inline n r) (long n p b o))
length_by true n r p b o = refl
length_by false n r p b o = refl

pub length_read : (bs : List ℕ) → number_at 0 bs ≡ view_length (view_of bs)
length_read bs = length_by (nat_le (number_at 0 bs) 12) (number_at 0 bs) (drop 4 bs) (take 4 (drop 4 bs)) (number_at 8 bs) (number_at 12 bs)

buffer_by : (c : Bool) (n : ℕ) (r p : List ℕ) (b o : ℕ) → number_at 4 r ≡ b → b ≡ buffer_of (cond c (inline n r) (long n p b o))
buffer_by true n r p b o e = sym e
buffer_by false n r p b o e = refl

pub buffer_at : (bs : List ℕ) → number_at 8 bs ≡ buffer_of (view_of bs)
buffer_at bs =
    buffer_by (nat_le (number_at 0 bs) 12) (number_at 0 bs) (drop 4 bs) (take 4 (drop 4 bs)) (number_at 8 bs) (number_at 12 bs)
    (ap (λ r. from_le_bytes w32 (take 4 r)) (drop-drop 4 4 bs))

offset_by : (c : Bool) (n : ℕ) (r p : List ℕ) (b o : ℕ) → number_at 8 r ≡ o → o ≡ offset_of (cond c (inline n r) (long n p b o))
offset_by true n r p b o e = sym e
offset_by false n r p b o e = refl

pub offset_at : (bs : List ℕ) → number_at 12 bs ≡ offset_of (view_of bs)
offset_at bs =
    offset_by (nat_le (number_at 0 bs) 12) (number_at 0 bs) (drop 4 bs) (take 4 (drop 4 bs)) (number_at 8 bs) (number_at 12 bs)
    (ap (λ r. from_le_bytes w32 (take 4 r)) (drop-drop 8 4 bs))

-- a value in its view
inline_by : (c : Bool) (n m : ℕ) (r p : List ℕ) (b o : ℕ) → c ≡ true → n ≡ m → cond c (inline n r) (long n p b o) ≡ inline m r
inline_by true n m r p b o e q = ap (λ n. inline n r) q
inline_by false n m r p b o e q = cc

pub inline_seen : (value rest : List ℕ) → length value ≤ 12 → view_of (length value ∷ 0 ∷ 0 ∷ 0 ∷ (value ++ rest)) ≡ inline (length value) (value ++ rest)
inline_seen value rest l =
    let bs = length value ∷ 0 ∷ 0 ∷ 0 ∷ (value ++ rest) in
    let n : number_at 0 bs ≡ length value = omega arith in
    inline_by (nat_le (number_at 0 bs) 12) (number_at 0 bs) (length value) (value ++ rest) (take 4 (drop 4 bs)) (number_at 8 bs) (number_at 12 bs)
    (le-leb (number_at 0 bs) 12 (omega (arith, n))) n

pub zeros_behind : (value : List ℕ) → length value ≤ 12
    → inline (length value) (value ++ drop (4 + length value - 4) (replicate 12 0)) ≡ inline_view value
zeros_behind value l =
    let n : 4 + length value - 4 ≡ length value = omega arith in
    ap (λ z. inline (length value) (value ++ z)) (ap (λ n. drop n (replicate 12 0)) n ∙ drop-replicate (length value) 12 0)
