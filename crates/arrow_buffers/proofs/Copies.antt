-- Bits that are written into bytes, one at a time and by whole bytes.
use Rattle.std.proofs.Common.{◌≡◌, ◌≢◌, ℕ, ◌+◌, ◌-◌, ◌*◌, ◌/◌, ◌%◌, ◌^◌, ◌<◌, ◌≤◌, Bool, true, false, cond, List, ◌++◌, map, length, take, get_or, set, replicate, nat_eq, eqb, refl, ◌⊎◌, inl, inr, ap, sym, ◌∙◌, subst, arith, min, Result, Ok, Err, OnErr}
use Rattle.std.specs.Int.{bit_at}
use Rattle.std.specs.List.{range_with_len}
use Rattle.std.proofs.lemmas.Nat.{div-add-mod', pow_pos}
use Rattle.std.proofs.Math.Nat.{mod-lt}
use Rattle.std.proofs.lemmas.Nat.Bits.{bit_at_ones, bit_at-zero, bit_at_cat_low, bit_at_cat_high}
use Rattle.std.proofs.lemmas.Bool.{cases_lt, eq-eqb, ne_eqb, eqb-true, eqb-false}
use Rattle.std.proofs.lemmas.List.{get_or_append_left, get_or-append_right, get_or-take, get_or-replicate, get_or-set_same, get_or-set_other, length-take, length-append, length-replicate, length-set, ext_get_or}
use Rattle.std.proofs.lemmas.List.FromFn.{get_or-map-range_with_len, length-map-range_with_len}
use Rattle.arrow_buffers.specs.Bits.{bit_of, bits_of}
use Rattle.arrow_buffers.specs.Writes.{WritesBit, CopiesBits, FillsBits}
use Rattle.arrow_buffers.proofs.Windows.{same_range, shifted, range_parts, equal_range}

-- ---- one bit
pub at_bit : (old new : List ℕ) (i : ℕ) (bit : Bool) → WritesBit old new i bit → bit_of new i ≡ bit
at_bit old new i bit h = h i ∙ ap (λ b. cond b bit (bit_of old i)) (eq-eqb i i refl)

pub other_bit : (old new : List ℕ) (i k : ℕ) (bit : Bool) → WritesBit old new i bit → k ≢ i → bit_of new k ≡ bit_of old k
other_bit old new i k bit h n = h k ∙ ap (λ b. cond b bit (bit_of old k)) (ne_eqb k i n)

-- the list of the first n bits, one of them written
pub bits_of-write : (old new : List ℕ) (n i : ℕ) (bit : Bool) → WritesBit old new i bit → i < n → bits_of new 0 n ≡ set (bits_of old 0 n) i bit
bits_of-write old new n i bit h l =
    ext_get_or false (bits_of new 0 n) (set (bits_of old 0 n) i bit)
    (length-map-range_with_len (bit_of new) 0 n ∙ sym (length-set (bits_of old 0 n) i bit ∙ length-map-range_with_len (bit_of old) 0 n))
    (λ k m. each k (let e = length-map-range_with_len (bit_of new) 0 n in omega arith))
  where
    each : (k : ℕ) → k < n → get_or (bits_of new 0 n) k false ≡ get_or (set (bits_of old 0 n) i bit) k false
    each k m = get_or-map-range_with_len (bit_of new) 0 n k k false m (omega arith) ∙ by (eqb k i) refl
      where
        by : (b : Bool) → eqb k i ≡ b → bit_of new k ≡ get_or (set (bits_of old 0 n) i bit) k false
        by true e =
            let q : k ≡ i = eqb-true k i e in
            let s : i < length (bits_of old 0 n) = (let e = length-map-range_with_len (bit_of old) 0 n in omega arith) in
            ap (bit_of new) q ∙ at_bit old new i bit h
            ∙ sym (ap (λ j. get_or (set (bits_of old 0 n) i bit) j false) q ∙ get_or-set_same (bits_of old 0 n) i bit false s)
        by false e =
            other_bit old new i k bit h (eqb-false k i e)
            ∙ sym (get_or-set_other (bits_of old 0 n) i k bit false (eqb-false k i e) ∙ get_or-map-range_with_len (bit_of old) 0 n k k false m (omega arith))

-- ---- a run of equal bits
pub fills_none : (old : List ℕ) (start : ℕ) (bit : Bool) → FillsBits old old start start bit
fills_none old start bit = record {
  bytes = refl;
  before = λ k h. refl;
  filled = λ k l h. absurd (omega arith);
  after = λ k h. refl;
}

pub fills_more : (old mid new : List ℕ) (start i : ℕ) (bit : Bool) → start ≤ i → FillsBits old mid start i bit
    → length new ≡ length mid → WritesBit mid new i bit → FillsBits old new start (i + 1) bit
fills_more old mid new start i bit l f e w = record {
  bytes = e ∙ f.bytes;
  before = λ k h. other_bit mid new i k bit w (λ q. omega arith) ∙ f.before k h;
  filled = λ k a b. by k a b (eqb k i) refl;
  after = λ k h. other_bit mid new i k bit w (λ q. omega arith) ∙ f.after k (omega arith);
}
  where
    by : (k : ℕ) → start ≤ k → k < i + 1 → (b : Bool) → eqb k i ≡ b → bit_of new k ≡ bit
    by k a h true q = ap (bit_of new) (eqb-true k i q) ∙ at_bit mid new i bit w
    by k a h false q =
        let n = eqb-false k i q in
        other_bit mid new i k bit w n ∙ f.filled k a (omega arith)

-- ---- a run of copied bits
pub copies_none : (old source : List ℕ) (place start : ℕ) → CopiesBits old old place source start 0
copies_none old source place start = record { bytes = refl; before = λ k h. refl; copied = λ k h. absurd (omega arith) }

pub copies_more : (old mid new source : List ℕ) (place start k : ℕ) (bit : Bool) → CopiesBits old mid place source start k
    → length new ≡ length mid → WritesBit mid new (place + k) bit → bit ≡ bit_of source (start + k) → CopiesBits old new place source start (k + 1)
copies_more old mid new source place start k bit f e w q = record {
  bytes = e ∙ f.bytes;
  before = λ j h. other_bit mid new (place + k) j bit w (λ q. omega arith) ∙ f.before j h;
  copied = λ j h. by j h (eqb j k) refl;
}
  where
    by : (j : ℕ) → j < k + 1 → (b : Bool) → eqb j k ≡ b → bit_of new (place + j) ≡ bit_of source (start + j)
    by j h true r =
        let s : j ≡ k = eqb-true j k r in
        ap (λ x. bit_of new (place + x)) s ∙ at_bit mid new (place + k) bit w ∙ q ∙ ap (λ x. bit_of source (start + x)) (sym s)
    by j h false r =
        let n = eqb-false j k r in
        other_bit mid new (place + k) (place + j) bit w (λ m. n (omega arith)) ∙ f.copied j (omega arith)

-- one copy behind another
pub copies_twice : (a b c source : List ℕ) (place start n m : ℕ) → CopiesBits a b place source start n
    → CopiesBits b c (place + n) source (start + n) m → CopiesBits a c place source start (n + m)
copies_twice a b c source place start n m f g = record {
  bytes = g.bytes ∙ f.bytes;
  before = λ k h. g.before k (omega arith) ∙ f.before k h;
  copied = λ k h. by k h (cases_lt k n);
}
  where
    by : (k : ℕ) → k < n + m → (k < n) ⊎ (n ≤ k) → bit_of c (place + k) ≡ bit_of source (start + k)
    by k h (inl l) = g.before (place + k) (omega arith) ∙ f.copied k l
    by k h (inr l) =
        let p : place + k ≡ place + n + (k - n) = omega arith in
        let q : start + n + (k - n) ≡ start + k = omega arith in
        ap (bit_of c) p ∙ g.copied (k - n) (omega arith) ∙ ap (bit_of source) q

-- a front, whole bytes and a rest, behind each other
pub copies_parts : (a b c d source : List ℕ) (place start head first whole len : ℕ) → 8 * first ≡ place + head → head + 8 * whole ≤ len
    → CopiesBits a b place source start head → CopiesBits b c (8 * first) source (start + head) (8 * whole)
    → CopiesBits c d (place + (head + 8 * whole)) source (start + (head + 8 * whole)) (len - (head + 8 * whole))
    → CopiesBits a d place source start len
copies_parts a b c d source place start head first whole len e l f g h =
    let m : head + 8 * whole + (len - (head + 8 * whole)) ≡ len = omega arith in
    let two : CopiesBits a c place source start (head + 8 * whole) =
    copies_twice a b c source place start head (8 * whole) f (subst (λ p. CopiesBits b c p source (start + head) (8 * whole)) e g) in
    subst (λ n. CopiesBits a d place source start n) m
    (copies_twice a c d source place start (head + 8 * whole) (len - (head + 8 * whole)) two h)

-- ---- whole bytes
set_byte_here : (bs : List ℕ) (a v k : ℕ) → a < length bs → k / 8 ≡ a → bit_of (set bs a v) k ≡ nat_eq (bit_at v (k % 8)) 1
set_byte_here bs a v k l e =
    ap (λ x. nat_eq (bit_at (get_or (set bs a v) x 0) (k % 8)) 1) e ∙ ap (λ x. nat_eq (bit_at x (k % 8)) 1) (get_or-set_same bs a v 0 l)

set_byte_there : (bs : List ℕ) (a v k : ℕ) → k / 8 ≢ a → bit_of (set bs a v) k ≡ bit_of bs k
set_byte_there bs a v k n = ap (λ x. nat_eq (bit_at x (k % 8)) 1) (get_or-set_other bs a (k / 8) v 0 n)

pub copies_byte : (old mid source : List ℕ) (first start j v : ℕ) → CopiesBits old mid (8 * first) source start (8 * j)
    → first + j < length mid → ((k : ℕ) → k < 8 → nat_eq (bit_at v k) 1 ≡ bit_of source (start + 8 * j + k))
    → CopiesBits old (set mid (first + j) v) (8 * first) source start (8 * (j + 1))
copies_byte old mid source first start j v f l h = record {
  bytes = length-set mid (first + j) v ∙ f.bytes;
  before = λ k m. set_byte_there mid (first + j) v k (λ q. omega arith) ∙ f.before k m;
  copied = λ k m. by k m (cases_lt k (8 * j));
}
  where
    by : (k : ℕ) → k < 8 * (j + 1) → (k < 8 * j) ⊎ (8 * j ≤ k) → bit_of (set mid (first + j) v) (8 * first + k) ≡ bit_of source (start + k)
    by k m (inl b) = set_byte_there mid (first + j) v (8 * first + k) (λ q. omega arith) ∙ f.copied k b
    by k m (inr b) =
        let r : (8 * first + k) % 8 ≡ k - 8 * j = omega arith in
        let s : start + 8 * j + (k - 8 * j) ≡ start + k = omega arith in
        set_byte_here mid (first + j) v (8 * first + k) l (omega arith)
        ∙ ap (λ x. nat_eq (bit_at v x) 1) r ∙ h (k - 8 * j) (omega arith) ∙ ap (bit_of source) s

-- eight bits out of two bytes that follow each other
pub bit_at-shifted : (n s k : ℕ) → k < 8 → bit_at (n / 2 ^ s % 256) k ≡ bit_at n (s + k)
bit_at-shifted n s k h =
    sym (bit_at_cat_low (n / 2 ^ s / 256) 8 (n / 2 ^ s % 256) k h)
    ∙ ap (λ x. bit_at x k) (div-add-mod' (n / 2 ^ s) 256)
    ∙ ap (bit_at (n / 2 ^ s)) (omega arith)
    ∙ sym (bit_at_cat_high (n / 2 ^ s) s (n % 2 ^ s) (s + k) (mod-lt n (pow_pos s)) (omega arith))
    ∙ ap (λ x. bit_at x (s + k)) (div-add-mod' n (2 ^ s))

pub pair_bit : (bytes : List ℕ) (i k low high : ℕ) → k < 8 → low < 256 → low ≡ get_or bytes (i / 8) 0 → high ≡ get_or bytes (i / 8 + 1) 0
    → nat_eq (bit_at (256 * high + low) (i % 8 + k)) 1 ≡ bit_of bytes (i + k)
pair_bit bytes i k low high h b p q = ap (λ x. nat_eq (bit_at x (i % 8 + k)) 1) flip ∙ by (cases_lt (i % 8 + k) 8)
  where
    flip : 256 * high + low ≡ high * 2 ^ 8 + low
    flip = omega arith

    by : (i % 8 + k < 8) ⊎ (8 ≤ i % 8 + k) → nat_eq (bit_at (high * 2 ^ 8 + low) (i % 8 + k)) 1 ≡ bit_of bytes (i + k)
    by (inl l) =
        let r : i % 8 + k ≡ (i + k) % 8 = omega arith in
        let s : i / 8 ≡ (i + k) / 8 = omega arith in
        ap (λ x. nat_eq x 1) (bit_at_cat_low high 8 low (i % 8 + k) l)
        ∙ ap (λ x. nat_eq (bit_at x (i % 8 + k)) 1) p
        ∙ ap (λ x. nat_eq (bit_at (get_or bytes (i / 8) 0) x) 1) r
        ∙ ap (λ x. nat_eq (bit_at (get_or bytes x 0) ((i + k) % 8)) 1) s
    by (inr l) =
        let r : i % 8 + k - 8 ≡ (i + k) % 8 = omega arith in
        let s : i / 8 + 1 ≡ (i + k) / 8 = omega arith in
        ap (λ x. nat_eq x 1) (bit_at_cat_high high 8 low (i % 8 + k) b l)
        ∙ ap (λ x. nat_eq (bit_at x (i % 8 + k - 8)) 1) q
        ∙ ap (λ x. nat_eq (bit_at (get_or bytes (i / 8 + 1) 0) x) 1) r
        ∙ ap (λ x. nat_eq (bit_at (get_or bytes x 0) ((i + k) % 8)) 1) s

-- eight bits of one byte
pub byte_bit : (bytes : List ℕ) (i k byte : ℕ) → k < 8 → i % 8 ≡ 0 → byte ≡ get_or bytes (i / 8) 0 → nat_eq (bit_at byte k) 1 ≡ bit_of bytes (i + k)
byte_bit bytes i k byte h z e =
    let r : k ≡ (i + k) % 8 = omega arith in
    let s : i / 8 ≡ (i + k) / 8 = omega arith in
    ap (λ x. nat_eq (bit_at x k) 1) e ∙ ap (λ x. nat_eq (bit_at (get_or bytes (i / 8) 0) x) 1) r
    ∙ ap (λ x. nat_eq (bit_at (get_or bytes x 0) ((i + k) % 8)) 1) s

-- ---- bits that are appended
-- bytes cut to m, and filled up to m, keep the bits in those that stay
pub resized_bit : (old tail : List ℕ) (m k : ℕ) → k / 8 < m → k / 8 < length old → bit_of (take m old ++ tail) k ≡ bit_of old k
resized_bit old tail m k h l =
    ap (λ x. nat_eq (bit_at x (k % 8)) 1)
    (get_or_append_left (take m old) tail 0 (k / 8) (simp length-take (omega arith)) ∙ get_or-take m old (k / 8) 0 h)

pub appended_bits : (old mid new source : List ℕ) (slots start len : ℕ) → ((k : ℕ) → k < slots → bit_of mid k ≡ bit_of old k)
    → CopiesBits mid new slots source start len → bits_of new 0 (slots + len) ≡ bits_of old 0 slots ++ bits_of source start len
appended_bits old mid new source slots start len h f =
    range_parts (bit_of new) 0 slots len
    ∙ ap (λ bs. bs ++ map (bit_of new) (range_with_len (0 + slots) len))
    (same_range (bit_of new) (bit_of old) 0 slots (λ k l u. f.before k (omega arith) ∙ h k (omega arith)))
    ∙ ap (λ bs. bits_of old 0 slots ++ bs)
    (shifted (bit_of new) (bit_of source) (0 + slots) start len (λ j l. ap (λ x. bit_of new (x + j)) (omega arith) ∙ f.copied j l))

pub appended_equal : (old new : List ℕ) (slots len : ℕ) (bit : Bool) → ((k : ℕ) → k < slots → bit_of new k ≡ bit_of old k)
    → ((k : ℕ) → slots ≤ k → k < slots + len → bit_of new k ≡ bit) → bits_of new 0 (slots + len) ≡ bits_of old 0 slots ++ replicate len bit
appended_equal old new slots len bit h f =
    range_parts (bit_of new) 0 slots len
    ∙ ap (λ bs. bs ++ map (bit_of new) (range_with_len (0 + slots) len)) (same_range (bit_of new) (bit_of old) 0 slots (λ k l u. h k (omega arith)))
    ∙ ap (λ bs. bits_of old 0 slots ++ bs) (equal_range (bit_of new) (0 + slots) len bit (λ k l u. f k (omega arith) (omega arith)))

-- a byte of equal bits
equal_bit : (bit : Bool) (r : ℕ) → r < 8 → nat_eq (bit_at (cond bit 255 0) r) 1 ≡ bit
equal_bit true r h = ap (λ x. nat_eq x 1) (bit_at_ones 8 r h)
equal_bit false r h = ap (λ x. nat_eq x 1) (bit_at-zero r)

pub tail_bit : (front : List ℕ) (n v k : ℕ) (bit : Bool) → v ≡ cond bit 255 0 → length front ≤ k / 8 → k / 8 < length front + n
    → bit_of (front ++ replicate n v) k ≡ bit
tail_bit front n v k bit e l h =
    ap (λ x. nat_eq (bit_at x (k % 8)) 1)
    (get_or-append_right front (replicate n v) (length front) (k / 8) 0 refl l ∙ get_or-replicate n (k / 8 - length front) v 0 (omega arith) ∙ e)
    ∙ equal_bit bit (k % 8) (omega arith)

take_bit : (old : List ℕ) (m k : ℕ) → k / 8 < m → bit_of (take m old) k ≡ bit_of old k
take_bit old m k h = ap (λ x. nat_eq (bit_at x (k % 8)) 1) (get_or-take m old (k / 8) 0 h)

-- the last partial byte filled up, and whole bytes behind it
module _ (old mid new : List ℕ) (slots len m n v head : ℕ) (bit : Bool) (cut : m ≡ (slots + 7) / 8) (room : slots ≤ 8 * length old)
    (made : mid ≡ take ((slots + len + 7) / 8) (take m old) ++ replicate n v) (more : n ≡ (slots + len + 7) / 8 - m)
    (byte : v ≡ cond bit 255 0) (first : head ≡ min (8 - slots % 8) len) (filled : FillsBits mid new slots (slots + head) bit) where
  front_length : length (take ((slots + len + 7) / 8) (take m old)) ≡ m
  front_length = simp length-take (omega arith)

  kept_bit : (k : ℕ) → k < slots → bit_of new k ≡ bit_of old k
  kept_bit k h =
      filled.before k h ∙ ap (λ x. bit_of x k) made
      ∙ resized_bit (take m old) (replicate n v) ((slots + len + 7) / 8) k (omega arith) (simp length-take (omega arith))
      ∙ take_bit old m k (omega arith)

  equal_bits : (k : ℕ) → slots ≤ k → k < slots + len → bit_of new k ≡ bit
  equal_bits k l h = by (cases_lt k (slots + head))
    where
      by : (k < slots + head) ⊎ (slots + head ≤ k) → bit_of new k ≡ bit
      by (inl s) = filled.filled k l s
      by (inr s) =
          let f = front_length in
          filled.after k s ∙ ap (λ x. bit_of x k) made
          ∙ tail_bit (take ((slots + len + 7) / 8) (take m old)) n v k bit byte (omega arith) (omega arith)

  pub equal_appended : (bits_of new 0 (slots + len) ≡ bits_of old 0 slots ++ replicate len bit) × (slots + len ≤ 8 * length new)
  equal_appended =
      let e = filled.bytes in
      let f = front_length in
      let g = ap length made in
      let a = length-append (take ((slots + len + 7) / 8) (take m old)) (replicate n v) in
      let r = length-replicate n v in
      (appended_equal old new slots len bit kept_bit equal_bits, omega arith)

-- bytes cut behind the first bits keep them
pub cut_bytes : (old : List ℕ) (m slots : ℕ) → m ≡ (slots + 7) / 8 → slots ≤ 8 * length old
    → (bits_of (take m old) 0 slots ≡ bits_of old 0 slots) × (slots ≤ 8 * length (take m old))
cut_bytes old m slots cut room = (
  same_range (bit_of (take m old)) (bit_of old) 0 slots (λ k l u. take_bit old m k (omega arith)),
  simp length-take (omega arith),
)

-- bytes cut or filled up to hold bits that are copied behind the first ones
pub bits_appended : (old mid new source : List ℕ) (slots start len m n : ℕ) → m ≡ (slots + len + 7) / 8 → slots ≤ 8 * length old
    → mid ≡ take m old ++ replicate n 0 → n ≡ m - length old → CopiesBits mid new slots source start len
    → (bits_of new 0 (slots + len) ≡ bits_of old 0 slots ++ bits_of source start len) × (slots + len ≤ 8 * length new)
bits_appended old mid new source slots start len m n q room made more f = (
  appended_bits old mid new source slots start len
      (λ k h. ap (λ x. bit_of x k) made ∙ resized_bit old (replicate n 0) m k (omega arith) (omega arith)) f,
  (
      let e = f.bytes in
      let g = ap length made in
      let a = length-append {A = ℕ} (take m old) (replicate n 0) in
      let t = length-take m old in
      let r = length-replicate {A = ℕ} n 0 in
      omega arith
      ),
)

pub on_err : {A E : Type 0} (r : Result A E) (P : Type 0) → P → OnErr r P
on_err (Ok x) P p = tt
on_err (Err e) P p = p
