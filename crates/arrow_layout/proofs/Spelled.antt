-- Slots of one type that begin alike are one, and what follows them is the same.
use Rattle.std.proofs.Common.{Bool, List, [], ap, append-nil, append_assoc, ap₂, arith, drop, false, flat_map, get_or, length, negsuc, pos, pow-add, refl, subst, suc, sym, true, zero, ℕ, ℤ, ◌%◌, ◌*◌, ◌++◌, ◌+◌, ◌/◌, ◌<◌, ◌^◌, ◌↔◌, ◌∙◌, ◌∷◌, ◌≡◌, ◌≤◌}
use Rattle.std.proofs.lemmas.Bool.{false≢true}
use Rattle.std.specs.List.{AllByRecursion}
use Rattle.arrow_types.specs.Carried.{count_fields}
use Rattle.arrow_types.specs.Select.{number_limit, select}
use Rattle.arrow_types.specs.TypeData.{FieldList, TypeData, and_field, no_fields}
use Rattle.arrow_types.specs.declared.datatype.PrimitiveType.{PrimitiveType}
use Rattle.arrow_flat.specs.Numbers.{AreInRange, InRange, Range, ranges_of}
use Rattle.arrow_flat.specs.Slots.{Slot, Slots, bool, bytes, chosen, is_valid, items, no_slots, null, num, parts, slot, list_of_slots}
use Rattle.arrow_layout.specs.Forms.{Form, binaries_of, booleans_of, fixed_size_binaries_of, form_of, nulls_of, primitives_of, views_of}
use Rattle.arrow_layout.specs.SlotsOf.{AreParts, IsAt, IsBooleanSlot, IsDictionarySlot, IsFixedListSlot, IsFlatSlot, IsListSlot, IsNone, IsNullSlot, IsNumberSlot, IsOneMore, IsPart, IsSlot, IsStructSlot, IsUnionSlot}
use Rattle.arrow_layout.specs.Spelling.{AreShort, IsShort, bits_128, length_bytes, low_bytes, number_bytes, slot_bytes, slots_bytes}
use Rattle.arrow_layout.proofs.Denotes.{dictionary_value, list_from_fixed}
use Rattle.arrow_layout.proofs.FlatDenotes.{IsSomeBytes, binary_bytes, fixed_bytes, view_some_bytes}
use Rattle.arrow_layout.proofs.Made.{null_from_invalid}
use Rattle.arrow_types.specs.TypeData as T
use Rattle.arrow_types.specs.declared.datatype.PrimitiveType.TheVariants as primitive

head_is : (a b : ℕ) (xs ys : List ℕ) → a ∷ xs ≡ b ∷ ys → a ≡ b
head_is a b xs ys e = ap (λ l. get_or l 0 0) e

tail_is : (a b : ℕ) (xs ys : List ℕ) → a ∷ xs ≡ b ∷ ys → xs ≡ ys
tail_is a b xs ys e = ap (drop 1) e

-- two different numbers do not begin alike
differ : (a b : ℕ) (xs ys : List ℕ) → a ∷ xs ≡ b ∷ ys → (a ≡ b → ⊥) → ⊥
differ a b xs ys e f = f (head_is a b xs ys e)

-- lists of one length that stand in front of the rests
pub fronts : (xs ys r q : List ℕ) → length xs ≡ length ys → xs ++ r ≡ ys ++ q → (xs ≡ ys) × (r ≡ q)
fronts [] [] r q l e = (refl, e)
fronts [] (y ∷ ys) r q l e = absurd (omega arith)
fronts (x ∷ xs) [] r q l e = absurd (omega arith)
fronts (x ∷ xs) (y ∷ ys) r q l e =
    let more = fronts xs ys r q (omega arith) (tail_is x y (xs ++ r) (ys ++ q) e) in
    (ap₂ (λ z zs. z ∷ zs) (head_is x y (xs ++ r) (ys ++ q) e) more.0, more.1)

length-low : (k n : ℕ) → length (low_bytes k n) ≡ k
length-low zero n = refl
length-low (suc k) n = ap suc (length-low k (n / 256))

low_inj : (k m n : ℕ) → m < 2 ^ (8 * k) → n < 2 ^ (8 * k) → low_bytes k m ≡ low_bytes k n → m ≡ n
low_inj zero m n a b e = let z : 2 ^ (8 * 0) ≡ 1 = refl in omega arith
low_inj (suc k) m n a b e =
    let p : 2 ^ (8 * suc k) ≡ 2 ^ (8 * k) * 256 = power k in
    let high : m / 256 ≡ n / 256 = low_inj k (m / 256) (n / 256) (omega arith) (omega arith) (tail_is (m % 256) (n % 256) (low_bytes k (m / 256)) (low_bytes k (n / 256)) e) in
    let low : m % 256 ≡ n % 256 = head_is (m % 256) (n % 256) (low_bytes k (m / 256)) (low_bytes k (n / 256)) e in
    omega arith where
      power : (i : ℕ) → 2 ^ (8 * suc i) ≡ 2 ^ (8 * i) * 256
      power i = let s : 8 * suc i ≡ 8 * i + 8 = omega arith in rw (s, pow-add 2 (8 * i) 8) refl

-- a number that two's complement at 128 bits can hold
abbrev IsWide : ℤ → Type 0
IsWide (pos n) = n < 2 ^ 127
IsWide (negsuc n) = n < 2 ^ 127

bits_low : (z : ℤ) → IsWide z → bits_128 z < 2 ^ (8 * 16)
unfolding bits_128
bits_low (pos n) h = omega arith
bits_low (negsuc n) h = omega arith

bits_inj : (z w : ℤ) → IsWide z → IsWide w → bits_128 z ≡ bits_128 w → z ≡ w
unfolding bits_128
bits_inj (pos m) (pos n) h k e = ap pos e
bits_inj (pos m) (negsuc n) h k e = absurd (omega arith)
bits_inj (negsuc m) (pos n) h k e = absurd (omega arith)
bits_inj (negsuc m) (negsuc n) h k e = let same : m ≡ n = omega arith in ap negsuc same

abbrev Splits : Slot → Slot → Type 0
Splits x y = (r q : List ℕ) → slot_bytes x ++ r ≡ slot_bytes y ++ q → (x ≡ y) × (r ≡ q)

numbers_split : (z w : ℤ) → IsWide z → IsWide w → (r q : List ℕ) → number_bytes z ++ r ≡ number_bytes w ++ q → (z ≡ w) × (r ≡ q)
unfolding number_bytes
numbers_split z w h k r q e =
    let both = fronts (low_bytes 16 (bits_128 z)) (low_bytes 16 (bits_128 w)) r q (length-low 16 (bits_128 z) ∙ sym (length-low 16 (bits_128 w))) e in
    (bits_inj z w h k (low_inj 16 (bits_128 z) (bits_128 w) (bits_low z h) (bits_low w k) both.0), both.1)

-- no range goes past 128 bits
abbrev IsNarrow : Range → Type 0
IsNarrow r = (r.negative ≤ 2 ^ 127) × (r.others ≤ 2 ^ 127)

ranges_narrow : (p : PrimitiveType) → AllByRecursion IsNarrow (ranges_of p)
ranges_narrow primitive.Int8 = ((omega arith, omega arith), tt)
ranges_narrow primitive.Int16 = ((omega arith, omega arith), tt)
ranges_narrow primitive.Int32 = ((omega arith, omega arith), tt)
ranges_narrow primitive.Int64 = ((omega arith, omega arith), tt)
ranges_narrow primitive.Int128 = ((omega arith, omega arith), tt)
ranges_narrow primitive.UInt8 = ((omega arith, omega arith), tt)
ranges_narrow primitive.UInt16 = ((omega arith, omega arith), tt)
ranges_narrow primitive.UInt32 = ((omega arith, omega arith), tt)
ranges_narrow primitive.UInt64 = ((omega arith, omega arith), tt)
ranges_narrow primitive.DaysMs = ((omega arith, omega arith), ((omega arith, omega arith), tt))
ranges_narrow primitive.MonthDayNano = ((omega arith, omega arith), ((omega arith, omega arith), ((omega arith, omega arith), tt)))
ranges_narrow _ = ((omega arith, omega arith), tt)

in_wide : (r : Range) (z : ℤ) → IsNarrow r → InRange r z → IsWide z
in_wide r (pos n) w h = omega (arith, w.1)
in_wide r (negsuc n) w h = omega (arith, w.0)

number_lists_split : (rs : List Range) → AllByRecursion IsNarrow rs → (xs ys : List ℤ) → AreInRange rs xs → AreInRange rs ys → (r q : List ℕ) → flat_map number_bytes xs ++ r ≡ flat_map number_bytes ys ++ q → (xs ≡ ys) × (r ≡ q)
number_lists_split [] w [] [] h k r q e = (refl, e)
number_lists_split [] w [] (y ∷ ys) h k r q e = absurd k
number_lists_split [] w (x ∷ xs) ys h k r q e = absurd h
number_lists_split (a ∷ rs) w [] ys h k r q e = absurd h
number_lists_split (a ∷ rs) w (x ∷ xs) [] h k r q e = absurd k
number_lists_split (a ∷ rs) w (x ∷ xs) (y ∷ ys) h k r q e =
    let e' : number_bytes x ++ (flat_map number_bytes xs ++ r) ≡ number_bytes y ++ (flat_map number_bytes ys ++ q) =
    sym (append_assoc (number_bytes x) (flat_map number_bytes xs) r) ∙ (e ∙ append_assoc (number_bytes y) (flat_map number_bytes ys) q) in
    let first = numbers_split x y (in_wide a x w.0 h.0) (in_wide a y w.0 k.0) (flat_map number_bytes xs ++ r) (flat_map number_bytes ys ++ q) e' in
    let others = number_lists_split rs w.1 xs ys h.1 k.1 r q first.1 in
    (ap₂ (λ z zs. z ∷ zs) first.0 others.0, others.1)

lengths_split : (m n : ℕ) → m < 2 ^ 64 → n < 2 ^ 64 → (r q : List ℕ) → length_bytes m ++ r ≡ length_bytes n ++ q → (m ≡ n) × (r ≡ q)
unfolding length_bytes
lengths_split m n h k r q e =
    let both = fronts (low_bytes 8 m) (low_bytes 8 n) r q (length-low 8 m ∙ sym (length-low 8 n)) e in
    (low_inj 8 m n h k both.0, both.1)

bytes_split : (xs ys : List ℕ) → length xs < 2 ^ 64 → length ys < 2 ^ 64 → (r q : List ℕ) → (length_bytes (length xs) ++ xs) ++ r ≡ (length_bytes (length ys) ++ ys) ++ q → (xs ≡ ys) × (r ≡ q)
bytes_split xs ys h k r q e =
    let e' : length_bytes (length xs) ++ (xs ++ r) ≡ length_bytes (length ys) ++ (ys ++ q) = sym (append_assoc (length_bytes (length xs)) xs r) ∙ (e ∙ append_assoc (length_bytes (length ys)) ys q) in
    let both = lengths_split (length xs) (length ys) h k (xs ++ r) (ys ++ q) e' in
    fronts xs ys r q both.0 both.1

abbrev Claim : (Slot → Type 0) → Type 0
Claim P = (x y : Slot) → P x → P y → IsShort x → IsShort y → Splits x y

module _ (P : Slot → Type 0) (claim : Claim P) where
  slots_split : (xs ys : Slots) → AllByRecursion P (list_of_slots xs) → AllByRecursion P (list_of_slots ys) → length (list_of_slots xs) ≡ length (list_of_slots ys) → AreShort xs → AreShort ys
      → (r q : List ℕ) → slots_bytes xs ++ r ≡ slots_bytes ys ++ q → (xs ≡ ys) × (r ≡ q)
  slots_split no_slots no_slots h k l a b r q e = (refl, e)
  slots_split no_slots (slot y ys) h k l a b r q e = absurd (omega arith)
  slots_split (slot x xs) no_slots h k l a b r q e = absurd (omega arith)
  slots_split (slot x xs) (slot y ys) h k l a b r q e =
      let e' : slot_bytes x ++ (slots_bytes xs ++ r) ≡ slot_bytes y ++ (slots_bytes ys ++ q) = sym (append_assoc (slot_bytes x) (slots_bytes xs) r) ∙ (e ∙ append_assoc (slot_bytes y) (slots_bytes ys) q) in
      let first = claim x y h.0 k.0 a.0 b.0 (slots_bytes xs ++ r) (slots_bytes ys ++ q) e' in
      let others = slots_split xs ys h.1 k.1 (omega arith) a.1 b.1 r q first.1 in
      (ap₂ slot first.0 others.0, others.1)

  items_split : (xs ys : Slots) → AllByRecursion P (list_of_slots xs) → AllByRecursion P (list_of_slots ys) → IsShort (items xs) → IsShort (items ys)
      → (r q : List ℕ) → slot_bytes (items xs) ++ r ≡ slot_bytes (items ys) ++ q → (items xs ≡ items ys) × (r ≡ q)
  items_split xs ys h k a b r q e =
      let m = length_bytes (length (list_of_slots xs)) in
      let n = length_bytes (length (list_of_slots ys)) in
      let inside : (m ++ slots_bytes xs) ++ r ≡ (n ++ slots_bytes ys) ++ q = tail_is 4 4 ((m ++ slots_bytes xs) ++ r) ((n ++ slots_bytes ys) ++ q) e in
      let e' : m ++ (slots_bytes xs ++ r) ≡ n ++ (slots_bytes ys ++ q) = sym (append_assoc m (slots_bytes xs) r) ∙ (inside ∙ append_assoc n (slots_bytes ys) q) in
      let both = lengths_split (length (list_of_slots xs)) (length (list_of_slots ys)) a.0 b.0 (slots_bytes xs ++ r) (slots_bytes ys ++ q) e' in
      let all = slots_split xs ys h k both.0 a.1 b.1 r q both.1 in
      (ap items all.0, all.1)

  list_claim : Claim (IsListSlot P)
  list_claim null null h k a b r q e = (refl, tail_is 0 0 r q e)
  list_claim null (items ys) h k a b r q e = absurd (differ 0 4 _ _ e (λ d. omega arith))
  list_claim (items xs) null h k a b r q e = absurd (differ 4 0 _ _ e (λ d. omega arith))
  list_claim (items xs) (items ys) h k a b r q e = items_split xs ys h k a b r q e
  list_claim null _ h k a b r q e = absurd k
  list_claim (items xs) _ h k a b r q e = absurd k
  list_claim _ _ h k a b r q e = absurd h

  valid_first : (y : Slot) (q : List ℕ) → is_valid y ≡ true → get_or (slot_bytes y ++ q) 0 0 ≡ 0 → ⊥
  valid_first null q v e = false≢true v
  valid_first (bool b) q v e = absurd (omega arith)
  valid_first (num z) q v e = absurd (omega arith)
  valid_first (bytes bs) q v e = absurd (omega arith)
  valid_first (items xs) q v e = absurd (omega arith)
  valid_first (parts xs) q v e = absurd (omega arith)
  valid_first (chosen t x) q v e = absurd (omega arith)

  dictionary_by : (x y : Slot) (v w : Bool) → is_valid x ≡ v → is_valid y ≡ w → IsDictionarySlot P x → IsDictionarySlot P y → IsShort x → IsShort y → Splits x y
  dictionary_by x y true true v w h k a b r q e = claim x y (dictionary_value P x h v) (dictionary_value P y k w) a b r q e
  dictionary_by x y true false v w h k a b r q e =
      absurd (valid_first x r v (ap (λ l. get_or l 0 0) (e ∙ ap (λ z. slot_bytes z ++ q) (null_from_invalid y w))))
  dictionary_by x y false true v w h k a b r q e =
      absurd (valid_first y q w (ap (λ l. get_or l 0 0) (sym e ∙ ap (λ z. slot_bytes z ++ r) (null_from_invalid x v))))
  dictionary_by x y false false v w h k a b r q e =
      let xn = null_from_invalid x v in
      let yn = null_from_invalid y w in
      let e' : 0 ∷ r ≡ 0 ∷ q = ap (λ z. slot_bytes z ++ r) (sym xn) ∙ (e ∙ ap (λ z. slot_bytes z ++ q) yn) in
      (xn ∙ sym yn, tail_is 0 0 r q e')

null_claim : (x y : Slot) → IsNullSlot x → IsNullSlot y → Splits x y
null_claim null null h k r q e = (refl, tail_is 0 0 r q e)
null_claim null _ h k r q e = absurd k
null_claim _ _ h k r q e = absurd h

boolean_claim : (x y : Slot) → IsBooleanSlot x → IsBooleanSlot y → Splits x y
boolean_claim null null h k r q e = (refl, tail_is 0 0 r q e)
boolean_claim null (bool b) h k r q e = absurd (differ 0 1 _ _ e (λ d. omega arith))
boolean_claim (bool b) null h k r q e = absurd (differ 1 0 _ _ e (λ d. omega arith))
boolean_claim (bool true) (bool true) h k r q e = (refl, tail_is 1 1 r q (tail_is 1 1 _ _ e))
boolean_claim (bool false) (bool false) h k r q e = (refl, tail_is 0 0 r q (tail_is 1 1 _ _ e))
boolean_claim (bool true) (bool false) h k r q e = absurd (differ 1 0 r q (tail_is 1 1 _ _ e) (λ d. omega arith))
boolean_claim (bool false) (bool true) h k r q e = absurd (differ 0 1 r q (tail_is 1 1 _ _ e) (λ d. omega arith))
boolean_claim null _ h k r q e = absurd k
boolean_claim (bool b) _ h k r q e = absurd k
boolean_claim _ _ h k r q e = absurd h

number_claim : (p : PrimitiveType) (x y : Slot) → IsNumberSlot p x → IsNumberSlot p y → Splits x y
number_claim p null null h k r q e = (refl, tail_is 0 0 r q e)
number_claim p null (num w) h k r q e = absurd (differ 0 2 _ _ e (λ d. omega arith))
number_claim p (num z) null h k r q e = absurd (differ 2 0 _ _ e (λ d. omega arith))
number_claim p (num z) (num w) h k r q e = let both = number_lists_split (ranges_of p) (ranges_narrow p) z w h k r q (tail_is 2 2 _ _ e) in (ap num both.0, both.1)
number_claim p null _ h k r q e = absurd k
number_claim p (num z) _ h k r q e = absurd k
number_claim p _ _ h k r q e = absurd h

bytes_claim : (x y : Slot) → IsSomeBytes x → IsSomeBytes y → IsShort x → IsShort y → Splits x y
bytes_claim null null h k a b r q e = (refl, tail_is 0 0 r q e)
bytes_claim null (bytes w) h k a b r q e = absurd (differ 0 3 _ _ e (λ d. omega arith))
bytes_claim (bytes z) null h k a b r q e = absurd (differ 3 0 _ _ e (λ d. omega arith))
bytes_claim (bytes z) (bytes w) h k a b r q e = let both = bytes_split z w a b r q (tail_is 3 3 _ _ e) in (ap bytes both.0, both.1)
bytes_claim null _ h k a b r q e = absurd k
bytes_claim (bytes z) _ h k a b r q e = absurd k
bytes_claim _ _ h k a b r q e = absurd h

flat_claim : (f : Form) (x y : Slot) → IsFlatSlot f x → IsFlatSlot f y → IsShort x → IsShort y → Splits x y
flat_claim nulls_of x y h k a b = null_claim x y h k
flat_claim booleans_of x y h k a b = boolean_claim x y h k
flat_claim (primitives_of p) x y h k a b = number_claim p x y h k
flat_claim (binaries_of large text) x y h k a b = bytes_claim x y (binary_bytes text x h) (binary_bytes text y k) a b
flat_claim (fixed_size_binaries_of n) x y h k a b = bytes_claim x y (fixed_bytes n x h) (fixed_bytes n y k) a b
flat_claim (views_of text) x y h k a b = bytes_claim x y (view_some_bytes text x h) (view_some_bytes text y k) a b
flat_claim _ x y h k a b = absurd h

abbrev PartsClaim : (Slots → Type 0) → Type 0
PartsClaim P = (xs ys : Slots) → P xs → P ys → AreShort xs → AreShort ys → (r q : List ℕ) → slots_bytes xs ++ r ≡ slots_bytes ys ++ q → (xs ≡ ys) × (r ≡ q)

struct_claim : (P : Slots → Type 0) → PartsClaim P → (x y : Slot) → IsStructSlot P x → IsStructSlot P y → IsShort x → IsShort y → Splits x y
struct_claim P f null null h k a b r q e = (refl, tail_is 0 0 r q e)
struct_claim P f null (parts ys) h k a b r q e = absurd (differ 0 5 _ _ e (λ d. omega arith))
struct_claim P f (parts xs) null h k a b r q e = absurd (differ 5 0 _ _ e (λ d. omega arith))
struct_claim P f (parts xs) (parts ys) h k a b r q e = let both = f xs ys h k a b r q (tail_is 5 5 _ _ e) in (ap parts both.0, both.1)
struct_claim P f null _ h k a b r q e = absurd k
struct_claim P f (parts xs) _ h k a b r q e = absurd k
struct_claim P f _ _ h k a b r q e = absurd h

abbrev ChosenClaim : (ℕ → Slot → Type 0) → Type 0
ChosenClaim P = (t : ℕ) (x y : Slot) → P t x → P t y → IsShort x → IsShort y → Splits x y

union_claim : (P : ℕ → Slot → Type 0) → ChosenClaim P → (x y : Slot) → IsUnionSlot P x → IsUnionSlot P y → IsShort x → IsShort y → Splits x y
union_claim P f (chosen t x) (chosen u y) h k a b r q e =
    let inside : t ∷ (slot_bytes x ++ r) ≡ u ∷ (slot_bytes y ++ q) = tail_is 6 6 _ _ e in
    let same : t ≡ u = head_is t u _ _ inside in
    let both = f t x y h (subst (λ n. P n y) (sym same) k) a b r q (tail_is t u _ _ inside) in
    (ap₂ chosen same both.0, both.1)
union_claim P f (chosen t x) _ h k a b r q e = absurd k
union_claim P f _ _ h k a b r q e = absurd h

fixed_claim : (n : ℕ) (P : Slot → Type 0) → Claim P → Claim (IsFixedListSlot n P)
fixed_claim n P f x y h k = list_claim P f x y (list_from_fixed n P x h) (list_from_fixed n P y k)

none_claim : PartsClaim IsNone
none_claim no_slots no_slots h k a b r q e = (refl, e)
none_claim no_slots (slot y ys) h k a b r q e = absurd k
none_claim (slot x xs) ys h k a b r q e = absurd h

more_claim : (P : Slot → Type 0) (Q : Slots → Type 0) → Claim P → PartsClaim Q → PartsClaim (IsOneMore P Q)
more_claim P Q f g no_slots ys h k a b r q e = absurd h
more_claim P Q f g (slot x xs) no_slots h k a b r q e = absurd k
more_claim P Q f g (slot x xs) (slot y ys) h k a b r q e =
    let e' : slot_bytes x ++ (slots_bytes xs ++ r) ≡ slot_bytes y ++ (slots_bytes ys ++ q) = sym (append_assoc (slot_bytes x) (slots_bytes xs) r) ∙ (e ∙ append_assoc (slot_bytes y) (slots_bytes ys) q) in
    let first = f x y h.0 k.0 a.0 b.0 (slots_bytes xs ++ r) (slots_bytes ys ++ q) e' in
    let others = g xs ys h.1 k.1 a.1 b.1 r q first.1 in
    (ap₂ slot first.0 others.0, others.1)

at_claim : (P : Slot → Type 0) (Q : ℕ → Slot → Type 0) → Claim P → ChosenClaim Q → ChosenClaim (IsAt P Q)
at_claim P Q f g zero x y h k = f x y h k
at_claim P Q f g (suc t) x y h k = g t x y h k

nowhere_claim : ChosenClaim (λ n x. ⊥)
nowhere_claim t x y h k = absurd h

mutual
  pub spelled : (t : TypeData) (x y : Slot) → IsSlot t x → IsSlot t y → IsShort x → IsShort y → (r q : List ℕ) → slot_bytes x ++ r ≡ slot_bytes y ++ q → (x ≡ y) × (r ≡ q)
  spelled (T.list (T.field n t b m)) = list_claim (IsSlot t) (spelled t)
  spelled (T.large_list (T.field n t b m)) = list_claim (IsSlot t) (spelled t)
  spelled (T.map (T.field n t b m) o) = list_claim (IsSlot t) (spelled t)
  spelled (T.fixed_size_list (T.field n t b m) k) = fixed_claim k (IsSlot t) (spelled t)
  spelled (T.struct fs) = struct_claim (AreParts fs) (parts_spelled fs)
  spelled (T.union fs ids mode) = union_claim (λ t x. (t < number_limit ids (count_fields fs)) × IsPart fs (select ids t) x) (λ t x y h k. part_spelled fs (select ids t) x y h.1 k.1)
  spelled (T.dictionary k t o) = λ x y. dictionary_by (IsSlot t) (spelled t) x y (is_valid x) (is_valid y) refl refl
  spelled (T.extension n t m) = spelled t
  spelled t = flat_claim (form_of t)

  parts_spelled : (fs : FieldList) (xs ys : Slots) → AreParts fs xs → AreParts fs ys → AreShort xs → AreShort ys → (r q : List ℕ) → slots_bytes xs ++ r ≡ slots_bytes ys ++ q → (xs ≡ ys) × (r ≡ q)
  parts_spelled no_fields = none_claim
  parts_spelled (and_field (T.field n t b m) fs) = more_claim (IsSlot t) (AreParts fs) (spelled t) (parts_spelled fs)

  part_spelled : (fs : FieldList) (i : ℕ) (x y : Slot) → IsPart fs i x → IsPart fs i y → IsShort x → IsShort y → (r q : List ℕ) → slot_bytes x ++ r ≡ slot_bytes y ++ q → (x ≡ y) × (r ≡ q)
  part_spelled no_fields = nowhere_claim
  part_spelled (and_field (T.field n t b m) fs) = at_claim (IsSlot t) (IsPart fs) (spelled t) (part_spelled fs)

-- the spelling tells the slot
pub spelled_one : (t : TypeData) (x y : Slot) → IsSlot t x → IsSlot t y → IsShort x → IsShort y → (slot_bytes x ≡ slot_bytes y) ↔ (x ≡ y)
spelled_one t x y h k a b =
    (λ e. (spelled t x y h k a b [] [] (append-nil (slot_bytes x) ∙ (e ∙ sym (append-nil (slot_bytes y))))).0, λ e. ap slot_bytes e)

-- no spelling begins with another
pub no_prefix : (t : TypeData) (x y : Slot) → IsSlot t x → IsSlot t y → IsShort x → IsShort y → (more : List ℕ) → slot_bytes x ++ more ≡ slot_bytes y → more ≡ []
no_prefix t x y h k a b more e = (spelled t x y h k a b more [] (e ∙ sym (append-nil (slot_bytes y)))).1
