-- The bytes of texts are in their range, and bytes in their range are what they are.
use Rattle.std.proofs.Common.{◌≡◌, ℕ, zero, suc, ◌-◌, ◌%◌, ◌<◌, List, [], ◌∷◌, ◌++◌, length, map, take, drop, Bool, true, false, cond, refl, ap, sym, ◌∙◌, subst, arith, ltb-true}
use Rattle.std.specs.Prelude.{IsUtf8, ◌&&◌, nat_lt, nat_le}
use Rattle.std.specs.Char.{encode_utf8}
use Rattle.std.specs.Str.{encode_utf8_all, all_scalars}
use Rattle.std.proofs.lemmas.List.{take-map, drop-map, length-map}
use Rattle.arrow_flat.specs.Natives.{octets}
use Rattle.arrow_flat.specs.Pieces.{pieces, pieces_from, chunks, AreTexts}
use Rattle.arrow_flat.specs.Natives.{AreBytes}

are_bytes_append : (xs ys : List ℕ) → AreBytes xs → AreBytes ys → AreBytes (xs ++ ys)
are_bytes_append [] ys h k = k
are_bytes_append (x ∷ xs) ys h k = (h.0, are_bytes_append xs ys h.1 k)

-- ---- a character has one to four bytes

pick : (x y z : Bool) (ws bs cs ds : List ℕ) → (x ≡ true → AreBytes ws) → (y ≡ true → AreBytes bs) → (z ≡ true → AreBytes cs) → AreBytes ds
    → AreBytes (cond x ws (cond y bs (cond z cs ds)))
pick true y z ws bs cs ds f g h k = f refl
pick false true z ws bs cs ds f g h k = g refl
pick false false true ws bs cs ds f g h k = h refl
pick false false false ws bs cs ds f g h k = k

scalar_below : (x y z : Bool) → cond x true (y && z) ≡ true → (x ≡ true → ⊥) → z ≡ true
scalar_below true y z e f = absurd (f refl)
scalar_below false true true e f = refl
scalar_below false true false e f = cc
scalar_below false false z e f = cc

at_most : (c : ℕ) → cond (nat_lt c 55296) true (nat_le 57344 c && nat_lt c 1114112) ≡ true → c < 1114112
at_most c e = by (nat_lt c 55296) refl
  where
    by : (b : Bool) → nat_lt c 55296 ≡ b → c < 1114112
    by true h = omega (arith, ltb-true c 55296 h)
    by false h = ltb-true c 1114112 (scalar_below (nat_lt c 55296) (nat_le 57344 c) (nat_lt c 1114112) e (λ k. no (sym k ∙ h)))
      where
        no : true ≡ false → ⊥
        no e = cc

char_bytes : (c : ℕ) → cond (nat_lt c 55296) true (nat_le 57344 c && nat_lt c 1114112) ≡ true → AreBytes (encode_utf8 c)
unfolding encode_utf8
char_bytes c e =
    let top = at_most c e in
    pick (nat_lt c 128) (nat_lt c 2048) (nat_lt c 65536) _ _ _ _
    (λ h. let l = ltb-true c 128 h in (omega (arith, l), tt))
    (λ h. let l = ltb-true c 2048 h in (omega (arith, l), (omega arith, tt)))
    (λ h. let l = ltb-true c 65536 h in (omega (arith, l), (omega arith, (omega arith, tt))))
    (omega (arith, top), (omega arith, (omega arith, (omega arith, tt))))

both : (x y : Bool) → x && y ≡ true → (x ≡ true) × (y ≡ true)
both true true e = (refl, refl)
both true false e = cc
both false y e = cc

chars_bytes : (cs : List ℕ) → all_scalars cs ≡ true → AreBytes (encode_utf8_all cs)
chars_bytes [] e = tt
chars_bytes (c ∷ cs) e = let h = both _ (all_scalars cs) e in are_bytes_append (encode_utf8 c) (encode_utf8_all cs) (char_bytes c h.0) (chars_bytes cs h.1)

pub text_bytes : (bs : List ℕ) → IsUtf8 bs → AreBytes bs
text_bytes bs h = subst AreBytes h.1.1 (chars_bytes h.0 h.1.0)

-- ---- bytes in their range

pub octets_same : (bs : List ℕ) → AreBytes bs → octets bs ≡ bs
octets_same [] h = refl
octets_same (b ∷ bs) h = let e : b % 256 ≡ b = omega (arith, h.0) in ap (λ x. x ∷ octets bs) e ∙ ap (λ xs. b ∷ xs) (octets_same bs h.1)

pub are_octets : (bs : List ℕ) → AreBytes (octets bs)
are_octets [] = tt
are_octets (b ∷ bs) = (omega arith, are_octets bs)

pub octets_count : (bs : List ℕ) → length (octets bs) ≡ length bs
octets_count bs = length-map bs (λ b. b % 256)

-- ---- pieces of them

pieces_from_map : {A B : Type 0} (f : A → B) (a : ℕ) (os : List ℕ) (xs : List A) → pieces_from a os (map f xs) ≡ map (map f) (pieces_from a os xs)
pieces_from_map f a [] xs = refl
pieces_from_map f a (b ∷ os) xs =
    ap (λ p. p ∷ pieces_from b os (map f xs)) (ap (take (b - a)) (drop-map f a xs) ∙ take-map f (b - a) (drop a xs))
    ∙ ap (λ ps. map f (take (b - a) (drop a xs)) ∷ ps) (pieces_from_map f b os xs)

pub pieces_map : {A B : Type 0} (f : A → B) (os : List ℕ) (xs : List A) → pieces os (map f xs) ≡ map (map f) (pieces os xs)
pieces_map f [] xs = refl
pieces_map f (a ∷ os) xs = pieces_from_map f a os xs

pub chunks_map : {A B : Type 0} (f : A → B) (k n : ℕ) (xs : List A) → chunks k n (map f xs) ≡ map (map f) (chunks k n xs)
chunks_map f k zero xs = refl
chunks_map f k (suc n) xs =
    ap (λ p. p ∷ chunks k n (drop k (map f xs))) (take-map f k xs)
    ∙ ap (λ ps. map f (take k xs) ∷ ps) (ap (chunks k n) (drop-map f k xs) ∙ chunks_map f k n (drop k xs))

-- texts stay what they are
pub texts_same : (xs : List (List ℕ)) → AreTexts xs → map octets xs ≡ xs
texts_same [] h = refl
texts_same (x ∷ xs) h = ap (λ y. y ∷ map octets xs) (octets_same x (text_bytes x h.0)) ∙ ap (λ ys. x ∷ ys) (texts_same xs h.1)

pub texts_of_octets : (os bs : List ℕ) → AreTexts (pieces os bs) → AreTexts (pieces os (octets bs))
texts_of_octets os bs h = subst AreTexts (sym (pieces_map (λ b. b % 256) os bs ∙ texts_same (pieces os bs) h)) h
