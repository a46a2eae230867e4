-- Lists that are equal, one value after the other.
use Rattle.std.proofs.Common.{◌≡◌, ℕ, zero, suc, ◌<◌, List, [], ◌∷◌, length, map, get_or, refl, sym, ap, ◌∙◌, arith}
use Rattle.std.specs.Prelude.{ℤ, pos}
use Rattle.arrow_flat.specs.Natives.{octets, unsigned}

module _ {A B : Type 0} (f : A → B) where
  -- the values at one place are seen as one
  pub same_at : (xs ys : List A) (i : ℕ) (x y : A) → x ≡ get_or xs i x → y ≡ get_or ys i y → i < length xs → map f xs ≡ map f ys → f x ≡ f y
  same_at [] ys i x y p q h e = absurd (omega (arith, h))
  same_at (a ∷ xs) [] i x y p q h e = cc
  same_at (a ∷ xs) (b ∷ ys) zero x y p q h e = let heads : f a ≡ f b = cc in ap f p ∙ heads ∙ sym (ap f q)
  same_at (a ∷ xs) (b ∷ ys) (suc i) x y p q h e = let tails : map f xs ≡ map f ys = cc in same_at xs ys i x y p q (omega (arith, h)) tails

  pub map_one : ((x y : A) → f x ≡ f y → x ≡ y) → (xs ys : List A) → map f xs ≡ map f ys → xs ≡ ys
  map_one h [] [] e = refl
  map_one h [] (y ∷ ys) e = cc
  map_one h (x ∷ xs) [] e = cc
  map_one h (x ∷ xs) (y ∷ ys) e =
      let heads : f x ≡ f y = cc in
      let tails : map f xs ≡ map f ys = cc in
      ap (λ z. z ∷ xs) (h x y heads) ∙ ap (λ zs. y ∷ zs) (map_one h xs ys tails)

  pub map_length : (xs ys : List A) → map f xs ≡ map f ys → length xs ≡ length ys
  map_length [] [] e = refl
  map_length [] (y ∷ ys) e = cc
  map_length (x ∷ xs) [] e = cc
  map_length (x ∷ xs) (y ∷ ys) e = let tails : map f xs ≡ map f ys = cc in ap suc (map_length xs ys tails)

-- a byte as the one number of a value
abbrev byte_part : ℕ → List ℤ
byte_part n = pos n ∷ []

parts-octets : (bs : List ℕ) → map (unsigned 8) bs ≡ map byte_part (octets bs)
parts-octets [] = refl
parts-octets (b ∷ bs) = ap (λ cs. unsigned 8 b ∷ cs) (parts-octets bs)

byte_one : (m n : ℕ) → byte_part m ≡ byte_part n → m ≡ n
byte_one m n e = cc

-- bytes are equal where they are as native values
pub octets_of : (bs cs : List ℕ) → map (unsigned 8) bs ≡ map (unsigned 8) cs → octets bs ≡ octets cs
octets_of bs cs e = map_one byte_part byte_one (octets bs) (octets cs) (sym (parts-octets bs) ∙ e ∙ parts-octets cs)

pub of_octets : (bs cs : List ℕ) → octets bs ≡ octets cs → map (unsigned 8) bs ≡ map (unsigned 8) cs
of_octets bs cs e = parts-octets bs ∙ ap (map byte_part) e ∙ sym (parts-octets cs)
