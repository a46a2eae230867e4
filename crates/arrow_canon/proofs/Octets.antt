-- Bytes in their range, and the slots of byte strings.
use Rattle.std.proofs.Common.{◌≡◌, ℕ, zero, suc, ◌%◌, List, [], ◌∷◌, ◌++◌, take, drop, flat_map, replicate, refl, ap, sym, ◌∙◌}
use Rattle.std.proofs.lemmas.List.{map-append, take-map, drop-map}
use Rattle.arrow_flat.specs.Natives.{octets}
use Rattle.arrow_flat.specs.Slots.{Slot, bytes}

pub octets_joined : {A : Type 0} (g : A → List ℕ) (xs : List A) → flat_map (λ x. octets (g x)) xs ≡ octets (flat_map g xs)
octets_joined g [] = refl
octets_joined g (x ∷ xs) = ap (λ ys. octets (g x) ++ ys) (octets_joined g xs) ∙ sym (map-append (λ b. b % 256) (g x) (flat_map g xs))

pub octets_part : (n a : ℕ) (bs : List ℕ) → take n (drop a (octets bs)) ≡ octets (take n (drop a bs))
octets_part n a bs = ap (take n) (drop-map (λ b. b % 256) a bs) ∙ take-map (λ b. b % 256) n (drop a bs)

pub octets_zeros : (n : ℕ) → replicate n 0 ≡ octets (replicate n 0)
octets_zeros zero = refl
octets_zeros (suc n) = ap (λ bs. 0 ∷ bs) (octets_zeros n)

abbrev pub string : List ℕ → Slot
string x = bytes (octets x)
