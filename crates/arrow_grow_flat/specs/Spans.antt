-- Binary values that follow one another and grow, given the number of an offset.
use Rattle.std.specs.Prelude.{◌≡◌, ◌≤◌, ℕ, ℤ, Bool, cond, List, [], ◌∷◌, ◌++◌, map, length, take, Option, Some, None, ⊤}
use Rattle.std.specs.List.{concat}
use Rattle.arrow_types.specs.declared.error.GrowError.{GrowError}
use Rattle.arrow_types.specs.declared.error.GrowError.TheVariants as error
use Rattle.arrow_buffers.specs.Bits.{Bits}
use Rattle.arrow_bytes.specs.Binaries.{Binaries, values_of, values_between}
use Rattle.arrow_layout.specs.Canon.{offsets}

-- Empty where the bit is unset.
abbrev pub empty_at_unset : List Bool → List (List ℕ) → List (List ℕ)
empty_at_unset [] xs = xs
empty_at_unset (b ∷ bits) [] = []
empty_at_unset (b ∷ bits) (x ∷ xs) = cond b x [] ∷ empty_at_unset bits xs

abbrev pub empty_at_nulls : Option Bits → List (List ℕ) → List (List ℕ)
empty_at_nulls None xs = xs
empty_at_nulls (Some b) xs = empty_at_unset b.bits xs

-- The value of each slot, empty for a null.
abbrev pub slot_values : {O : Type 0} → (O → ℤ) → Binaries O → List (List ℕ)
slot_values number a = empty_at_nulls a.mask (values_of number a)

-- The values between the offsets follow one another from the first byte to the last.
pub record AreJoined {O : Type 0} (number : O → ℤ) (os : List O) (bs : List ℕ) : Type 0 where
  pub ends : map number os ≡ offsets (map length (values_between number os bs))
  pub bytes : bs ≡ concat (values_between number os bs)

-- The values ys come after those that were there.
pub record AppendsValues {O : Type 0} (number : O → ℤ) (os : List O) (bs : List ℕ) (ys : List (List ℕ)) (ps : List O) (cs : List ℕ) : Type 0 where
  pub follow : AreJoined number ps cs
  pub values : values_between number ps cs ≡ values_between number os bs ++ ys

-- The first items of ys are xs.
abbrev pub IsPrefixOf : {A : Type 0} → List A → List A → Type 0
IsPrefixOf xs ys = take (length xs) ys ≡ xs

-- Why values that would end at n are refused.
abbrev pub EndRefused : ℕ → ℕ → GrowError → Type 0
EndRefused limit n error.Overflow = limit ≤ n
EndRefused limit n error.OutOfMemory = ⊤
