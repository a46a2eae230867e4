-- Keys, each of them one number, are equal where their numbers are.
use Rattle.std.proofs.Common.{◌≡◌, ◌↔◌, IsTrue, Bool, List, [], ◌∷◌, map, refl, ap, sym, ◌∙◌}
use Rattle.std.specs.Prelude.{ℤ, None}
use Rattle.arrow_flat.specs.Primitives.{Primitives}
use Rattle.arrow_layout.specs.Layouts.{dictionaries}
use Rattle.arrow_meaning.specs.Nodes.{key_number, primitive_layout}
use Rattle.arrow_scalar.specs.Bare.{bare_keys, no_child}
use Rattle.arrow_types.specs.Seen.{seen}
use Rattle.arrow_types.specs.TypeData as T

abbrev lone : ℤ → List ℤ
lone z = z ∷ []

module _ {A : Type 0} (parts : A → List ℤ) (one : (x : A) → parts x ≡ key_number (parts x) ∷ []) where
  parts_back : (xs : List A) → map lone (map key_number (map parts xs)) ≡ map parts xs
  parts_back [] = refl
  parts_back (x ∷ xs) = ap (λ z. z ∷ map lone (map key_number (map parts xs))) (sym (one x)) ∙ ap (λ zs. parts x ∷ zs) (parts_back xs)

  numbers_one : (xs ys : List A) → map key_number (map parts xs) ≡ map key_number (map parts ys) → map parts xs ≡ map parts ys
  numbers_one xs ys e = sym (parts_back xs) ∙ ap (map lone) e ∙ parts_back ys

  -- keys of one type
  pub keys_same : (r : Bool) (a b : Primitives A) → seen a.dtype ≡ seen b.dtype → (IsTrue r ↔ (map parts a.values ≡ map parts b.values))
      → (IsTrue r ↔ (bare_keys (primitive_layout parts a) ≡ bare_keys (primitive_layout parts b)))
  keys_same r a b e h = (
    λ t. ap (λ u. dictionaries T.null u None (map key_number (map parts a.values)) no_child) e ∙ ap (λ xs. dictionaries T.null (seen b.dtype) None (map key_number xs) no_child) (h.0 t),
    λ s. h.1 (numbers_one a.values b.values (same_keys s)),
  )
    where
      same_keys : bare_keys (primitive_layout parts a) ≡ bare_keys (primitive_layout parts b) → map key_number (map parts a.values) ≡ map key_number (map parts b.values)
      same_keys s = cc

-- an equation with another term of the same value
pub to_same : {A : Type 0} (r : Bool) (x y z : A) → y ≡ z → (IsTrue r ↔ (x ≡ y)) → (IsTrue r ↔ (x ≡ z))
to_same r x y z e h = (λ t. h.0 t ∙ e, λ s. h.1 (s ∙ sym e))
