-- Values that have one number each.
use Rattle.std.proofs.Common.{◌≡◌, List, [], ◌∷◌, refl, ap, ap₂, Option, Some, None}
use Rattle.std.specs.Prelude.{ℤ, map, option_map, option_and_then}
use Rattle.serde_json.specs.Data.{Data}
use Rattle.arrow_types.specs.declared.datatype.PrimitiveType.TheVariants as primitive
use Rattle.arrow_meaning.specs.Nodes.{key_number}
use Rattle.type_json.specs.Values.{traverse}
use Rattle.column_grammar.specs.Reads.{singles_in}
use Rattle.column_grammar.specs.Values.{first_integer, items_in, list_in, number_in, one, signed_in}

first_is_key : (zs : List ℤ) → first_integer zs ≡ key_number zs
first_is_key [] = refl
first_is_key (z ∷ zs) = refl

pub keys_are : (xs : List (List ℤ)) → map first_integer xs ≡ map key_number xs
keys_are [] = refl
keys_are (x ∷ xs) = ap₂ (λ y ys. y ∷ ys) (first_is_key x) (keys_are xs)

-- ---- numbers of eight bits

one_more : (z : Option ℤ) (o : Option (List (List ℤ))) (r : Option (List ℤ)) → option_map (map first_integer) o ≡ r
    → option_map (map first_integer) (option_and_then (λ y. option_map (λ ys. y ∷ ys) o) (one z)) ≡ option_and_then (λ y. option_map (λ ys. y ∷ ys) r) z
one_more None o r e = refl
one_more (Some z) None r e = ap (option_map (λ ys. z ∷ ys)) e
one_more (Some z) (Some xs) r e = ap (option_map (λ ys. z ∷ ys)) e

one_each : (ds : List Data) → option_map (map first_integer) (traverse (number_in primitive.Int8) ds) ≡ traverse (signed_in 7) ds
unfolding number_in
one_each [] = refl
one_each (d ∷ ds) = one_more (signed_in 7 d) (traverse (number_in primitive.Int8) ds) (traverse (signed_in 7) ds) (one_each ds)

of_items : (o : Option (List Data)) → option_map (map first_integer) (option_and_then (traverse (number_in primitive.Int8)) o) ≡ option_and_then (traverse (signed_in 7)) o
of_items None = refl
of_items (Some ds) = one_each ds

pub singles_are : (d : Data) → singles_in primitive.Int8 d ≡ option_and_then (traverse (signed_in 7)) (items_in d)
unfolding singles_in list_in
singles_are d = of_items (items_in d)
