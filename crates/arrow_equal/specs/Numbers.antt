-- The numbers of a value as a list.
use Rattle.std.specs.Prelude.{ℤ, List, [], ◌∷◌}
use Rattle.arrow_equal.specs.declared.numbers.Numbers.{Numbers}
use Rattle.arrow_equal.specs.declared.numbers.Numbers.TheVariants as numbers

abbrev pub number_list : Numbers → List ℤ
number_list (numbers.One a) = a ∷ []
number_list (numbers.Two a b) = a ∷ b ∷ []
number_list (numbers.Three a b c) = a ∷ b ∷ c ∷ []
