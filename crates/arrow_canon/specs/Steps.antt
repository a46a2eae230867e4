-- The parts of canonical arrays, by the optional values of an array.
use Rattle.std.specs.Prelude.{ℕ, List, [], map, length, flat_map, replicate, unwrap_or, Option}

-- The values, and another where there is none.
abbrev pub values_or : {T : Type 0} → T → List (Option T) → List T
values_or d s = map (λ x. unwrap_or x d) s

-- The byte strings behind one another, and so many zeros where there is none.
abbrev pub concatenated : ℕ → List (Option (List ℕ)) → List ℕ
concatenated n s = flat_map (λ x. unwrap_or x (replicate n 0)) s

-- The lengths of the byte strings, and 0 where there is none.
abbrev pub lengths : List (Option (List ℕ)) → List ℕ
lengths s = map (λ x. length (unwrap_or x [])) s
