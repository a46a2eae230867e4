use Rattle.std.proofs.Common.{ap, sym, ◌∙◌, ◌≡◌, ◌∷◌, [], Some, rules}
use Rattle.std.specs.Int.{w128, cast_signed, int_wrap}
use Rattle.std.proofs.lemmas.Int.{ints, to_z-of_z, int_wrap_fits}
use Rattle.column_read.proofs.Bytes16.{int128-found}
use Rattle.column_read.proofs.native.int128_of.Goals as goal

wraps : (c : goal.After-from_be_bytes) → int_wrap w128 (cast_signed w128 (mir.Val.of_z w128 c.from_be_bytes.result)) ≡ c.from_be_bytes.result
wraps c = search (rules, ints, int_wrap_fits, to_z-of_z)

pub returns-in-Ok : goal.returns-in-Ok
returns-in-Ok c = ap (λ z. Some (z ∷ [])) (wraps c) ∙ sym (int128-found c.args.bytes.now c.from_be_bytes.result (search rules) (search rules))
