use Rattle.std.proofs.Common.{rules, length, sym, subst, ap, ◌∙◌}
use Rattle.std.specs.Prelude.{pos}
use Rattle.std.specs.Int.{w8}
use Rattle.std.proofs.lemmas.Int.{to_z-of_z}
use Rattle.arrow_types.specs.Seen.{seen}
use Rattle.arrow_layout.specs.WellFormed.{type_limit}
use Rattle.arrow_canon.specs.Picks.{picks}
use Rattle.arrow_canon.specs.Runs.{places, AreWithin}
use Rattle.arrow_items.specs.Unions.{fill_number}
use Rattle.arrow_items.proofs.Ids.{numbers_at}
use Rattle.arrow_items.proofs.union.union_types.Goals as goal

pub picked_numbers-requires : goal.picked_numbers-requires
picked_numbers-requires c = subst (λ ts. AreWithin (length ts) c.args.runs.now) (sym c.as_slice.ensures) c.requires.within

pub returns : goal.returns
returns c =
    let t = seen c.args.dtype.now in
    let n = fill_number t in
    let ps = places c.args.runs.now in
    let z = c.filling_number-filling.result in
    c.in_ok-picked.ensures ∙ c.in_ok-numbers.ensures ∙ ap (λ k. picks k c.as_slice.result.now ps) (to_z-of_z w8 z (search rules)) ∙ ap (λ k. picks k c.as_slice.result.now ps) c.filling_number-filling.ensures
    ∙ ap (λ ts. picks (pos n) ts ps) c.as_slice.ensures ∙ numbers_at (type_limit t) n c.args.types.now ps c.requires.numbers
