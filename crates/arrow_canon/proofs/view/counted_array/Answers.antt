use Rattle.std.proofs.Common.{◌^◌, nat_le, Bool, List, Option, ℕ, [], map, sum, length, ap, sym, ◌∙◌, arith}
use Rattle.arrow_types.specs.Seen.{seen}
use Rattle.arrow_canon.specs.Picks.{picks}
use Rattle.arrow_canon.specs.Runs.{places}
use Rattle.arrow_canon.proofs.Views.{slot_values, fits_if, few_if, past_limit, within_limit}
use Rattle.arrow_canon.proofs.view.counted_array.Goals as goal

pub packed_array-requires-clause-few : goal.packed_array-requires-clause-few
packed_array-requires-clause-few g c =
    let a = c.args.array.now in
    let is_few : List (Option ℕ) → Bool = λ ps. nat_le (sum (map length (picks [] (slot_values a) ps))) (2 ^ 62) in
    within_limit (picks [] (slot_values a) (places c.args.runs.now))
    (sym (c.are_within_limit.ensures ∙ ap is_few (c.as_slice.ensures.value ∙ c.in_ok-positions.ensures)) ∙ c.if-not-are_within_limit.false)

pub returns-then-not-are_within_limit-clause-overflow : goal.returns-then-not-are_within_limit-clause-overflow
returns-then-not-are_within_limit-clause-overflow g c refused fits =
    let a = c.args.array.now in
    let is_few : List (Option ℕ) → Bool = λ ps. nat_le (sum (map length (picks [] (slot_values a) ps))) (2 ^ 62) in
    past_limit (picks [] (slot_values a) (places c.args.runs.now))
    (sym (c.are_within_limit.ensures ∙ ap is_few (c.as_slice.ensures.value ∙ c.in_ok-positions.ensures)) ∙ c.if-not-are_within_limit.true)
    (few_if g.T.ViewType.IS_TEXT a c.invariant.ensures c.args.runs.now c.requires.within (seen c.args.dtype.now) c.requires.of_type fits)

pub returns-clause-ok : goal.returns-clause-ok
returns-clause-ok g c =
    let a = c.args.array.now in
    let is_few : List (Option ℕ) → Bool = λ ps. nat_le (sum (map length (picks [] (slot_values a) ps))) (2 ^ 62) in (
      c.in_ok-packed_array.ensures,
      fits_if g.T.ViewType.IS_TEXT a c.invariant.ensures c.args.runs.now c.requires.within (seen c.args.dtype.now) c.requires.of_type (omega (arith, c.requires.counted, c.ranges.count.fits))
          (within_limit (picks [] (slot_values a) (places c.args.runs.now))
          (sym (c.are_within_limit.ensures ∙ ap is_few (c.as_slice.ensures.value ∙ c.in_ok-positions.ensures)) ∙ c.if-not-are_within_limit.false)),
    )
