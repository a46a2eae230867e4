use Rattle.std.proofs.Common.{◌++◌, Some, map, ap, sym, subst, ◌∙◌}
use Rattle.std.specs.Option.{option_copied}
use Rattle.arrow_canon.specs.Picks.{span, valid_place}
use Rattle.arrow_canon.specs.Runs.{places_of, IsWithinMask}
use Rattle.arrow_canon.proofs.Masks.{bits_slots, bits_fill, bits_part}
use Rattle.arrow_canon.proofs.mask.push_bits.Goals as goal

pub returns-in_ok-extend_constant-in-Fill : goal.returns-in_ok-extend_constant-in-Fill
returns-in_ok-extend_constant-in-Fill c =
    let m = option_copied c.args.validity in
    c.in_ok-extend_constant-in-Fill.ensures.ok
    ∙ ap (λ bs. c.args.bits.now ++ bs) (bits_fill m c.in-Fill.count ∙ ap (λ r. map (valid_place m) (places_of r)) (sym c.in-Fill.is))

pub returns-in_ok-extend_constant-in-None : goal.returns-in_ok-extend_constant-in-None
returns-in_ok-extend_constant-in-None c =
    let m = option_copied c.args.validity in
    c.in_ok-extend_constant-in-None.ensures.ok
    ∙ ap (λ bs. c.args.bits.now ++ bs)
    (bits_slots c.in-Slots.start c.in-Slots.length ∙ ap (λ v. map (valid_place (option_copied v)) (span c.in-Slots.start c.in-Slots.length)) (sym c.in-None.is)
    ∙ ap (λ r. map (valid_place m) (places_of r)) (sym c.in-Slots.is))

pub returns-in_ok-extend_from_range-in-Some : goal.returns-in_ok-extend_from_range-in-Some
returns-in_ok-extend_from_range-in-Some c =
    let m = option_copied c.args.validity in
    let mask = c.in-Some.mask.now in
    let within = subst (λ v. IsWithinMask (option_copied v) c.args.run) c.in-Some.is c.requires in
    c.in_ok-extend_from_range-in-Some.ensures.ok
    ∙ ap (λ bs. c.args.bits.now ++ bs)
    (bits_part mask c.in-Slots.start c.in-Slots.length (subst (IsWithinMask (Some mask)) c.in-Slots.is within)
    ∙ ap (λ v. map (valid_place (option_copied v)) (span c.in-Slots.start c.in-Slots.length)) (sym c.in-Some.is)
    ∙ ap (λ r. map (valid_place m) (places_of r)) (sym c.in-Slots.is))
