use Rattle.std.proofs.Common.{◌≡◌, Some, None, IfOk, false, map, ap, sym, subst, ◌∙◌}
use Rattle.std.specs.Option.{option_copied}
use Rattle.arrow_buffers.specs.Bits.{plain, both}
use Rattle.arrow_flat.specs.Booleans.{slots}
use Rattle.arrow_canon.specs.Picks.{picks, valid_place}
use Rattle.arrow_canon.specs.Runs.{places}
use Rattle.arrow_canon.specs.Steps.{values_or}
use Rattle.arrow_canon.proofs.Booleans.{values_all, values_both}
use Rattle.arrow_canon.proofs.boolean.picked_values.Goals as goal

pub returns-in-None : goal.returns-in-None
returns-in-None c =
    let a = c.args.array.now in
    let ps = places c.args.runs.now in
    c.in_ok-bits.ensures ∙ ap (λ b. plain (map (valid_place (Some b)) ps)) c.values.ensures
    ∙ ap plain (values_all a c.requires.fits ps (sym (ap option_copied c.in-None.is) ∙ c.requires.mask))

pub returns-in-Some : goal.returns-in-Some
returns-in-Some c =
    let a = c.args.array.now in
    let ps = places c.args.runs.now in
    let mask = c.in-Some.mask.now in
    let bits : plain (both c.in_ok-bits.bits.bits mask.bits) ≡ plain (values_or false (picks None (slots a) ps)) =
    ap (λ b. plain (both b.bits mask.bits)) (c.in_ok-bits.ensures ∙ ap (λ b. plain (map (valid_place (Some b)) ps)) c.values.ensures)
    ∙ ap plain (values_both a c.requires.fits ps mask (sym (ap option_copied c.in-Some.is) ∙ c.requires.mask)) in
    subst (λ x. IfOk c.and.result (λ b. b ≡ x)) bits c.and.ensures
