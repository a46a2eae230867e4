use Rattle.std.proofs.Common.{sym, ap, ◌∙◌, Some}
use Rattle.arrow_push.proofs.Nulls.{bit_in, valid_in}
use Rattle.arrow_push.proofs.masked.MaskedBuilderNullableBuilder.is_valid.Goals as goal

pub returns-in-None : goal.returns-in-None
returns-in-None g c =
    let b = c.args.self.now in
    valid_in b.validity (g.V.Building.seen b.values).slots c.args.i b.fits (g.met.V.ValuesLaws.valid b.values) c.requires
    ∙ ap (λ m. Some (bit_in m c.args.i)) c.in-None.is

pub returns-in-Some : goal.returns-in-Some
returns-in-Some g c =
    let b = c.args.self.now in
    valid_in b.validity (g.V.Building.seen b.values).slots c.args.i b.fits (g.met.V.ValuesLaws.valid b.values) c.requires
    ∙ ap (λ m. Some (bit_in m c.args.i)) c.in-Some.is ∙ ap Some (sym c.get.ensures)
