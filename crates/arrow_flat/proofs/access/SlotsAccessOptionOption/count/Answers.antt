use Rattle.arrow_flat.proofs.Masked.{slots_length}
use Rattle.arrow_flat.proofs.access.SlotsAccessOptionOption.count.Goals as goal

pub returns-clause-all : goal.returns-clause-all
returns-clause-all g c =
    let a = c.args.self.now.0 in
    slots_length (g.A.ArrayAccessor.mask a) (g.A.ArrayAccessor.values a) c.len.ensures.fits
