use Rattle.arrow_flat.proofs.Masked.{slots_length}
use Rattle.arrow_flat.proofs.made.MadeSlotsMadeAccessResultOptionOption.count.Goals as goal

pub returns-clause-all : goal.returns-clause-all
returns-clause-all g c =
    let a = c.args.self.now.array in
    slots_length (g.A.MakingAccessor.mask a) (g.A.MakingAccessor.values a) c.len.ensures.fits
