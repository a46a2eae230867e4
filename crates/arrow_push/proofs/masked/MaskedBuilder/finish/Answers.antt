use Rattle.std.proofs.Common.{◌≡◌, ap, ◌∙◌, subst}
use Rattle.std.specs.Prelude.{IfOk}
use Rattle.std.proofs.lemmas.Result.{IfOk-weaker}
use Rattle.arrow_flat.specs.Built.{Built}
use Rattle.arrow_push.specs.Masks.{Finished, finished_under, built_under}
use Rattle.arrow_push.specs.Arrays.{HoldsSlots, HoldsValues}
use Rattle.arrow_push.proofs.Finished.{finished_is, holds_slots}
use Rattle.arrow_push.proofs.masked.MaskedBuilder.finish.Goals as goal

pub returns-in-Ok-clause-value : goal.returns-in-Ok-clause-value
returns-in-Ok-clause-value g c =
    let b = c.args.self.now in
    let v : Built = g.V.Building.seen b.values in
    subst (λ (f : Finished). IfOk c.finish_under.result (λ a. g.V.ValuesBuilder.finished a ≡ f))
    (ap (λ m. finished_under m v) c.in-Ok.ensures.value ∙ finished_is g.V.ValuesLaws.blank v b.validity b.fits (g.met.V.ValuesLaws.valid b.values))
    c.finish_under.ensures.value

pub returns-in-Ok-clause-denoted : goal.returns-in-Ok-clause-denoted
returns-in-Ok-clause-denoted g c =
    let b = c.args.self.now in
    let v : Built = g.V.Building.seen b.values in
    let blank = g.V.ValuesLaws.blank in
    let m = c.in-Ok.validity in
    IfOk-weaker c.finish_under.result
    (λ a. HoldsValues m v (g.V.ValuesBuilder.layout a)) (λ a. HoldsSlots (built_under blank v b.validity) (g.V.ValuesBuilder.layout a))
    (λ a h. holds_slots blank v b.validity m (g.V.ValuesBuilder.layout a) b.fits (g.met.V.ValuesLaws.valid b.values) c.in-Ok.ensures.value h)
    c.finish_under.ensures.held
