use Rattle.arrow_push.proofs.Cloned.{same_builder}
use Rattle.arrow_push.proofs.masked.MaskedBuilderTryClone.try_clone.Goals as goal

pub returns : goal.returns
returns g c =
    same_builder c.args.self.now c.in_ok-values.values c.in_ok-validity.validity _ _ c.in_ok-values.ensures c.in_ok-validity.ensures
