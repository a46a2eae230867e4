use Rattle.std.proofs.Common.{◌<◌, subst, ◌∙◌}
use Rattle.arrow_choice.proofs.Unions.{indices_counted, numbers_counted}
use Rattle.arrow_choice.proofs.union_iter.RefUnionArrayArrayAccessorTuple2UsizeUsizeTuple2UsizeUsize.value.Goals as goal

pub index-requires : goal.index-requires
index-requires c =
    let union = c.invariant.ensures.union in
    subst (λ n. c.args.i < n) (indices_counted c.args.self.now union c.invariant.ensures.sound ∙ numbers_counted c.args.self.now union) c.requires
