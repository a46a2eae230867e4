use Rattle.std.proofs.Common.{ap, length, sym, ◌∙◌}
use Rattle.arrow_choice.proofs.Unions.{indices_counted}
use Rattle.arrow_choice.proofs.union_iter.RefUnionArrayArrayAccessorTuple2UsizeUsizeTuple2UsizeUsize.len.Goals as goal

pub returns-clause-count : goal.returns-clause-count
returns-clause-count c =
    c.len.ensures ∙ (ap length c.types.ensures.same ∙ sym (indices_counted c.args.self.now c.invariant.ensures.union c.invariant.ensures.sound))
