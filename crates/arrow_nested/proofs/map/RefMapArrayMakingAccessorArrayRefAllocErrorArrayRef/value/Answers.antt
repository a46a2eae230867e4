use Rattle.std.proofs.Common.{◌≡◌, ◌<◌, Some, slice_get, subst, sym, ◌∙◌}
use Rattle.arrow_nested.specs.Lists.{list_values}
use Rattle.arrow_nested.proofs.Lists.{ok_becomes, same_some, values_count}
use Rattle.arrow_nested.proofs.NonNull.{item_at}
use Rattle.arrow_nested.proofs.map.RefMapArrayMakingAccessorArrayRefAllocErrorArrayRef.value.Goals as goal

pub value-requires : goal.value-requires
value-requires c = subst (λ n. c.args.i < n) (values_count c.args.self.now c.invariant.ensures.lists) c.requires.slot

pub returns : goal.returns
returns c =
    let all = list_values c.args.self.now in
    let x = item_at all c.args.i c.requires.slot in
    (x.0, x.1, ok_becomes (λ a. slice_get all c.args.i ≡ Some a) (λ a. a ≡ x.0) (λ a h. same_some a x.0 (sym h ∙ x.1)) c.value.result c.value.ensures)
