use Rattle.arrow_meaning.specs.Nodes.{list_size}
use Rattle.std.proofs.Common.{◌<◌, ◌*◌, subst}
use Rattle.arrow_layout.specs.Cut.{cut}
use Rattle.arrow_layout.specs.Paths.{child_at}
use Rattle.arrow_nested.proofs.FixedSizeLists.{value_at, values_count}
use Rattle.arrow_nested.proofs.fixed_size_list.RefFixedSizeListArrayMakingAccessorArrayRefAllocErrorArrayRef.value.Goals as goal

pub value-requires : goal.value-requires
value-requires c = subst (λ n. c.args.i < n) (values_count c.args.self.now) c.requires.slot

pub returns : goal.returns
returns c =
    let l = c.args.self.now in
    let i = c.args.i in
    (cut (child_at 0 l) (i * list_size l) (list_size l), value_at l i (subst (λ n. i < n) (values_count l) c.requires.slot), c.value.ensures)
