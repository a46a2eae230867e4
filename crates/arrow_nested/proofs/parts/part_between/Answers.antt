use Rattle.std.proofs.Common.{◌≡◌, ◌-◌, Some, ap, map, slice_get, sym, ◌∙◌}
use Rattle.arrow_layout.specs.Cut.{cut}
use Rattle.arrow_nested.specs.Lists.{parts_between}
use Rattle.arrow_nested.proofs.Lists.{ok_becomes, part_at}
use Rattle.arrow_types.specs.Select.{nat_of}
use Rattle.arrow_nested.proofs.parts.part_between.Goals as goal

pub returns : goal.returns
returns g c =
    let os = map g.O.Offset.number c.args.offsets.now in
    let l = c.args.child.now in
    let range = c.start_end-start.result in
    ok_becomes (λ a. a ≡ cut l range.0 (range.1 - range.0)) (λ a. slice_get (parts_between (map nat_of os) l) c.args.i ≡ Some a)
    (λ a h. part_at os l c.args.i range.0 range.1 c.start_end-start.ensures.start c.start_end-start.ensures.end ∙ ap Some (sym h)) c.sliced.result c.sliced.ensures
