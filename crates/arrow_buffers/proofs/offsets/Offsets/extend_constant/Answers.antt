use Rattle.std.proofs.Common.{◌≡◌, ◌-◌, ◌++◌, map, replicate, pos, vec_len, ap, ◌∙◌, arith}
use Rattle.arrow_buffers.specs.Offsets.{end_of}
use Rattle.arrow_buffers.proofs.Ascending.{numbers_repeated, numbers_append, ascend_repeated, offsets_end}
use Rattle.arrow_buffers.proofs.offsets.Offsets.extend_constant.Goals as goal

made : (g : _) (c : goal.In_ok-resize g) → map g.O.Offset.number c.resize.new.self.items
    ≡ map g.O.Offset.number c.self.inside.items.items ++ replicate c.args.n (pos (end_of (map g.O.Offset.number c.self.inside.items.items)))
made g c =
    let number = g.O.Offset.number in
    let items = c.self.inside.items.items in
    let l = c.self.inside.items.ok.0 in
    ap (map number) c.in_ok-resize.ensures.items
    ∙ numbers_repeated number g.O.Offset.limit items c.last_of-last.result c.args.n c.in-Some.total (c.in-Some.total - vec_len c.self.inside.items)
    (c.last_of-last.ensures.number ∙ ap (λ xs. pos (end_of (map number xs))) c.as_slice.ensures.value)
    (let t = c.in-Some.ensures.1 in omega arith) (let t = c.in-Some.ensures.1 in omega arith)

pub invariant_of-self-2 : goal.invariant_of-self-2
invariant_of-self-2 g c =
    let number = g.O.Offset.number in
    let items = c.self.inside.items.items in
    numbers_append number g.O.Offset.limit items c.resize.new.self.items _ (made g c) c.self.invariant
    (ascend_repeated g.O.Offset.limit (end_of (map number items)) c.args.n (offsets_end g.O.Offset.limit (map number items) c.self.invariant))

pub returns-clause-ok : goal.returns-clause-ok
returns-clause-ok g c =
    made g c ∙ ap (λ xs. map g.O.Offset.number xs ++ replicate c.args.n (pos (end_of (map g.O.Offset.number xs)))) c.self.view_is
