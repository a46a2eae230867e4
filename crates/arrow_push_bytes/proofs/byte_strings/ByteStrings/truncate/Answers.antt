use Rattle.std.proofs.Common.{map, take, ap, sym, ◌∙◌, subst}
use Rattle.arrow_buffers.specs.Offsets.{to_nat}
use Rattle.arrow_push_bytes.specs.Strings.{AreStrings}
use Rattle.arrow_push_bytes.proofs.Strings.{own_strings, pieces_are, strings_take, numbers_cut}
use Rattle.arrow_push_bytes.proofs.byte_strings.ByteStrings.truncate.Goals as goal

cut : (g : _) (c : goal.After-truncate-2 g) → AreStrings (map g.O.Offset.number c.truncate.new.self) c.truncate-2.new.self.items (take c.args.len c.args.self.now)
cut g c =
    let number = g.O.Offset.number in
    let os = map number c.self.inside.offsets in
    let bs = c.self.inside.bytes.items in
    let s = subst (AreStrings os bs) c.self.view_is c.self.invariant in
    let e = ap to_nat (sym c.to_usize-end.ensures.value ∙ c.last.ensures.number) in
    strings_take os bs c.args.self.now s (map number c.truncate.new.self) c.truncate-2.new.self.items c.args.len
    (numbers_cut number c.self.inside.offsets c.truncate.new.self c.args.len c.truncate.ensures)
    (c.truncate-2.ensures.items ∙ ap (λ n. take n bs) e)

pub invariant_of-self : goal.invariant_of-self
invariant_of-self g c = own_strings (map g.O.Offset.number c.truncate.new.self) c.truncate-2.new.self.items (take c.args.len c.args.self.now) (cut g c)

pub returns : goal.returns
returns g c = pieces_are (map g.O.Offset.number c.truncate.new.self) c.truncate-2.new.self.items (take c.args.len c.args.self.now) (cut g c)
