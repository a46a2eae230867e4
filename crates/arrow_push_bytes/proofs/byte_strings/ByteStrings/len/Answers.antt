use Rattle.std.proofs.Common.{map, subst, arith}
use Rattle.arrow_push_bytes.specs.Strings.{AreStrings}
use Rattle.arrow_push_bytes.proofs.Strings.{numbers_count}
use Rattle.arrow_push_bytes.proofs.byte_strings.ByteStrings.len.Goals as goal

pub returns : goal.returns
returns g c =
    let number = g.O.Offset.number in
    let os = c.self.inside.offsets in
    let bs = c.self.inside.bytes.items in
    let s = subst (AreStrings (map number os) bs) c.self.view_is c.self.invariant in
    let n = numbers_count number os bs c.args.self.now s in
    let r = c.len_proxy.ensures.slots in
    omega arith
