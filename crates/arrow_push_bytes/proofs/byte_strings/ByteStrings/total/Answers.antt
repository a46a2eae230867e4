use Rattle.std.proofs.Common.{◌<◌, map, ap, sym, ◌∙◌, subst}
use Rattle.arrow_buffers.specs.Offsets.{to_nat}
use Rattle.arrow_push_bytes.specs.Strings.{AreStrings}
use Rattle.arrow_push_bytes.proofs.Strings.{strings_end}
use Rattle.arrow_push_bytes.proofs.byte_strings.ByteStrings.total.Goals as goal

pub returns-clause-value : goal.returns-clause-value
returns-clause-value g c =
    let number = g.O.Offset.number in
    let os = map number c.self.inside.offsets in
    let bs = c.self.inside.bytes.items in
    let s = subst (AreStrings os bs) c.self.view_is c.self.invariant in
    ap to_nat (sym c.to_usize.ensures.value ∙ c.last.ensures.number) ∙ strings_end os bs c.args.self.now s

pub returns-clause-fits : goal.returns-clause-fits
returns-clause-fits g c = subst (λ n. n < g.O.Offset.limit) (returns-clause-value g c) c.to_usize.ensures.fits
