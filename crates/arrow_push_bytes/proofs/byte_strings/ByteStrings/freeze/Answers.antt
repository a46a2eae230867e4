use Rattle.std.proofs.Common.{◌≡◌, map, length, ap, sym, ◌∙◌, subst, arith}
use Rattle.arrow_buffers.specs.Offsets.{end_of}
use Rattle.arrow_flat.specs.Natives.{AreBytes}
use Rattle.arrow_push_bytes.specs.Strings.{AreStrings}
use Rattle.arrow_push_bytes.proofs.Strings.{numbers_count, strings_end, strings_bytes}
use Rattle.arrow_push_bytes.proofs.byte_strings.ByteStrings.freeze.Goals as goal

pub returns-clause-slots : goal.returns-clause-slots
returns-clause-slots g c =
    let number = g.O.Offset.number in
    let os = c.self.inside.offsets in
    let bs = c.self.inside.bytes.items in
    let s = subst (AreStrings (map number os) bs) c.self.view_is c.self.invariant in
    ap length c.in_ok-offsets.ensures ∙ numbers_count number os bs c.args.self s

pub returns-clause-end : goal.returns-clause-end
returns-clause-end g c =
    let number = g.O.Offset.number in
    let os = map number c.self.inside.offsets in
    let bs = c.self.inside.bytes.items in
    let s = subst (AreStrings os bs) c.self.view_is c.self.invariant in
    ap (λ ps. end_of (map number ps)) c.in_ok-offsets.ensures ∙ strings_end os bs c.args.self s
    ∙ sym (strings_bytes os bs c.args.self s) ∙ ap length (sym c.in_ok-from_vec.ensures)

pub prove-unreachable-requires : goal.prove-unreachable-requires
prove-unreachable-requires g c =
    let number = g.O.Offset.number in
    let os = c.self.inside.offsets in
    let bs = c.self.inside.bytes.items in
    let s = subst (AreStrings (map number os) bs) c.self.view_is c.self.invariant in
    let n = numbers_count number os bs c.args.self s in
    let l = c.len_proxy.ensures.slots in
    let same : c.len.result ≡ c.len_proxy.result = omega (arith, c.len.ensures) in
    c.if-prove.true same

pub returns-clause-bytes : goal.returns-clause-bytes
returns-clause-bytes g c = subst AreBytes (sym c.in_ok-from_vec.ensures) c.self.invariant.small
