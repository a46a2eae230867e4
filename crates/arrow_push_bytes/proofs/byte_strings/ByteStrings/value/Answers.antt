use Rattle.std.proofs.Common.{map, length, Some, ap, sym, ◌∙◌, subst, arith}
use Rattle.std.specs.Prelude.{slice_get}
use Rattle.arrow_buffers.specs.Offsets.{to_nat}
use Rattle.arrow_flat.specs.Pieces.{pieces}
use Rattle.arrow_flat.proofs.Pieces.{piece_at}
use Rattle.arrow_push_bytes.specs.Strings.{AreStrings}
use Rattle.arrow_push_bytes.proofs.Strings.{numbers_count, strings_end, strings_bytes}
use Rattle.arrow_push_bytes.proofs.byte_strings.ByteStrings.value.Goals as goal

pub start_end-start-requires : goal.start_end-start-requires
start_end-start-requires g c =
    let number = g.O.Offset.number in
    let os = c.self.inside.offsets in
    let bs = c.self.inside.bytes.items in
    let s = subst (AreStrings (map number os) bs) c.self.view_is c.self.invariant in
    let n = numbers_count number os bs c.args.self.now s in
    let r = c.requires in
    omega arith

pub between-requires : goal.between-requires
between-requires g c =
    let number = g.O.Offset.number in
    let os = map number c.self.inside.offsets in
    let bs = c.self.inside.bytes.items in
    let s = subst (AreStrings os bs) c.self.view_is c.self.invariant in
    let e = strings_end os bs c.args.self.now s in
    let b = strings_bytes os bs c.args.self.now s in
    let t = c.start_end-start.ensures.to_end in
    let l = ap length c.as_slice.ensures.value in
    (c.start_end-start.ensures.ordered, omega arith)

pub returns-clause-value : goal.returns-clause-value
returns-clause-value g c =
    let number = g.O.Offset.number in
    let os = map number c.self.inside.offsets in
    let range = c.start_end-start.result in
    ap (λ xs. slice_get xs c.args.i) (sym c.self.view_is)
    ∙ ap (λ bs. slice_get (pieces (map to_nat os) bs) c.args.i) (sym c.as_slice.ensures.value)
    ∙ piece_at os c.as_slice.result.now c.args.i range.0 range.1 c.start_end-start.ensures.start c.start_end-start.ensures.end
    ∙ ap Some (sym c.between.ensures.value)
