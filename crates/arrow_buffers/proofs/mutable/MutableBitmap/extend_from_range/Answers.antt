use Rattle.std.proofs.Common.{◌+◌, ◌++◌, length, take, drop, ap, sym, ◌∙◌, arith}
use Rattle.arrow_buffers.specs.Bits.{bits_of, bit_of}
use Rattle.arrow_buffers.proofs.Bytes.{seen_length}
use Rattle.arrow_buffers.proofs.Windows.{cut_range}
use Rattle.arrow_buffers.proofs.mutable.MutableBitmap.extend_from_range.Goals as goal

pub overflow_add-bits-inside : goal.overflow_add-bits-inside
overflow_add-bits-inside c = let n = seen_length _ _ _ _ c.bits.view_is in omega arith

pub append_bits-requires-clause-source : goal.append_bits-requires-clause-source
append_bits-requires-clause-source c =
    let n = seen_length _ _ _ _ c.bits.view_is in
    let e = ap length c.as_slice.ensures in
    (omega arith, omega arith)

pub returns-clause-ok : goal.returns-clause-ok
returns-clause-ok c =
    let n = seen_length _ _ _ _ c.bits.view_is in
    ap (bits_of c.append_bits.new.bytes.items 0) c.in-Some.ensures.1
    ∙ c.in_ok-append_bits.ensures.ok.0
    ∙ ap (λ bs. bs ++ bits_of c.as_slice.result.now (c.bits.inside.start + c.args.start) c.args.len) c.self.view_is
    ∙ ap (λ bs. c.args.self.now ++ bits_of bs (c.bits.inside.start + c.args.start) c.args.len) c.as_slice.ensures
    ∙ ap (λ bs. c.args.self.now ++ bs) (sym (cut_range (bit_of c.bits.inside.bytes) c.bits.inside.start c.bits.inside.slots c.args.start c.args.len (omega arith)))
    ∙ ap (λ b. c.args.self.now ++ take c.args.len (drop c.args.start b.bits)) c.bits.view_is
