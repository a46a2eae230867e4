use Rattle.std.proofs.Common.{◌+◌, ◌-◌, vec_len, length-take, ◌*◌, ◌≤◌, ◌≡◌, ◌/◌, ◌++◌, take, length, replicate, ap, sym, ◌∙◌, subst, arith, List, ℕ}
use Rattle.arrow_buffers.specs.Bits.{bits_of}
use Rattle.arrow_buffers.proofs.Copies.{equal_appended, cut_bytes, on_err}
use Rattle.arrow_buffers.proofs.bits.append_equal.Goals as goal

pub returns-in_err-resize-clause-err : goal.returns-in_err-resize-clause-err
returns-in_err-resize-clause-err c =
    let P : List ℕ → Type 0 = λ bs. (bits_of bs 0 c.args.slots ≡ bits_of c.args.bytes.now.items 0 c.args.slots) × (c.args.slots ≤ 8 * length bs) in
    on_err c.from_residual.result (P c.resize.new.self.items)
    (subst P (sym (c.in_err-resize.ensures.items ∙ c.truncate.ensures.items))
    (cut_bytes c.args.bytes.now.items c.div_ceil.result c.args.slots (omega arith) c.requires.0))

pub returns-clause-ok : goal.returns-clause-ok
returns-clause-ok c =
    let m : c.div_ceil-2.result ≡ (c.args.slots + c.args.len + 7) / 8 = omega arith in
    let n = c.div_ceil-2.result - vec_len c.truncate.new.self in
    let l : n ≡ (c.args.slots + c.args.len + 7) / 8 - c.div_ceil.result = omega (arith, ap length c.truncate.ensures.items, length-take c.div_ceil.result c.args.bytes.now.items, c.truncate.new.self.ok.0) in
    equal_appended c.args.bytes.now.items c.resize.new.self.items c.fill_bits.new.bytes.items c.args.slots c.args.len c.div_ceil.result n c.byte_of.result
    c.min.result c.args.bit (omega arith) c.requires.0
    (c.in_ok-resize.ensures.items
    ∙ ap (λ xs. take c.div_ceil-2.result xs ++ replicate n c.byte_of.result) c.truncate.ensures.items
    ∙ ap (λ k. take k (take c.div_ceil.result c.args.bytes.now.items) ++ replicate n c.byte_of.result) m)
    l c.byte_of.ensures c.min.ensures c.fill_bits.ensures
