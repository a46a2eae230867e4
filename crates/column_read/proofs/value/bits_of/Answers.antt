use Rattle.std.proofs.Common.{arith, sym, ap, ◌∙◌, Some, option_map}
use Rattle.std.proofs.lemmas.List.{take_all}
use Rattle.arrow_buffers.specs.Bits.{plain}
use Rattle.type_json.specs.Values.{traverse}
use Rattle.type_json.proofs.Walks.{traverse-none, traverse-more}
use Rattle.column_grammar.specs.Values.{bit_of_digit}
use Rattle.column_read.proofs.value.bits_of.Goals as goal

pub returns-in_default : goal.returns-in_default
returns-in_default c = λ _. ap (option_map plain) (traverse-none bit_of_digit c.args.text.now c.loop-byte.byte-index 0 (omega arith) (sym c.in_default.ensures))

pub loop-byte-preserved : goal.loop-byte-preserved
loop-byte-preserved c =
    traverse-more bit_of_digit c.args.text.now c.loop-byte.byte-index 0 c.loop-byte.bits c.in-Some.bit (omega arith) c.loop-byte.invariant (sym c.in-Some.ensures)
    ∙ ap Some (sym c.in_ok-push.ensures.ok)

pub returns : goal.returns
returns c =
    ap (option_map plain) (ap (traverse bit_of_digit) (sym (take_all c.loop-byte.byte-index c.args.text.now (omega arith))) ∙ c.loop-byte.invariant)
    ∙ ap Some (sym c.in_ok-bits.ensures)
