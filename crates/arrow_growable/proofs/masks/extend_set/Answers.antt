use Rattle.std.proofs.Common.{◌≡◌, ◌++◌, ◌*◌, replicate, true, ap, sym, ◌∙◌, subst, arith}
use Rattle.std.specs.Prelude.{OnOk}
use Rattle.arrow_growable.specs.Parts.{repeated}
use Rattle.arrow_growable.proofs.Ends.{repeated_replicate}
use Rattle.arrow_growable.proofs.masks.extend_set.Goals as goal

pub returns-in-Some : goal.returns-in-Some
returns-in-Some c =
    let total : c.in-Some.total ≡ c.args.length * c.args.copies = omega (arith, c.in-Some.ensures) in
    let all : replicate c.in-Some.total true ≡ repeated c.args.copies (replicate c.args.length true) =
    ap (λ k. replicate k true) total ∙ sym (repeated_replicate c.args.copies c.args.length true) in
    subst (λ bs. OnOk c.extend_constant.result (c.extend_constant.new.self ≡ c.args.bits.now ++ bs)) all c.extend_constant.ensures.ok
