use Rattle.std.proofs.Common.{[], add-one, ap₂, arith, sym, ◌++◌, ◌∙◌, ◌∷◌}
use Rattle.std.proofs.lemmas.Int.{to_z_pos}
use Rattle.std.specs.Int.{w32}
use Rattle.arrow_meaning.proofs.NullParts.{count_end}
use Rattle.arrow_meaning.proofs.null_parts.positions.Goals as goal

pub loop-i-preserved : goal.loop-i-preserved
loop-i-preserved c =
    let z = to_z_pos w32 c.loop-i.i (omega (arith, c.loop-i-test.true, c.requires)) in
    rw (add-one c.loop-i.i) (c.in_ok-push.ensures.items ∙ (ap₂ (λ xs x. xs ++ (x ∷ [])) c.loop-i.invariant z ∙ sym (count_end c.loop-i.i)))
