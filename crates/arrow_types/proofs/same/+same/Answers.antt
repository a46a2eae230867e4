use Rattle.std.proofs.lemmas.Bool.{false≢true}
use Rattle.std.proofs.Common.{◌∙◌}
use Rattle.arrow_types.proofs.Others.{nested_other}
use Rattle.arrow_types.proofs.same.+same.Goals as goal

pub is_same_nested-returns-in_default : goal.is_same_nested-returns-in_default
is_same_nested-returns-in_default t c =
    let d = c.in_default in
    λ n. absurd (false≢true (nested_other c.args.a.now d.not-List d.not-LargeList d.not-FixedSizeList d.not-Struct d.not-Map d.not-Union d.not-Dictionary d.not-Extension ∙ n))
