use Rattle.std.proofs.Common.{ℕ, List, ◌++◌, replicate, ap, ◌∙◌}
use Rattle.arrow_canon.proofs.JoinedRuns.{zeros_fill}
use Rattle.arrow_canon.proofs.joined.push_fill.Goals as goal

abbrev no_bytes : ℕ → List ℕ
no_bytes n = replicate n 0

pub returns : goal.returns
returns c =
    c.in_ok-push_zeros.ensures ∙ ap (λ bs. c.args.bytes.now.items ++ bs) (ap no_bytes c.in-Some.ensures.1 ∙ zeros_fill c.args.zeros c.args.count)
