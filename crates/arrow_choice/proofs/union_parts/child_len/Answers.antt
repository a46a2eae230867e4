use Rattle.std.proofs.Common.{sym, ◌∙◌}
use Rattle.arrow_choice.proofs.Unions.{length_found, none_found}
use Rattle.arrow_choice.proofs.union_parts.child_len.Goals as goal

pub returns-in-Some : goal.returns-in-Some
returns-in-Some c =
    let found = c.in-Some.ensures.lookup in
    c.len.ensures ∙ length_found c.args.children.now c.args.position c.in-Some.child.now found.3.0 found.1

pub returns-in-None : goal.returns-in-None
returns-in-None c = let found = c.in-None.ensures.lookup in sym (none_found c.args.children.now c.args.position found.3)
