use Rattle.std.proofs.Common.{◌≤◌, ap, subst, sym, ◌∙◌}
use Rattle.arrow_buffers.specs.Offsets.{end_of}
use Rattle.arrow_layout.specs.Layouts.{length_of}
use Rattle.arrow_meaning.specs.Nodes.{list_offsets}
use Rattle.arrow_nested.specs.Lists.{list_child}
use Rattle.arrow_nested.proofs.Lists.{ends_in_child}
use Rattle.arrow_nested.proofs.list.ListArray.values.Goals as goal

pub returns-clause-within : goal.returns-clause-within
returns-clause-within g c =
    subst (λ k. end_of (list_offsets c.args.self.now) ≤ length_of k) (sym (c.list_child.ensures ∙ ap list_child c.self.view_is))
    (ends_in_child c.args.self.now c.invariant.ensures.lists c.invariant.ensures.well_formed)
