use Rattle.std.proofs.Common.{ap, sym, ◌∙◌}
use Rattle.arrow_layout.specs.Layouts.{length_of}
use Rattle.arrow_types.specs.Seen.{seen}
use Rattle.arrow_nested.proofs.FixedSizeLists.{lists_covered, values_count}
use Rattle.arrow_nested.proofs.fixed_size_list.RefFixedSizeListArrayMakingAccessorArrayRefAllocErrorArrayRef.len.Goals as goal

pub returns-clause-count : goal.returns-clause-count
returns-clause-count c = ap length_of c.parts.ensures.same ∙ sym (values_count c.args.self.now)

pub returns-clause-fits : goal.returns-clause-fits
returns-clause-fits c =
    let r = c.parts.result in
    lists_covered (seen r.dtype.now) r.validity.now r.size r.length r.child.now c.args.self.now c.parts.ensures.same c.parts.ensures.sound
