use Rattle.std.proofs.Common.{ap, sym, ◌∙◌}
use Rattle.arrow_types.specs.Carried.{count_fields}
use Rattle.arrow_types.specs.Seen.{seen_fields}
use Rattle.arrow_layout.specs.Forms.{fields_by}
use Rattle.arrow_choice.proofs.Unions.{fields_counted}
use Rattle.arrow_choice.proofs.union_parts.declared_fields.Goals as goal

pub returns-clause-counts : goal.returns-clause-counts
returns-clause-counts c =
    sym (fields_counted c.as_slice.result.now) ∙ ap count_fields (ap seen_fields c.as_slice.ensures ∙ sym (ap fields_by c.declared_union.ensures))
