use Rattle.std.proofs.Common.{ap, sym, ◌∙◌}
use Rattle.std.specs.Prelude.{Some}
use Rattle.arrow_types.specs.SeenAt.{seen-Utf8View, seen-BinaryView}
use Rattle.arrow_types.specs.Types.{physical_of}
use Rattle.arrow_views.specs.ViewArrays.{physical_view}
use Rattle.arrow_push_bytes.specs.BuiltViews.{plain_view_type}
use Rattle.arrow_push_bytes.proofs.view.plain_type.Goals as goal

pub returns-then-is_text-clause-plain : goal.returns-then-is_text-clause-plain
returns-then-is_text-clause-plain c = seen-Utf8View ∙ ap plain_view_type (sym c.if-is_text.true)

pub returns-then-is_text-clause-stored : goal.returns-then-is_text-clause-stored
returns-then-is_text-clause-stored c = ap physical_of seen-Utf8View ∙ ap (λ b. Some (physical_view b)) (sym c.if-is_text.true)

pub returns-else-is_text-clause-plain : goal.returns-else-is_text-clause-plain
returns-else-is_text-clause-plain c = seen-BinaryView ∙ ap plain_view_type (sym c.if-is_text.false)

pub returns-else-is_text-clause-stored : goal.returns-else-is_text-clause-stored
returns-else-is_text-clause-stored c = ap physical_of seen-BinaryView ∙ ap (λ b. Some (physical_view b)) (sym c.if-is_text.false)
