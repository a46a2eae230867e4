use Rattle.std.proofs.Common.{ap}
use Rattle.arrow_push_bytes.specs.BuiltStrings.{TypedStrings}
use Rattle.arrow_push_bytes.specs.BuiltViews.{built_views}
use Rattle.arrow_push_bytes.proofs.ViewsPacked.{shown_result, held_result}
use Rattle.arrow_push_bytes.proofs.view.ViewValuesValuesBuilder.finish_under.Goals as goal

pub returns-clause-value : goal.returns-clause-value
returns-clause-value g c =
    shown_result c.packed_array-array.result c.self.inside.dtype c.args.self.now.dtype c.args.validity c.self.inside.strings c.args.self.now.strings
    (ap (λ (p : TypedStrings). p.dtype) c.self.view_is) (ap (λ (p : TypedStrings). p.strings) c.self.view_is) c.packed_array-array.ensures.kind c.packed_array-array.ensures.value c.packed_array-array.ensures.mask

pub returns-clause-held : goal.returns-clause-held
returns-clause-held g c =
    held_result c.packed_array-array.result c.args.self.now c.self.inside.dtype c.args.validity c.self.inside.strings
    (ap (λ (p : TypedStrings). p.dtype) c.self.view_is) (ap (λ (p : TypedStrings). p.strings) c.self.view_is) c.packed_array-array.ensures.kind c.packed_array-array.ensures.value c.packed_array-array.ensures.mask
