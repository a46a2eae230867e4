use Rattle.std.proofs.Common.{◌≡◌, subst}
use Rattle.std.specs.Prelude.{IfOk}
use Rattle.serde_json.specs.View.{view}
use Rattle.column_json.proofs.ViewParts.{long_value}
use Rattle.column_json.proofs.view.long_json.Goals as goal

pub returns : goal.returns
returns c =
    subst (λ d. IfOk c.place_json.result (λ v. view v ≡ d))
    (long_value c.args.slot.now c.length.result c.buffer.result c.offset.result c.requires c.length.ensures.placed c.length.ensures.value c.buffer.ensures c.offset.ensures) c.place_json.ensures
