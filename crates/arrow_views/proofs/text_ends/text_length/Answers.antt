use Rattle.std.proofs.Common.{sym, subst}
use Rattle.std.specs.Str.{valid_up_to}
use Rattle.arrow_views.specs.TextEnds.{IsTextLength}
use Rattle.arrow_views.specs.ViewBytes.{own_octets}
use Rattle.arrow_views.proofs.TextRanges.{valid_length}
use Rattle.arrow_views.proofs.text_ends.text_length.Goals as goal

pub returns-in-Err : goal.returns-in-Err
returns-in-Err c =
    let bytes = c.args.bytes.now in
    subst (λ bs. IsTextLength bs c.valid_up_to.result) (sym (own_octets bytes c.type_inv.bytes))
    (valid_length bytes (valid_up_to c.in-Err.error) c.valid_up_to.result c.in-Err.ensures.cases.1 c.valid_up_to.ensures)
