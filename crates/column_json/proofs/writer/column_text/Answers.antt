use Rattle.std.proofs.Common.{ap, string_bytes, ◌++◌, ◌∙◌}
use Rattle.type_json.specs.TypeJson.{type_value}
use Rattle.column_json.proofs.Tokens.{column_text_of}
use Rattle.column_json.proofs.writer.column_text.Goals as goal

pub returns : goal.returns
returns c =
    column_text_of _ _ _ _ _ _ (c.in_ok-type_json.ensures ∙ ap type_value c.dtype.ensures) c.in_ok-spelling.ensures.text c.in_ok-text.ensures
    (c.in_ok-push_str.ensures.bytes ∙ ap (λ s. string_bytes c.in_ok-text.text ++ s) c.as_str.ensures.value) c.in_ok-push_str-2.ensures.bytes
