-- A value's text is read back as the value, with a line feed behind it.
use Rattle.std.proofs.Common.{◌≡◌, suc, ◌≤◌, max, List, [], ◌∷◌, ◌++◌, refl, ap, sym, ◌∙◌, append-nil, Option, Some, arith}
use Rattle.std.specs.Prelude.{option_and_then}
use Rattle.json.specs.Json as json
use Rattle.json.specs.Tree as tree
use Rattle.json.specs.Lex.{tokens}
use Rattle.json.specs.Token.{Token}
use Rattle.json.proofs.Printed.Tokens.{tokens-print}
use Rattle.json.proofs.Printed.Trees.{ArePrintable-json_tokens, value-json_tokens}
use Rattle.serde_json.specs.Data.{Data, null, boolean, number, string, array, object, Items, no_items, item, Members, no_members, member, depth, items_depth, members_depth}
use Rattle.serde_json.specs.Read.{read, max_depth, of_json}
use Rattle.serde_json.specs.Written.{outline, items_outline, members_outline, compact_text}
use Rattle.serde_json.proofs.Texts.{print-outline}
use Rattle.type_json.proofs.Trailing.{tokens_more}

-- ---- depth

mutual
  outline_depth : (d : Data) → tree.depth (outline d) ≡ depth d
  outline_depth null = refl
  outline_depth (boolean b) = refl
  outline_depth (number n) = refl
  outline_depth (string s) = refl
  outline_depth (array ds) = ap (λ n. suc n) (items_outline_depth ds)
  outline_depth (object ms) = ap (λ n. suc n) (members_outline_depth ms)

  items_outline_depth : (ds : Items) → tree.items_depth (items_outline ds) ≡ items_depth ds
  items_outline_depth no_items = refl
  items_outline_depth (item d ds) = ap (λ n. max n (tree.items_depth (items_outline ds))) (outline_depth d) ∙ ap (max (depth d)) (items_outline_depth ds)

  members_outline_depth : (ms : Members) → tree.members_depth (members_outline ms) ≡ members_depth ms
  members_outline_depth no_members = refl
  members_outline_depth (member k d ms) = ap (λ n. max n (tree.members_depth (members_outline ms))) (outline_depth d) ∙ ap (max (depth d)) (members_outline_depth ms)

-- ---- the text

abbrev whole : Option (json.Json × List Token) → Option Data
whole o = option_and_then of_json (option_and_then (λ p. json.if_last p.0 p.1) o)

-- where its outline is read back, and its numbers are numbers
pub line_back : (d : Data) → tree.HasNumbers (outline d) → depth d ≤ max_depth → of_json (outline d) ≡ Some d → read (compact_text d ++ 10 ∷ []) ≡ Some d
line_back d numbers shallow is =
    let j : json.Json = outline d in
    let printable = ArePrintable-json_tokens j numbers in
    let same : tokens (compact_text d ++ 10 ∷ []) ≡ tree.json_tokens j ++ [] =
    ap (λ l. tokens (l ++ 10 ∷ [])) (sym (print-outline d)) ∙ tokens_more (tree.json_tokens j) printable ∙ tokens-print (tree.json_tokens j) printable ∙ sym (append-nil (tree.json_tokens j)) in
    ap (λ ts. whole (json.value max_depth ts)) same ∙ ap whole (value-json_tokens j max_depth [] (omega (arith, outline_depth d))) ∙ is
