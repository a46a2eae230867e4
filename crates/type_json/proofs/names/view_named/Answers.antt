use Rattle.std.proofs.Common.{ap, sym, ◌∙◌, Some, None}
use Rattle.std.specs.Prelude.{codes, bytes_eq, if◌then◌else◌}
use Rattle.arrow_types.specs.TypeData as T
use Rattle.arrow_types.specs.SeenAt.{seen-BinaryView, seen-Utf8View}
use Rattle.type_json.specs.TypeJson.{view_named}
use Rattle.type_json.proofs.names.view_named.Goals as goal

pub returns-then-eq : goal.returns-then-eq
unfolding view_named
returns-then-eq c =
    ap Some seen-BinaryView
    ∙ ap (λ b. if b then Some T.binary_view else (if bytes_eq c.args.name.now (codes "utf8_view") then Some T.utf8_view else None)) (sym c.if-eq.true ∙ c.eq.ensures)

pub returns-then-eq-2 : goal.returns-then-eq-2
unfolding view_named
returns-then-eq-2 c =
    ap Some seen-Utf8View
    ∙ ap (λ b. if b then Some T.binary_view else Some T.utf8_view) (sym c.if-eq.false ∙ c.eq.ensures)
    ∙ ap (λ b. if bytes_eq c.args.name.now (codes "binary_view") then Some T.binary_view else (if b then Some T.utf8_view else None)) (sym c.if-eq-2.true ∙ c.eq-else-eq.ensures)
