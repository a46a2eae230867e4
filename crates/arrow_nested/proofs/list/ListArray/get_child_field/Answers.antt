use Rattle.std.proofs.Common.{ap, sym, ◌∙◌}
use Rattle.std.specs.Prelude.{option_map}
use Rattle.arrow_types.specs.Seen.{seen, seen_field}
use Rattle.arrow_types.specs.TypeData.{field_type}
use Rattle.arrow_nested.proofs.Lists.{lists_declare}
use Rattle.arrow_nested.proofs.list.ListArray.get_child_field.Goals as goal

pub unreachable-requires : goal.unreachable-requires
unreachable-requires g c =
    let none = sym c.child_field.ensures ∙ ap (option_map (λ f. seen_field f.now)) c.in-None.is in
    lists_declare g.O.Offset.IS_LARGE (seen c.args.dtype.now) c.requires (ap (option_map field_type) none)
