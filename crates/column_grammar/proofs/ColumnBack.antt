-- The value of a column is read as the column.
use Rattle.std.proofs.Common.{◌≡◌, ap, ◌∙◌, Some, None}
use Rattle.std.specs.Prelude.{option_map, option_and_then}
use Rattle.type_json.specs.TypeJson.{IsSpelled}
use Rattle.type_json.proofs.TypeBack.{type_back}
use Rattle.arrow_layout.specs.Layouts.{Layout, type_of}
use Rattle.arrow_layout.specs.Plain.{IsPlain}
use Rattle.arrow_layout.proofs.Unique.{carried_of}
use Rattle.column_grammar.specs.Laws.{IsWritable}
use Rattle.column_grammar.specs.Reads.{data_in, column_of}
use Rattle.column_grammar.specs.Writes.{data_value, column_value}
use Rattle.column_grammar.proofs.LayoutBack.{data_back}
use Rattle.column_grammar.proofs.Spelled.{type_spelled}

pub spelled : (l : Layout) → IsWritable l → IsSpelled (type_of l)
spelled l h = type_spelled (type_of l) (carried_of l h.well_formed) h.is_type

pub column_back : (l : Layout) → IsWritable l → IsPlain l → column_of (column_value l) ≡ Some (record { layout = l; slice = None })
unfolding column_of
column_back l h plain =
    ap (λ o. option_map (λ k. record { layout = k; slice = None }) (option_and_then (λ t. data_in t (data_value l)) o)) (type_back (type_of l) (spelled l h))
    ∙ ap (option_map (λ k. record { layout = k; slice = None })) (data_back l h.well_formed plain)
