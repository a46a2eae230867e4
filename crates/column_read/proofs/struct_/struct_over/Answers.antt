use Rattle.std.proofs.Common.{◌≡◌, None, rules}
use Rattle.std.specs.Option.{option_zip}
use Rattle.serde_json.specs.View.{view}
use Rattle.arrow_types.specs.Seen.{seen}
use Rattle.type_json.specs.Values.{whole_in}
use Rattle.column_grammar.specs.Values.{mask_in}
use Rattle.column_grammar.specs.Reads.{structs_from}
use Rattle.column_read.proofs.BadChildren.{bad_struct_children}
use Rattle.column_read.proofs.OverChildren.{make_structs, none_over, all_bad, all_good}
use Rattle.column_read.proofs.struct_.struct_over.Goals as goal

pub returns-in_err-parts : goal.returns-in_err-parts
returns-in_err-parts c = λ found k.
    let t = seen c.args.dtype.now in
    let second = view c.args.row.second.now in
    let third = view c.args.row.third.now in
    let parts = option_zip (whole_in second) (mask_in third) in
    let none : parts ≡ None → structs_from t found (second, third) ≡ None = none_over (make_structs t) found parts in
    search (rules, none)

pub returns-in_default : goal.returns-in_default
returns-in_default c = λ found k.
    all_bad (make_structs (seen c.args.dtype.now)) found _ _ c.in_ok-parts.ensures _ (search (rules, c.in_default.is)) (bad_struct_children (seen c.args.dtype.now) _ _) k

pub returns : goal.returns
returns c = λ found k.
    all_good (make_structs (seen c.args.dtype.now)) found _ _ c.in_ok-parts.ensures _ c.in-Some.children.items c.in_ok-array.array (search (rules, c.in-Some.is)) (search rules) k
