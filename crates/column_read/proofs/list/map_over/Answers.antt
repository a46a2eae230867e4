use Rattle.std.proofs.Common.{◌≡◌, None, false, rules}
use Rattle.std.specs.Option.{option_zip}
use Rattle.serde_json.specs.View.{view}
use Rattle.arrow_types.specs.Seen.{seen}
use Rattle.column_grammar.specs.Values.{mask_in, list_in, signed_in}
use Rattle.column_grammar.specs.Reads.{lists_from, offset_bits}
use Rattle.column_read.proofs.BadChildren.{bad_list_child}
use Rattle.column_read.proofs.OverChildren.{make_lists, none_over, over_bad, over_good}
use Rattle.column_read.proofs.list.map_over.Goals as goal

pub returns-in_err-parts : goal.returns-in_err-parts
returns-in_err-parts c = λ found k.
    let t = seen c.args.dtype.now in
    let second = view c.args.entries.second.now in
    let third = view c.args.entries.third.now in
    let parts = option_zip (mask_in second) (list_in (signed_in (offset_bits false)) third) in
    let none : parts ≡ None → lists_from t false found (second, third) ≡ None = none_over (make_lists t) found parts in
    search (rules, none)

pub returns-in_default : goal.returns-in_default
returns-in_default c = λ found k.
    over_bad (make_lists (seen c.args.dtype.now)) found _ _ c.in_ok-parts.ensures _ c.in_default.is (bad_list_child (seen c.args.dtype.now) _ _) k

pub returns : goal.returns
returns c = λ found k.
    over_good (make_lists (seen c.args.dtype.now)) found _ _ c.in_ok-parts.ensures _ _ c.in_ok-array.array c.in-Some.is (search rules) k
