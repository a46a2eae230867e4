use Rattle.std.proofs.Common.{◌≡◌, None, rules}
use Rattle.std.specs.Option.{option_zip}
use Rattle.serde_json.specs.View.{view}
use Rattle.arrow_types.specs.Seen.{seen}
use Rattle.type_json.specs.Values.{whole_in}
use Rattle.column_grammar.specs.Values.{mask_in}
use Rattle.column_grammar.specs.Reads.{fixed_size_lists_from}
use Rattle.column_read.proofs.BadChildren.{bad_sized_child}
use Rattle.column_read.proofs.OverChildren.{make_sized, none_over, over_bad, over_good}
use Rattle.column_read.proofs.fixed_size_list.fixed_size_list_over.Goals as goal

pub returns-in_err-parts : goal.returns-in_err-parts
returns-in_err-parts c = λ k u found form h.
    let t = seen c.args.dtype.now in
    let second = view c.args.list.second.now in
    let third = view c.args.list.third.now in
    let parts = option_zip (whole_in second) (mask_in third) in
    let none : parts ≡ None → fixed_size_lists_from t k found (second, third) ≡ None = none_over (make_sized t k) found parts in
    search (rules, none)

pub returns-in_default : goal.returns-in_default
returns-in_default c = λ k u found form h.
    over_bad (make_sized (seen c.args.dtype.now) k) found _ _ c.in_ok-parts.ensures _ c.in_default.is (bad_sized_child (seen c.args.dtype.now) _ k _) h

pub returns : goal.returns
returns c = λ k u found form h.
    let made = c.in_ok-array.ensures k u (search (rules, form)) in
    over_good (make_sized (seen c.args.dtype.now) k) found _ _ c.in_ok-parts.ensures _ _ c.in_ok-array.array c.in-Some.is (search (rules, made)) h
