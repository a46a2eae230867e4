use Rattle.std.proofs.Common.{◌≡◌, None, rules}
use Rattle.std.specs.Option.{option_zip}
use Rattle.serde_json.specs.View.{view}
use Rattle.arrow_types.specs.Seen.{seen}
use Rattle.arrow_types.specs.declared.datatype.PrimitiveType.TheVariants as primitive
use Rattle.column_grammar.specs.Reads.{unions_from, union_offsets_in, singles_in}
use Rattle.column_read.proofs.BadChildren.{bad_union_children}
use Rattle.column_read.proofs.OverChildren.{make_unions, none_over, all_bad, all_good}
use Rattle.column_read.proofs.union.union_over.Goals as goal

pub returns-in_err-parts : goal.returns-in_err-parts
returns-in_err-parts c = λ found k.
    let t = seen c.args.dtype.now in
    let second = view c.args.union.second.now in
    let third = view c.args.union.third.now in
    let parts = option_zip (union_offsets_in second) (singles_in primitive.Int8 third) in
    let none : parts ≡ None → unions_from t found (second, third) ≡ None = none_over (make_unions t) found parts in
    search (rules, none)

pub returns-in_default : goal.returns-in_default
returns-in_default c = λ found k.
    all_bad (make_unions (seen c.args.dtype.now)) found _ _ c.in_ok-parts.ensures _ (search (rules, c.in_default.is)) (λ ls. bad_union_children (seen c.args.dtype.now) ls _ _) k

pub returns : goal.returns
returns c = λ found k.
    all_good (make_unions (seen c.args.dtype.now)) found _ _ c.in_ok-parts.ensures _ c.in-Some.children.items c.in_ok-array.array (search (rules, c.in-Some.is)) (search rules) k
