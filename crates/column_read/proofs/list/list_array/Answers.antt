use Rattle.std.proofs.Common.{◌≡◌, subst, rules}
use Rattle.std.specs.Prelude.{map, IsSome, MatchOption}
use Rattle.arrow_types.specs.Seen.{seen}
use Rattle.arrow_types.specs.declared.error.PolarsError.TheVariants.{ComputeError}
use Rattle.arrow_buffers.specs.Offsets.{offsets_refusal}
use Rattle.arrow_meaning.specs.Nodes.{list_layout, physical_list}
use Rattle.arrow_nested.specs.Lists.{ListRefused}
use Rattle.column_read.proofs.BadParts.{refused_offsets}
use Rattle.column_read.proofs.BadChildren.{bad_lists}
use Rattle.column_read.proofs.list.list_array.Goals as goal

pub returns-in_default : goal.returns-in_default
returns-in_default g c = λ w.
    let os = map g.O.Offset.number c.args.parts.offsets.items in
    refused_offsets _ _ os (subst (λ o. MatchOption o (IsSome (offsets_refusal os)) (λ b. b ≡ c.args.parts.offsets.items)) c.in_default.is c.in_ok-offsets.ensures) w.1

pub returns-in-Err-ComputeError : goal.returns-in-Err-ComputeError
returns-in-Err-ComputeError g c = λ w.
    let p = c.args.parts in
    let os = map g.O.Offset.number p.offsets.items in
    let same : c.in-Some.offsets ≡ p.offsets.items =
    subst (λ o. MatchOption o (IsSome (offsets_refusal os)) (λ b. b ≡ p.offsets.items)) c.in-Some.is c.in_ok-offsets.ensures in
    let kind = physical_list g.O.Offset.IS_LARGE in
    let error = c.in-Err-ComputeError.field-0 in
    let reason = c.in-Err-ComputeError.field-0-0 in
    let is : error ≡ ComputeError reason = search rules in
    bad_lists error reason kind (seen c.args.dtype) p.validity os c.args.child is c.requires
    (subst (λ xs. ListRefused error kind (list_layout g.O.Offset.number c.args.dtype xs c.args.child p.validity)) same c.in-Err-ComputeError.ensures.accepted) w
