use Rattle.std.proofs.Common.{sym, subst, map, length, pred}
use Rattle.arrow_types.specs.Select.{nat_of}
use Rattle.arrow_layout.specs.WellFormed.{AreOffsetsTo}
use Rattle.arrow_canon.specs.Runs.{AreWithin}
use Rattle.arrow_canon.proofs.Places.{within_mask}
use Rattle.arrow_items.proofs.list.list_parts.Goals as goal

pub struct_parts-requires : goal.struct_parts-requires
struct_parts-requires g c = within_mask _ (pred (length c.args.offsets.now)) c.args.runs.now c.requires.mask c.requires.within

pub item_runs-requires-clause-within : goal.item_runs-requires-clause-within
item_runs-requires-clause-within g c =
    subst (AreWithin (pred (length c.as_slice.result.now))) (sym c.as_slice-2.ensures.value)
    (subst (λ os. AreWithin (pred (length os)) c.in_ok-kept.kept.items.items) (sym c.as_slice.ensures.value)
    (c.in_ok-kept.ensures.inside (pred (length c.args.offsets.now)) c.requires.within))

pub offsets_of_runs-requires-clause-within : goal.offsets_of_runs-requires-clause-within
offsets_of_runs-requires-clause-within g c =
    subst (AreWithin (pred (length c.args.offsets.now))) (sym c.as_slice-3.ensures.value)
    (c.in_ok-kept.ensures.inside (pred (length c.args.offsets.now)) c.requires.within)

pub returns-clause-inside : goal.returns-clause-inside
returns-clause-inside g c = λ top h.
    c.in_ok-items.ensures.inside top (subst (λ os. AreOffsetsTo top (map nat_of (map g.O.Offset.number os))) (sym c.as_slice.ensures.value) h)
