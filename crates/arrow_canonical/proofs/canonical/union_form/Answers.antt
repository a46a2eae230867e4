use Rattle.std.proofs.Common.{◌≡◌, ◌↔◌, ◌<◌, ◌^◌, IsTrue, Some, [], length, map, ap, sym, subst, ◌∙◌}
use Rattle.std.specs.List.{AllByRecursion}
use Rattle.arrow_types.specs.Carried.{IsBelow}
use Rattle.arrow_types.specs.Select.{nat_of}
use Rattle.arrow_layout.specs.Canon.{counts_after}
use Rattle.arrow_layout.specs.Canonical.{AreSelected}
use Rattle.arrow_layout.specs.Layouts.{layouts}
use Rattle.arrow_meaning.specs.Nodes.{union_layout}
use Rattle.arrow_canonical.specs.Counted.{AllCounted}
use Rattle.arrow_canonical.specs.OwnForm.{HasOwnForm}
use Rattle.arrow_canonical.proofs.Children.{ok_then}
use Rattle.arrow_canonical.proofs.Parts.{dense_long, dense_low, dense_own, dense_range, sparse_own, union_stored}
use Rattle.arrow_canonical.proofs.canonical.union_form.Goals as goal

pub fields_of_types-requires : goal.fields_of_types-requires
fields_of_types-requires c = union_stored c.args.dtype.now c.args.types.now c.args.children.now c.args.shift c.args.offsets.now c.requires.union

pub all_counted-requires-clause-fields : goal.all_counted-requires-clause-fields
all_counted-requires-clause-fields c =
    subst (AllByRecursion (λ j. j < length c.args.children.now)) (sym (c.as_slice.ensures.value ∙ c.in_ok-fields.ensures))
    (dense_low c.args.dtype.now c.args.types.now c.args.children.now c.args.shift c.args.offsets.now c.in-Some.offsets c.in-Some.is c.requires.union)

pub all_counted-requires-clause-offsets : goal.all_counted-requires-clause-offsets
all_counted-requires-clause-offsets c =
    ap length c.as_slice-in-Some.ensures ∙ dense_long c.args.dtype.now c.args.types.now c.args.children.now c.args.shift c.args.offsets.now c.in-Some.offsets c.in-Some.is c.requires.union
    ∙ sym (ap length (c.as_slice.ensures.value ∙ c.in_ok-fields.ensures))

pub all_counted-requires-clause-in_range : goal.all_counted-requires-clause-in_range
all_counted-requires-clause-in_range c =
    subst (AllByRecursion (IsBelow (2 ^ 31))) (sym c.as_slice-in-Some.ensures)
    (dense_range c.args.dtype.now c.args.types.now c.args.children.now c.args.shift c.args.offsets.now c.in-Some.offsets c.in-Some.is c.requires.union)

pub returns-in-Some : goal.returns-in-Some
returns-in-Some c =
    let t = c.args.dtype.now in
    let ts = c.args.types.now in
    let ls = c.args.children.now in
    let os = c.in-Some.offsets in
    let fs = c.as_slice.result.now in
    ok_then c.all_counted.result (λ b. IsTrue b ↔ ((map nat_of c.as_slice-in-Some.result.now ≡ counts_after [] fs) × AllCounted fs ls))
    (λ b. IsTrue b ↔ HasOwnForm (union_layout t ts c.args.offsets.now (layouts ls) c.args.shift))
    (λ b h. dense_own t ts ls c.args.shift c.args.offsets.now c.as_slice-in-Some.result.now fs b (c.in-Some.is ∙ sym (ap Some c.as_slice-in-Some.ensures)) (c.as_slice.ensures.value ∙ c.in_ok-fields.ensures) c.requires.canonical h)
    c.all_counted.ensures

pub returns : goal.returns
returns c =
    let t = c.args.dtype.now in
    let ts = c.args.types.now in
    let ls = c.args.children.now in
    let fs = c.as_slice-in-None.result.now in
    ok_then c.sparse_form.result (λ b. IsTrue b ↔ ((c.args.shift ≡ 0) × AreSelected 0 fs (layouts ls))) (λ b. IsTrue b ↔ HasOwnForm (union_layout t ts c.args.offsets.now (layouts ls) c.args.shift))
    (λ b h. sparse_own t ts ls c.args.shift c.args.offsets.now fs b c.in-None.is (c.as_slice-in-None.ensures.value ∙ c.in_ok-fields.ensures) h) c.sparse_form.ensures
