use Rattle.std.proofs.Common.{List, ◌*◌, true, Err, ap, sym, ◌∙◌, subst, arith}
use Rattle.arrow_types.specs.Seen.{seen}
use Rattle.arrow_types.specs.declared.error.GrowError.TheVariants as error
use Rattle.arrow_flat.specs.Slots.{Slot}
use Rattle.arrow_grow_flat.specs.Grown.{Grows, nulls_by}
use Rattle.arrow_grow_flat.specs.Nulls.{null_grown}
use Rattle.arrow_grow_flat.proofs.Counts.{at_least}
use Rattle.arrow_grow_flat.proofs.NullRuns.{nulls_full, slots_copied}
use Rattle.arrow_grow_flat.proofs.null.GrowableNullGrowable.extend_copies.Goals as goal

pub returns-in_default : goal.returns-in_default
returns-in_default c =
    let a = c.args.self.now in
    let s = c.self.inside in
    let many = c.args.len * c.args.copies in
    subst (λ (xs : List Slot). Grows a xs (null_grown (seen s.dtype) s.length true) (Err error.Overflow)) (sym (slots_copied a c.sound.ensures.stored c.args._index c.args._start c.args.len c.args.copies c.requires))
    (nulls_full (seen s.dtype) s.length c.self.invariant s.failed a c.self.view_is many (omega (arith, at_least many c.in_default.ensures)))

pub returns : goal.returns
returns c =
    let a = c.args.self.now in
    subst (λ (xs : List Slot). Grows a xs c.grow.new.self c.grow.result)
    (ap nulls_by c.in-Some.ensures.1 ∙ sym (slots_copied a c.sound.ensures.stored c.args._index c.args._start c.args.len c.args.copies c.requires)) c.grow.ensures
