use Rattle.std.proofs.Common.{◌≡◌, arith, length, ◌≤◌}
use Rattle.arrow_flat.specs.Built.{Built}
use Rattle.arrow_push.specs.Masks.{with_nulls}
use Rattle.arrow_push.proofs.Masks.{cut_count, cut_bare}
use Rattle.arrow_push.specs.Laws.{under_length}
use Rattle.arrow_push.proofs.Later.{masked_cut}
use Rattle.arrow_push.proofs.masked.MaskedBuilderNullableBuilder.truncate.Goals as goal

pub invariant_of-self : goal.invariant_of-self
invariant_of-self g c =
    let b = c.args.self.now in
    let v : Built = g.V.Building.seen b.values in
    let w : Built = g.V.Building.seen c.truncate.new.self in
    let l : length (with_nulls b.validity v.slots) ≡ length v.slots = under_length b.validity v.slots b.fits in
    let r : c.args.len ≤ length (with_nulls b.validity v.slots) = c.requires in
    let cut = c.truncate.ensures in
    record {
      fits = cut_count v w b.validity c.truncate_mask.new.validity c.args.len cut.slots_are c.truncate_mask.ensures b.fits (omega arith);
      bare = cut_bare g.V.ValuesLaws.blank v w b.validity c.truncate_mask.new.validity c.args.len cut.slots_are c.truncate_mask.ensures cut.same_type b.bare;
    }

pub returns-clause-cut : goal.returns-clause-cut
returns-clause-cut g c =
    masked_cut g.V.ValuesLaws.blank (g.V.Building.seen c.args.self.now.values) (g.V.Building.seen c.truncate.new.self) c.args.self.now.validity c.truncate_mask.new.validity c.args.len c.truncate.ensures c.truncate_mask.ensures
