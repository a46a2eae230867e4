use Rattle.std.proofs.Common.{ap, ◌∙◌}
use Rattle.arrow_types.specs.Seen.{seen}
use Rattle.arrow_layout.specs.Layouts.{nulls}
use Rattle.arrow_grow_flat.proofs.NullRuns.{keeps_nulls, nulls_boxed}
use Rattle.arrow_grow_flat.proofs.null.GrowableNull.to.Goals as goal

pub returns : goal.returns
returns c =
    let s = c.self.inside in
    record {
      keeps = keeps_nulls (seen s.dtype) s.length c.self.invariant s.failed c.args.self.now c.self.view_is 0;
      outcome =
          nulls_boxed (seen s.dtype) s.length c.self.invariant s.failed c.args.self.now c.self.view_is c.in_ok-array.array
          (c.in_ok-array.ensures.same ∙ ap (λ d. nulls (seen d) s.length) c.in_ok-dtype.ensures);
    }
