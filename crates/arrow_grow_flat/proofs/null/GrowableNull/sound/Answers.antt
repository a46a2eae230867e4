use Rattle.std.proofs.Common.{◌≡◌, Some, refl, subst, true}
use Rattle.arrow_types.specs.Seen.{seen}
use Rattle.arrow_types.specs.Types.{physical_of}
use Rattle.arrow_types.specs.declared.datatype.PhysicalType.TheVariants as physical
use Rattle.arrow_grow_flat.specs.Grown.{Grown}
use Rattle.arrow_grow_flat.proofs.NullRuns.{is_sound}
use Rattle.arrow_grow_flat.proofs.null.GrowableNull.sound.Goals as goal

pub returns-clause-sound : goal.returns-clause-sound
returns-clause-sound c = let s = c.self.inside in is_sound (seen s.dtype) s.length c.self.invariant s.failed c.args.self.now c.self.view_is

pub returns-clause-stored : goal.returns-clause-stored
returns-clause-stored c = subst (λ (g : Grown). physical_of g.dtype ≡ Some physical.Null) c.self.view_is c.self.invariant.stored

pub returns-clause-nulls : goal.returns-clause-nulls
returns-clause-nulls c = subst (λ (g : Grown). g.takes_nulls ≡ true) c.self.view_is refl
