use Rattle.arrow_types.specs.declared.datatype.PhysicalType.TheVariants as physical
use Rattle.arrow_nested.proofs.Lists.{fit_maps, lists_by_type}
use Rattle.arrow_nested.proofs.map.maps_are_accepted.Goals as goal

pub returns-clause-shape : goal.returns-clause-shape
returns-clause-shape c = λ l w s. lists_by_type l physical.Map w s tt

pub returns-clause-fits : goal.returns-clause-fits
returns-clause-fits c = λ l w s. fit_maps l (returns-clause-shape c l w s) w s
