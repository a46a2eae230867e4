use Rattle.arrow_types.specs.Carried.{IsPair}
use Rattle.arrow_types.specs.SeenAt as at
use Rattle.arrow_meaning.proofs.NullTypes.{no, pair_other, pair_told, told}
use Rattle.arrow_meaning.proofs.null_check.is_pair.Goals as goal

pub returns-in-Struct : goal.returns-in-Struct
returns-in-Struct c = told IsPair _ (at.seen-Struct _) c.in-Struct.is (pair_told _ c.len.result c.len.ensures)

pub returns-in_default : goal.returns-in_default
returns-in_default c = no (pair_other c.args.dtype.now c.in_default.not-Struct)
