use Rattle.std.proofs.Common.{map}
use Rattle.arrow_types.specs.Select.{nat_of, select}
use Rattle.arrow_layout.specs.Forms.{form_of, ids_by}
use Rattle.arrow_choice.proofs.Unions.{dense_slots_at, sparse_slots_at}
use Rattle.arrow_choice.proofs.union_laws.unions_denote.Goals as goal

pub returns-clause-sparse : goal.returns-clause-sparse
returns-clause-sparse c = λ t shift ts ls. sparse_slots_at (select (ids_by (form_of t))) ls shift (map nat_of ts)

pub returns-clause-dense : goal.returns-clause-dense
returns-clause-dense c = λ t shift ts os ls. dense_slots_at (select (ids_by (form_of t))) ls (map nat_of ts) (map nat_of os)
