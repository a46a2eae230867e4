use Rattle.std.proofs.Common.{ap}
use Rattle.arrow_types.specs.Seen.{seen}
use Rattle.arrow_layout.specs.Forms.{form_of, primitive_by}
use Rattle.arrow_meaning.proofs.Primitives.{primitive_form}
use Rattle.arrow_canonical.proofs.Sized.{number_zero}
use Rattle.arrow_canonical.proofs.primitive.PrimitiveArrayZeroValues.is_zero.Goals as goal

pub returns : goal.returns
returns g c =
    let a = c.args.self.now in
    let t = seen a.dtype in
    let p = g.T.NativeType.PRIMITIVE in
    number_zero g.T.NativeType.parts a.values c.args.i c.value.result c.is_zero.result p (primitive_by (form_of t)) c.value.ensures (ap primitive_by (primitive_form t p c.invariant.ensures.kind)) c.is_zero.ensures
