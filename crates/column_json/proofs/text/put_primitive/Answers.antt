use Rattle.std.proofs.Common.{sym, ap, subst, map}
use Rattle.std.specs.Prelude.{OnOk}
use Rattle.arrow_types.specs.Seen.{seen}
use Rattle.arrow_layout.specs.Forms.{primitive_by}
use Rattle.arrow_meaning.proofs.Primitives.{primitive_form}
use Rattle.column_grammar.specs.Writes.{primitives_value}
use Rattle.column_json.specs.Puts.{Puts}
use Rattle.column_json.proofs.text.put_primitive.Goals as goal

pub returns : goal.returns
returns g c =
    let a = c.args.array.now in
    let form = primitive_form (seen a.dtype) g.T.NativeType.PRIMITIVE c.invariant.ensures.stored in
    subst (λ p. OnOk c.put_numbers.result (Puts c.args.out.now c.put_numbers.new.out (primitives_value p a.mask (map g.T.NativeType.parts a.values)))) (sym (ap primitive_by form))
    c.put_numbers.ensures
