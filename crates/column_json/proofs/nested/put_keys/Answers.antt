use Rattle.std.proofs.Common.{sym, ap, subst, map}
use Rattle.std.specs.Prelude.{OnOk}
use Rattle.arrow_types.specs.Seen.{seen}
use Rattle.arrow_layout.specs.Forms.{primitive_by}
use Rattle.arrow_meaning.proofs.Primitives.{primitive_form}
use Rattle.column_grammar.specs.Values.{list_value, number_value}
use Rattle.column_json.specs.Puts.{Puts}
use Rattle.column_json.proofs.nested.put_keys.Goals as goal

pub returns : goal.returns
returns g c =
    let a = c.args.array.now in
    let form = primitive_form (seen a.dtype) g.T.NativeType.PRIMITIVE c.invariant.ensures.stored in
    subst (λ p. OnOk c.put_key_values.result (Puts c.args.out.now c.put_key_values.new.out (list_value (map (number_value p) (map g.T.NativeType.parts a.values))))) (sym (ap primitive_by form))
    c.put_key_values.ensures
