use Rattle.std.proofs.Common.{ap, map, subst, sym, ◌∙◌}
use Rattle.std.proofs.lemmas.Bool.{false≢true}
use Rattle.std.specs.Prelude.{IsTrue, nat_eq, ◌↔◌}
use Rattle.arrow_types.specs.Carried.{IsPair}
use Rattle.arrow_types.specs.Seen.{seen, seen_field, seen_fields}
use Rattle.arrow_types.specs.TypeData as T
use Rattle.std.proofs.lemmas.List.{length-map}
use Rattle.arrow_types.specs.SeenAt.{seen-Struct}
use Rattle.arrow_nested.proofs.Lists.{is_pair, no_pair}
use Rattle.arrow_nested.proofs.map.is_pair.Goals as goal

pub returns-in-Struct : goal.returns-in-Struct
returns-in-Struct c =
    let fs = c.in-Struct.fields in
    let e = sym (ap seen c.in-Struct.is ∙ seen-Struct fs) in
    let n = length-map fs seen_field ∙ sym c.len.ensures in
    subst (λ t. IsTrue (nat_eq c.len.result 2) ↔ IsPair t) e (subst (λ n. IsTrue (nat_eq n 2) ↔ IsPair (T.struct (seen_fields fs))) n (is_pair (map seen_field fs)))

pub returns-in_default : goal.returns-in_default
returns-in_default c = (λ h. absurd (false≢true h), λ p. absurd (no_pair c.args.dtype.now c.in_default.not-Struct p))
