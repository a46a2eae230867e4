use Rattle.std.proofs.Common.{length, ap, sym, subst}
use Rattle.arrow_bytes.proofs.Windows.{has_bit}
use Rattle.arrow_layout.specs.Denote.{validity_of}
use Rattle.arrow_flat.specs.Primitives.{HasBit}
use Rattle.arrow_types.specs.Seen.{seen}
use Rattle.arrow_nested.specs.FixedSizeLists.{values_of}
use Rattle.arrow_nested.proofs.FixedSizeLists.{lists_covered}
use Rattle.arrow_nested.proofs.fixed_size_list.RefFixedSizeListArrayMakingAccessorArrayRefAllocErrorArrayRef.is_valid.Goals as goal

pub returns-clause-fits : goal.returns-clause-fits
returns-clause-fits c =
    let r = c.parts.result in
    lists_covered (seen r.dtype.now) r.validity.now r.size r.length r.child.now c.args.self.now c.parts.ensures.same c.parts.ensures.sound

pub is_valid-requires : goal.is_valid-requires
is_valid-requires c =
    let r = c.parts.result in
    let l = c.args.self.now in
    let fits = lists_covered (seen r.dtype.now) r.validity.now r.size r.length r.child.now l c.parts.ensures.same c.parts.ensures.sound in
    subst (λ m. HasBit m c.args.i) (sym (ap validity_of c.parts.ensures.same)) (has_bit (validity_of l) (length (values_of l)) c.args.i fits c.requires)
