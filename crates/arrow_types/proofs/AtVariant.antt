-- What a definition says of a type, at the variant that it is.
use Rattle.std.proofs.Common.{◌≡◌, sym, ap, ◌∙◌}
use Rattle.arrow_types.specs.TypeData.{TypeData}
use Rattle.arrow_types.specs.Seen.{seen}
use Rattle.arrow_types.specs.declared.datatype.ArrowDataType.{ArrowDataType}

pub at_variant : {X : Type 0} (says : TypeData → X) {t variant : ArrowDataType} {d : TypeData} → seen variant ≡ d → t ≡ variant → says d ≡ says (seen t)
at_variant says e is = ap says (sym (ap seen is ∙ e))
