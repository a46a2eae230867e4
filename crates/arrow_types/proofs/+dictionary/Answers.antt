use Rattle.std.proofs.Common.{ap, ◌∙◌}
use Rattle.arrow_types.specs.Seen.{seen, seen_fields}
use Rattle.arrow_types.specs.SeenAt as at
use Rattle.arrow_types.specs.Types.{contains_dictionary, any_dictionary}
use Rattle.arrow_types.specs.declared.datatype.UnionType.{out-UnionType}
use Rattle.arrow_types.proofs.AtVariant.{at_variant}
use Rattle.arrow_types.proofs.Found.{item_found}
use Rattle.arrow_types.proofs.Others.{dictionary_other}
use Rattle.arrow_types.proofs.+dictionary.Goals as goal

pub datatype::ArrowDataType::contains_dictionary-returns-in-List : goal.datatype::ArrowDataType::contains_dictionary-returns-in-List
datatype::ArrowDataType::contains_dictionary-returns-in-List t c = c.contains_dictionary-in-List.ensures ∙ ap (λ f. contains_dictionary (seen f.dtype)) c.get-in-List.ensures ∙ item_found c.args.self.now c.in-List.field c.in-List.is

pub datatype::ArrowDataType::contains_dictionary-returns-in-Struct : goal.datatype::ArrowDataType::contains_dictionary-returns-in-Struct
datatype::ArrowDataType::contains_dictionary-returns-in-Struct t c = c.any_dictionary.ensures ∙ ap (λ fs. any_dictionary (seen_fields fs)) c.as_slice.ensures ∙ at_variant contains_dictionary (at.seen-Struct _) c.in-Struct.is

pub datatype::ArrowDataType::contains_dictionary-returns-in-Union : goal.datatype::ArrowDataType::contains_dictionary-returns-in-Union
datatype::ArrowDataType::contains_dictionary-returns-in-Union t c = c.any_dictionary-in-Union.ensures ∙ ap (λ fs. any_dictionary (seen_fields fs)) c.as_slice-in-Union.ensures ∙ ap (λ u. any_dictionary (seen_fields (out-UnionType u).fields)) c.get.ensures ∙ at_variant contains_dictionary (at.seen-Union _) c.in-Union.is

pub datatype::ArrowDataType::contains_dictionary-returns-in-Dictionary : goal.datatype::ArrowDataType::contains_dictionary-returns-in-Dictionary
datatype::ArrowDataType::contains_dictionary-returns-in-Dictionary t c = at_variant contains_dictionary (at.seen-Dictionary _ _ _) c.in-Dictionary.is

pub datatype::ArrowDataType::contains_dictionary-returns-in-Extension : goal.datatype::ArrowDataType::contains_dictionary-returns-in-Extension
datatype::ArrowDataType::contains_dictionary-returns-in-Extension t c = c.contains_dictionary.ensures ∙ ap (λ e. contains_dictionary (seen e.inner)) c.get-in-Extension.ensures ∙ at_variant contains_dictionary (at.seen-Extension _) c.in-Extension.is

pub datatype::ArrowDataType::contains_dictionary-returns-in_default : goal.datatype::ArrowDataType::contains_dictionary-returns-in_default
datatype::ArrowDataType::contains_dictionary-returns-in_default t c =
    let d = c.in_default in
    dictionary_other c.args.self.now d.not-List d.not-LargeList d.not-FixedSizeList d.not-Struct d.not-Map d.not-Union d.not-Dictionary d.not-Extension
