use Rattle.std.proofs.Common.{◌<◌, arith, length, subst, sym, ◌∙◌}
use Rattle.std.proofs.lemmas.Bool.{false≢true}
use Rattle.arrow_types.specs.Seen.{seen}
use Rattle.arrow_choice.specs.Unions.{union_field_count}
use Rattle.arrow_choice.proofs.Unions.{children_counted, none_there, some_there}
use Rattle.arrow_choice.proofs.union_parts.check_slots.Goals as goal

pub has_all_ids-requires-clause-fields : goal.has_all_ids-requires-clause-fields
has_all_ids-requires-clause-fields c = sym (children_counted c.args.children.now) ∙ c.requires.count

pub are_type_numbers-requires-clause-fields : goal.are_type_numbers-requires-clause-fields
are_type_numbers-requires-clause-fields c = sym (children_counted c.args.children.now) ∙ c.requires.count

pub returns-then-is_empty : goal.returns-then-is_empty
returns-then-is_empty c =
    let ids = c.has_all_ids.ensures.0 c.if-not-has_all_ids.false in
    let small = c.has_small_ids.ensures.0 c.if-not-has_small_ids.false in
    let numbers = c.are_type_numbers.ensures.0 c.if-not-are_type_numbers.false in
    let counted = sym (children_counted c.args.children.now) ∙ c.requires.count in
    let empty = none_there c.is_empty.result (length c.args.children.now) c.is_empty.ensures c.if-is_empty.true in
    (c.requires, ids, small, numbers, λ h. omega (arith, h, counted, empty))

pub returns-then-not-name_slots_if : goal.returns-then-not-name_slots_if
returns-then-not-name_slots_if c =
    let ids = c.has_all_ids.ensures.0 c.if-not-has_all_ids.false in
    let small = c.has_small_ids.ensures.0 c.if-not-has_small_ids.false in
    let numbers = c.are_type_numbers.ensures.0 c.if-not-are_type_numbers.false in
    let counted = sym (children_counted c.args.children.now) ∙ c.requires.count in
    let filled : 0 < union_field_count (seen c.args.dtype.now) = subst (λ n. 0 < n) counted (some_there c.is_empty.result (length c.args.children.now) c.is_empty.ensures c.if-is_empty.false) in
    (c.requires, ids, small, numbers, filled, λ h. false≢true (sym c.if-not-name_slots_if.true ∙ c.name_slots_if.ensures.1 h))

pub returns-then-not-have_slots : goal.returns-then-not-have_slots
returns-then-not-have_slots c =
    let ids = c.has_all_ids.ensures.0 c.if-not-has_all_ids.false in
    let small = c.has_small_ids.ensures.0 c.if-not-has_small_ids.false in
    let numbers = c.are_type_numbers.ensures.0 c.if-not-are_type_numbers.false in
    let counted = sym (children_counted c.args.children.now) ∙ c.requires.count in
    let filled : 0 < union_field_count (seen c.args.dtype.now) = subst (λ n. 0 < n) counted (some_there c.is_empty.result (length c.args.children.now) c.is_empty.ensures c.if-is_empty.false) in
    let named = c.name_slots_if.ensures.0 c.if-not-name_slots_if.false in
    (c.requires, ids, small, numbers, filled, named, λ h. false≢true (sym c.if-not-have_slots.true ∙ c.have_slots.ensures.1 h))

pub returns : goal.returns
returns c =
    let ids = c.has_all_ids.ensures.0 c.if-not-has_all_ids.false in
    let small = c.has_small_ids.ensures.0 c.if-not-has_small_ids.false in
    let numbers = c.are_type_numbers.ensures.0 c.if-not-are_type_numbers.false in
    let counted = sym (children_counted c.args.children.now) ∙ c.requires.count in
    let filled : 0 < union_field_count (seen c.args.dtype.now) = subst (λ n. 0 < n) counted (some_there c.is_empty.result (length c.args.children.now) c.is_empty.ensures c.if-is_empty.false) in
    record {
      shape = c.requires;
      all_ids = ids;
      small_ids = small;
      numbers = numbers;
      fields = filled;
      dense = c.name_slots_if.ensures.0 c.if-not-name_slots_if.false;
      sparse = c.have_slots.ensures.0 c.if-not-have_slots.false;
    }
