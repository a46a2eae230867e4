use Rattle.std.proofs.Common.{◌≡◌, ◌≤◌, arith, subst, sym, ◌∙◌}
use Rattle.std.proofs.lemmas.Bool.{false≢true}
use Rattle.arrow_types.specs.Seen.{seen}
use Rattle.arrow_layout.specs.Layouts.{child_count, layouts}
use Rattle.arrow_layout.specs.WellFormed.{HaveTypes}
use Rattle.arrow_choice.specs.Unions.{union_field_count}
use Rattle.arrow_choice.proofs.Unions.{children_counted}
use Rattle.arrow_choice.proofs.union_parts.check_parts.Goals as goal

pub returns-then-children-fields : goal.returns-then-children-fields
returns-then-children-fields c =
    let stored = c.is_stored_in.ensures.0 c.if-not-is_stored_in.false in
    let fields = c.declared_fields-fields.ensures.counts in
    let children = children_counted c.args.children.now in
    (stored, λ e. c.if-children-fields.true (omega (arith, children, fields, e)))

pub returns-then-fields-gt127 : goal.returns-then-fields-gt127
returns-then-fields-gt127 c =
    let stored = c.is_stored_in.ensures.0 c.if-not-is_stored_in.false in
    let fields = c.declared_fields-fields.ensures.counts in
    let children = children_counted c.args.children.now in
    let counted : child_count (layouts c.args.children.now) ≡ union_field_count (seen c.args.dtype.now) = omega (arith, children, fields, c.if-children-fields.false) in
    (stored, counted, λ h. omega (arith, h, fields, c.if-fields-gt127.true))

pub returns-then-not-have_types : goal.returns-then-not-have_types
returns-then-not-have_types c =
    let stored = c.is_stored_in.ensures.0 c.if-not-is_stored_in.false in
    let fields = c.declared_fields-fields.ensures.counts in
    let children = children_counted c.args.children.now in
    let counted : child_count (layouts c.args.children.now) ≡ union_field_count (seen c.args.dtype.now) = omega (arith, children, fields, c.if-children-fields.false) in
    let few : union_field_count (seen c.args.dtype.now) ≤ 127 = omega (arith, fields, c.if-fields-gt127.false) in
    (stored, counted, few, λ h. false≢true (sym c.if-not-have_types.true ∙ c.have_types.ensures.1 (subst (λ fs. HaveTypes fs (layouts c.args.children.now)) (sym c.declared_fields-fields.ensures.same) h)))

pub returns-then-not-has_all_offsets : goal.returns-then-not-has_all_offsets
returns-then-not-has_all_offsets c =
    let stored = c.is_stored_in.ensures.0 c.if-not-is_stored_in.false in
    let fields = c.declared_fields-fields.ensures.counts in
    let children = children_counted c.args.children.now in
    let counted : child_count (layouts c.args.children.now) ≡ union_field_count (seen c.args.dtype.now) = omega (arith, children, fields, c.if-children-fields.false) in
    let few : union_field_count (seen c.args.dtype.now) ≤ 127 = omega (arith, fields, c.if-fields-gt127.false) in
    let types = subst (λ fs. HaveTypes fs (layouts c.args.children.now)) c.declared_fields-fields.ensures.same (c.have_types.ensures.0 c.if-not-have_types.false) in
    (stored, counted, few, types, λ h. false≢true (sym c.if-not-has_all_offsets.true ∙ c.has_all_offsets.ensures.1 h))

pub returns-then-not-has_mode : goal.returns-then-not-has_mode
returns-then-not-has_mode c =
    let stored = c.is_stored_in.ensures.0 c.if-not-is_stored_in.false in
    let fields = c.declared_fields-fields.ensures.counts in
    let children = children_counted c.args.children.now in
    let counted : child_count (layouts c.args.children.now) ≡ union_field_count (seen c.args.dtype.now) = omega (arith, children, fields, c.if-children-fields.false) in
    let few : union_field_count (seen c.args.dtype.now) ≤ 127 = omega (arith, fields, c.if-fields-gt127.false) in
    let types = subst (λ fs. HaveTypes fs (layouts c.args.children.now)) c.declared_fields-fields.ensures.same (c.have_types.ensures.0 c.if-not-have_types.false) in
    let offsets = c.has_all_offsets.ensures.0 c.if-not-has_all_offsets.false in
    (stored, counted, few, types, offsets, λ h. false≢true (sym c.if-not-has_mode.true ∙ c.has_mode.ensures.1 h))

pub check_slots-requires : goal.check_slots-requires
check_slots-requires c =
    let stored = c.is_stored_in.ensures.0 c.if-not-is_stored_in.false in
    let fields = c.declared_fields-fields.ensures.counts in
    let children = children_counted c.args.children.now in
    let counted : child_count (layouts c.args.children.now) ≡ union_field_count (seen c.args.dtype.now) = omega (arith, children, fields, c.if-children-fields.false) in
    let few : union_field_count (seen c.args.dtype.now) ≤ 127 = omega (arith, fields, c.if-fields-gt127.false) in
    let types = subst (λ fs. HaveTypes fs (layouts c.args.children.now)) c.declared_fields-fields.ensures.same (c.have_types.ensures.0 c.if-not-have_types.false) in
    let offsets = c.has_all_offsets.ensures.0 c.if-not-has_all_offsets.false in
    record {
      stored = stored;
      count = counted;
      few = few;
      types = types;
      offset_count = offsets;
      mode = c.has_mode.ensures.0 c.if-not-has_mode.false;
    }
