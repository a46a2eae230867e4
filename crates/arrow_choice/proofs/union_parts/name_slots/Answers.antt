use Rattle.std.proofs.Common.{ap, arith, below_more, get_or, refl, subst, sym, ◌∙◌}
use Rattle.std.specs.Prelude.{pos}
use Rattle.std.proofs.lemmas.Bool.{false≢true}
use Rattle.arrow_types.specs.Carried.{IsBelow}
use Rattle.arrow_types.specs.Seen.{seen}
use Rattle.arrow_types.specs.Select.{select}
use Rattle.arrow_layout.specs.Forms.{form_of, ids_by}
use Rattle.arrow_layout.specs.Layouts.{layouts, lengths_of}
use Rattle.arrow_choice.proofs.Unions.{IsNamed, named_from, named_in}
use Rattle.arrow_choice.proofs.union_parts.name_slots.Goals as goal

pub returns-then-not-is_below_at : goal.returns-then-not-is_below_at
returns-then-not-is_below_at c =
    let select_field = select (ids_by (form_of (seen c.args.dtype.now))) in
    let lens = lengths_of (layouts c.args.children.now) in
    let limit = c.child_len.ensures ∙ ap (λ j. get_or lens j 0) c.selected_field-field.ensures in (
      λ e. absurd (false≢true e),
      λ h. absurd (false≢true (sym c.if-not-is_below_at.true ∙ c.is_below_at.ensures.below.1
          (subst (λ n. IsBelow n (get_or c.args.offsets.now c.loop-i.i (pos 0))) (sym limit)
          (named_in select_field lens c.args.types.now c.args.offsets.now c.loop-i.i h.0 h.1 (omega (arith, c.loop-i-test.true)))))),
    )

pub loop-i-preserved : goal.loop-i-preserved
loop-i-preserved c =
    let select_field = select (ids_by (form_of (seen c.args.dtype.now))) in
    let lens = lengths_of (layouts c.args.children.now) in
    let limit = c.child_len.ensures ∙ ap (λ j. get_or lens j 0) c.selected_field-field.ensures in
    below_more (IsNamed select_field lens c.args.types.now c.args.offsets.now) c.loop-i.i c.loop-i.invariant (
      c.is_below_at.ensures.small c.if-not-is_below_at.false,
      subst (λ n. IsBelow n (get_or c.args.offsets.now c.loop-i.i (pos 0))) limit (c.is_below_at.ensures.below.0 c.if-not-is_below_at.false),
    )

pub returns : goal.returns
returns c = (
  λ e. named_from (select (ids_by (form_of (seen c.args.dtype.now)))) (lengths_of (layouts c.args.children.now)) c.args.types.now c.args.offsets.now c.requires.counts
      (λ k l. c.loop-i.invariant k (let past = c.loop-i-test.false in omega (arith, l))),
  λ h. refl,
)
