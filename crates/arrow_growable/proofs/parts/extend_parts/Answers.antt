use Rattle.std.proofs.Common.{◌≡◌, subst, sym, ap}
use Rattle.std.specs.Prelude.{IfOk, OnOk}
use Rattle.arrow_layout.specs.Forms.{form_of}
use Rattle.arrow_layout.specs.Layouts.{type_of}
use Rattle.arrow_growable.specs.ChildRuns.{AreChildRuns}
use Rattle.arrow_growable.specs.Parts.{AreOfForm}
use Rattle.arrow_growable.specs.Taken.{HaveNoRoom, HaveTaken}
use Rattle.arrow_growable.proofs.parts.extend_parts.Goals as goal

pub returns-in-Map-clause-taken : goal.returns-in-Map-clause-taken
returns-in-Map-clause-taken c =
    let r = c.extend_list_parts-in-Map in
    subst (λ l. OnOk r.result (HaveTaken l c.args.runs.now c.args.copies c.args.parts.now r.new.parts)) c.node-node.ensures.same r.ensures.taken

pub returns-in-Map-clause-overflow : goal.returns-in-Map-clause-overflow
returns-in-Map-clause-overflow c = λ e.
    let r = c.extend_list_parts-in-Map in
    subst (λ l. HaveNoRoom l c.args.runs.now c.args.copies c.args.parts.now) c.node-node.ensures.same (r.ensures.overflow e)

pub returns-in_default : goal.returns-in_default
returns-in_default c =
    let r = c.extend_counted_parts in
    record {
      kept = r.ensures.kept;
      form = subst (λ l. AreOfForm (form_of (type_of l)) r.new.parts) c.node-node.ensures.same r.ensures.form;
      runs = subst (λ l. IfOk r.result (AreChildRuns l c.args.runs.now)) c.node-node.ensures.same r.ensures.runs;
      taken = subst (λ l. OnOk r.result (HaveTaken l c.args.runs.now c.args.copies c.args.parts.now r.new.parts)) c.node-node.ensures.same r.ensures.taken;
      overflow = λ e. subst (λ l. HaveNoRoom l c.args.runs.now c.args.copies c.args.parts.now) c.node-node.ensures.same (r.ensures.overflow e);
    }
