use Rattle.std.proofs.Common.{sym, ◌∙◌, ◌≡◌}
use Rattle.serde_json.specs.Events.{members_len}
use Rattle.serde_json.specs.View.{view, members_view}
use Rattle.serde_json.proofs.Views.{members_len-members_view}
use Rattle.column_read.proofs.Threes.{three_members-other, three_members-found}
use Rattle.column_read.proofs.value.three_members.Goals as goal

pub returns-then-len-ne3 : goal.returns-then-len-ne3
returns-then-len-ne3 c =
    let len : members_len (members_view c.in_ok-members.members.now.entries) ≡ c.len.result = members_len-members_view _ ∙ sym c.len.ensures.len in
    sym (three_members-other c.args.first.now c.args.second.now c.args.third.now (view c.args.value.now) _ (sym c.in_ok-members.ensures) (λ e. c.if-len-ne3.true (sym len ∙ e)))

pub returns : goal.returns
returns c =
    let len : members_len (members_view c.in_ok-members.members.now.entries) ≡ c.len.result = members_len-members_view _ ∙ sym c.len.ensures.len in
    sym (three_members-found c.args.first.now c.args.second.now c.args.third.now (view c.args.value.now) _ (sym c.in_ok-members.ensures) _ _ _ (len ∙ c.if-len-ne3.false) (sym c.in_ok-left.ensures) (sym c.in_ok-middle.ensures) (sym c.in_ok-right.ensures))
