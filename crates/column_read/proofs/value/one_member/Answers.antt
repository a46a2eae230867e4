use Rattle.std.proofs.Common.{sym, ◌∙◌, ◌≡◌}
use Rattle.serde_json.specs.Events.{members_len}
use Rattle.serde_json.specs.View.{view, members_view}
use Rattle.serde_json.proofs.Views.{members_len-members_view}
use Rattle.column_read.proofs.Threes.{one_member-other, one_member-found}
use Rattle.column_read.proofs.value.one_member.Goals as goal

pub returns-then-len-ne1 : goal.returns-then-len-ne1
returns-then-len-ne1 c =
    let len : members_len (members_view c.in_ok-members.members.now.entries) ≡ c.len.result = members_len-members_view _ ∙ sym c.len.ensures.len in
    sym (one_member-other c.args.key.now (view c.args.value.now) _ (sym c.in_ok-members.ensures) (λ e. c.if-len-ne1.true (sym len ∙ e)))

pub returns : goal.returns
returns c =
    let len : members_len (members_view c.in_ok-members.members.now.entries) ≡ c.len.result = members_len-members_view _ ∙ sym c.len.ensures.len in
    c.get.ensures ∙ sym (one_member-found c.args.key.now (view c.args.value.now) _ (sym c.in_ok-members.ensures) (len ∙ c.if-len-ne1.false))
