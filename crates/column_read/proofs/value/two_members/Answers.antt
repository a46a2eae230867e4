use Rattle.std.proofs.Common.{sym, ◌∙◌, ◌≡◌}
use Rattle.serde_json.specs.Events.{members_len}
use Rattle.serde_json.specs.View.{view, members_view}
use Rattle.serde_json.proofs.Views.{members_len-members_view}
use Rattle.type_json.proofs.Walks.{two_members-other, two_members-found}
use Rattle.column_read.proofs.value.two_members.Goals as goal

pub returns-then-len-ne2 : goal.returns-then-len-ne2
returns-then-len-ne2 c =
    let len : members_len (members_view c.in_ok-members.members.now.entries) ≡ c.len.result = members_len-members_view _ ∙ sym c.len.ensures.len in
    sym (two_members-other c.args.first.now c.args.second.now (view c.args.value.now) _ (sym c.in_ok-members.ensures) (λ e. c.if-len-ne2.true (sym len ∙ e)))

pub returns : goal.returns
returns c =
    let len : members_len (members_view c.in_ok-members.members.now.entries) ≡ c.len.result = members_len-members_view _ ∙ sym c.len.ensures.len in
    sym (two_members-found c.args.first.now c.args.second.now (view c.args.value.now) _ (sym c.in_ok-members.ensures) _ _ (len ∙ c.if-len-ne2.false) (sym c.in_ok-left.ensures) (sym c.in_ok-right.ensures))
