use Rattle.std.proofs.Common.{sym, ap, ◌∙◌}
use Rattle.std.specs.List.{list_any}
use Rattle.mailbox_creates.specs.Views.{has_role}
use Rattle.mailbox_creates.proofs.Naming.{no_role_taken}
use Rattle.mailbox_creates.proofs.checks.is_role_used.Goals as goal

pub returns-in-None : goal.returns-in-None
returns-in-None c = λ s f. rw c.in-None.is (sym (no_role_taken s.content))

pub returns-in-Some : goal.returns-in-Some
returns-in-Some c = λ s f. rw c.in-Some.is (c.has_mailbox_with_role.ensures s f ∙ ap (λ r. list_any (has_role r) s.content.mailboxes) c.as_str.ensures)
