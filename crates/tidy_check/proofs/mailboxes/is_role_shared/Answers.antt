use Rattle.std.proofs.Common.{◌≡◌, ◌==◌, not, ◌∙◌, Some, None}
use Rattle.mail_counts.proofs.Lookups.{roles_found}
use Rattle.tidy_check.proofs.Siblings.{role_shared_by, role_unshared}
use Rattle.tidy_check.proofs.mailboxes.is_role_shared.Goals as goal

pub returns-in-Some : goal.returns-in-Some
returns-in-Some c =
    let m = c.args.mailbox.now in
    c.has_other_roled.ensures
    ∙ (roles_found (λ k. not (k == m.number)) c.args.content.now.content c.in-Some.role c.with_role.result.now (rw c.as_bytes.ensures.value at c.with_role.ensures) c.requires.table
    ∙ role_shared_by c.args.content.now.content m c.in-Some.role c.in-Some.is)

pub returns-in-None : goal.returns-in-None
returns-in-None c = role_unshared c.args.content.now.content c.args.mailbox.now c.in-None.is
