use Rattle.std.proofs.Common.{◌==◌, ◌&&◌, not, Option, List, ℕ, sym, ap, ◌∙◌}
use Rattle.std.specs.List.{list_any}
use Rattle.mail_records.specs.declared.records.Mailbox.{Mailbox}
use Rattle.mail_counts.specs.Tidy.{same_role}
use Rattle.mailbox_updates.specs.Updates.{is_another}
use Rattle.mailbox_updates.proofs.Breaking.{no_role}
use Rattle.mailbox_updates.proofs.rules.is_role_shared.Goals as goal

pub returns-in-Some : goal.returns-in-Some
returns-in-Some c =
    λ d shows.
    let m = c.args.mailbox.now in
    c.is_role_used.ensures d shows
    ∙ ap (λ (r : Option (List ℕ)). list_any (λ (n : Mailbox). not (n.number == m.number) && same_role n.role r) d.mailboxes) (sym c.in-Some.is)

pub returns-in-None : goal.returns-in-None
returns-in-None c =
    λ d shows.
    let m = c.args.mailbox.now in
    sym (ap (λ (r : Option (List ℕ)). list_any (λ (n : Mailbox). is_another m n && same_role n.role r) d.mailboxes) c.in-None.is ∙ no_role (is_another m) d.mailboxes)
