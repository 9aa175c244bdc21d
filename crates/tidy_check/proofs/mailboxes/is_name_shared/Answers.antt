use Rattle.std.proofs.Common.{◌==◌, not, ◌∙◌}
use Rattle.mail_counts.proofs.Lookups.{siblings_found}
use Rattle.tidy_check.proofs.mailboxes.is_name_shared.Goals as goal

pub returns : goal.returns
returns c =
    let m = c.args.mailbox.now in
    c.has_other_named.ensures
    ∙ siblings_found (λ k. not (k == m.number)) c.args.content.now.content m.parent m.name c.find_children_named-siblings.result.now (rw c.as_bytes.ensures.value at c.find_children_named-siblings.ensures) c.requires.table
