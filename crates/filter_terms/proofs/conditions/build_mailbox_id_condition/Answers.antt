use Rattle.std.proofs.Common.{sym, ap, ◌∙◌}
use Rattle.filter_terms.specs.EmailTerms.{is_mailbox_id}
use Rattle.filter_terms.proofs.MailboxIds.{none_in}
use Rattle.filter_terms.proofs.conditions.build_mailbox_id_condition.Goals as goal

pub returns-in-None : goal.returns-in-None
returns-in-None c =
    λ texts s. none_in c.args.id.now s.email.mailboxes (λ m. ap (λ t. is_mailbox_id t m) (sym c.as_bytes.ensures.value) ∙ c.in-None.ensures m)
