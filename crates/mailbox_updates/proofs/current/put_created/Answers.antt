use Rattle.std.proofs.Common.{◌≡◌, suc, true, false, not, is_some, sym, ap, ◌∙◌}
use Rattle.mail_records.specs.Contents.{mailbox_at}
use Rattle.set_parts.proofs.Parts.{on_ok}
use Rattle.mailbox_updates.proofs.Breaking.{length_new, length_old, some_map}
use Rattle.mailbox_updates.proofs.current.put_created.Goals as goal

pub returns-then-is_none-clause-count : goal.returns-then-is_none-clause-count
returns-then-is_none-clause-count c =
    on_ok c.put_new.result _ _
    (λ more d was counts shows counted.
    let none : is_some (mailbox_at d c.args.item.number) ≡ false =
    sym (ap is_some (c.find_present.ensures d shows)) ∙ (some_map (λ r. r.now) c.find_present.result ∙ (c.is_none.ensures ∙ ap not c.if-is_none.true)) in
    more ∙ (ap suc counted ∙ sym (length_new c.args.item d.mailboxes none)))
    c.put_new.ensures.count

pub returns-clause-count : goal.returns-clause-count
returns-clause-count c =
    on_ok c.put_mailbox.result _ _
    (λ same d was counts shows counted.
    let there : is_some (mailbox_at d c.args.item.number) ≡ true =
    sym (ap is_some (c.find_present.ensures d shows)) ∙ (some_map (λ r. r.now) c.find_present.result ∙ (c.is_none.ensures ∙ ap not c.if-is_none.false)) in
    same ∙ (counted ∙ sym (length_old c.args.item d.mailboxes shows.table there)))
    c.put_mailbox.ensures.count
