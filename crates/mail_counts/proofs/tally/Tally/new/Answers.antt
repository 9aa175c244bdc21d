use Rattle.std.proofs.Common.{map, ap, ◌∙◌}
use Rattle.mail_records.specs.Contents.{email_number}
use Rattle.mail_counts.specs.Counts.{email_thread}
use Rattle.mail_counts.specs.Members.{mailbox_members, member_cmp}
use Rattle.mail_counts.specs.Touched.{emails_of, rising, sorted_once}
use Rattle.mail_counts.proofs.Groups.{tally_is}
use Rattle.mail_counts.proofs.tally.Tally.new.Goals as goal

pub returns : goal.returns
returns c =
    let emails = map (λ r. r.now) c.args.emails.now in
    let unread = map (λ r. r.now) c.in_ok-unread.unread.items in
    let of_unread = map (λ r. r.now) c.in_ok-of_unread.of_unread.items in
    let threads = c.put_in_order.new.numbers.items in
    tally_is emails unread of_unread threads _ c.requires.table c.in_ok-unread.ensures
    (c.put_in_order.ensures.is ∙ ap rising (c.in_ok-threads.ensures ∙ ap (λ v. map email_thread (map (λ r. r.now) v)) c.deref.ensures.value))
    (c.in_ok-of_unread.ensures ∙ ap (λ ts. emails_of ts emails) c.deref-2.ensures.value)
    (c.new-total_emails.ensures ∙ ap (sorted_once member_cmp) c.in_ok-group_emails_by_mailbox.ensures)
    (c.new-unread_emails.ensures
    ∙ ap (sorted_once member_cmp) (c.in_ok-group_emails_by_mailbox-2.ensures ∙ ap (λ v. mailbox_members email_number (map (λ r. r.now) v)) c.deref-3.ensures.value))
    (c.new-total_threads.ensures ∙ ap (sorted_once member_cmp) c.in_ok-group_threads_by_mailbox.ensures)
    (c.new-unread_threads.ensures
    ∙ ap (sorted_once member_cmp) (c.in_ok-group_threads_by_mailbox-2.ensures ∙ ap (λ v. mailbox_members email_thread (map (λ r. r.now) v)) c.deref-4.ensures.value))
