use Rattle.std.proofs.Common.{map, sym, ap, ◌∙◌}
use Rattle.mail_records.specs.Contents.{blob_of, email_number}
use Rattle.mail_records.specs.Orders.{dated_key, dated_owner, link_keys, linked_key, linked_owner, mailbox_keys, placed_key, placed_owner, received_keys, thread_keys, threaded_key, threaded_owner}
use Rattle.mail_records.proofs.Rooms.{no_keys}
use Rattle.mail_records.proofs.emails.Emails.new.Goals as goal

pub invariant_of-result : goal.invariant_of-result
invariant_of-result c = (
  c.new-2.ensures ∙ sym (ap (map blob_of) c.new.ensures),
  no_keys email_number dated_owner dated_key received_keys c.new.result.rows c.new-3.result.items c.new.ensures c.new-3.ensures.items,
  no_keys email_number threaded_owner threaded_key thread_keys c.new.result.rows c.new-4.result.items c.new.ensures c.new-4.ensures.items,
  no_keys email_number placed_owner placed_key mailbox_keys c.new.result.rows c.new-5.result.items c.new.ensures c.new-5.ensures.items,
  no_keys email_number linked_owner linked_key link_keys c.new.result.rows c.new-6.result.items c.new.ensures c.new-6.ensures.items,
)
