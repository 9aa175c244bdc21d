use Rattle.mail_records.specs.Contents.{mailbox_number}
use Rattle.mail_records.specs.Orders.{name_keys, named_key, named_owner, role_keys, roled_key, roled_owner}
use Rattle.mail_records.proofs.Rooms.{no_keys}
use Rattle.mail_records.proofs.mailboxes.Mailboxes.new.Goals as goal

pub invariant_of-result : goal.invariant_of-result
invariant_of-result c = (
  no_keys mailbox_number named_owner named_key name_keys c.new.result.rows c.new-2.result.items c.new.ensures c.new-2.ensures.items,
  no_keys mailbox_number roled_owner roled_key role_keys c.new.result.rows c.new-3.result.items c.new.ensures c.new-3.ensures.items,
)
