use Rattle.std.proofs.Common.{◌∙◌, ◌++◌, List, ℕ, length, ap, subst}
use Rattle.blob_store.specs.Blobs.{has_room}
use Rattle.email_creates.specs.Emails.{Progress, after_delivered}
use Rattle.email_creates.specs.Views.{Follows}
use Rattle.email_creates.proofs.Room.{bytes_left}
use Rattle.set_parts.proofs.Parts.{on_ok}
use Rattle.mail_copies.proofs.Following.{on_ok_both}
use Rattle.mail_copies.proofs.copy.create_copy.Goals as goal

pub returns-clause-follows : goal.returns-clause-follows
returns-clause-follows c =
    on_ok c.deliver_email.result _ _
    (λ k (s : Progress) (f : Follows c.args.setting.now.content.now.content c.args.planner.now s).
    subst (λ (b : List ℕ). Follows c.args.setting.now.content.now.content c.deliver_email.new.planner (after_delivered c.args.setting.now.blobs.now.blobs c.args.setting.now.moment s c.args.creation.now c.args.sent b)) c.in_ok-message.ensures (k s f))
    c.deliver_email.ensures.follows

pub deliver_email-requires-clause-numbers : goal.deliver_email-requires-clause-numbers
deliver_email-requires-clause-numbers c = c.requires.numbers.numbers

pub deliver_email-requires-clause-counted : goal.deliver_email-requires-clause-counted
deliver_email-requires-clause-counted c = c.requires.numbers.counted

pub deliver_email-requires-clause-room : goal.deliver_email-requires-clause-room
deliver_email-requires-clause-room c =
    let blobs = c.args.setting.now.blobs.now.blobs in
    let brought = c.args.planner.now.creates.blobs in
    bytes_left c.args.planner.now.blob_bytes (length c.in_ok-message.message) blobs brought c.requires.numbers.counted.bytes
    (ap (λ (b : List ℕ). has_room (length b) (blobs ++ brought)) c.in_ok-message.ensures ∙ c.requires.room)

pub returns-clause-numbers : goal.returns-clause-numbers
returns-clause-numbers c =
    on_ok_both c.deliver_email.result _ _ _ (λ more counted (n : ℕ) h. record { numbers = more n h.numbers; counted = counted }) c.deliver_email.ensures.numbers c.deliver_email.ensures.counted
