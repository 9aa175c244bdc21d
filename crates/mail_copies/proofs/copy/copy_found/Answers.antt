use Rattle.std.proofs.Common.{◌∙◌, ◌++◌, ◌+◌, Some, None, [], List, ℕ, length, sym, ap, subst}
use Rattle.mail_records.specs.declared.edits.Edit.{Edit}
use Rattle.set_parts.specs.Views.{create_of}
use Rattle.set_parts.proofs.Parts.{on_ok}
use Rattle.blob_store.specs.Blobs.{has_room}
use Rattle.email_creates.specs.Emails.{Progress}
use Rattle.email_creates.specs.Views.{Follows}
use Rattle.email_creates.proofs.Passing.{accepted_given}
use Rattle.mail_copies.specs.Views.{delivery_of}
use Rattle.mail_copies.proofs.Following.{copy_step}
use Rattle.mail_copies.proofs.copy.copy_found.Goals as goal

pub returns-in-Some-clause-follows : goal.returns-in-Some-clause-follows
returns-in-Some-clause-follows c =
    let base = c.args.setting.now.content.now.content in
    let blobs = c.args.setting.now.blobs.now.blobs in
    let bytes = c.args.delivery.bytes.now in
    on_ok c.reject_copy.result _ _
    (λ k (s : Progress) (f : Follows base c.args.planner.now s).
    subst (Follows base c.reject_copy.new.planner)
    (sym (copy_step blobs c.args.setting.now.moment s (create_of c.args.create.now) (delivery_of c.args.delivery) base c.in_ok-sent.sent c.count_emails-emails.result c.in_ok-invalid.invalid c.has_room_for-room.result (Some c.in-Some.error)
    f.mailboxes
    (c.in_ok-sent.ensures s.creating.made f.creates.ids)
    (f.count ∙ (ap (λ (es : List Edit). length base.emails + length es) (sym c.as_slice.ensures) ∙ sym c.count_emails-emails.ensures))
    c.in_ok-invalid.ensures
    (c.has_room_for-room.ensures ∙ ap (λ (bs : List (List ℕ)). has_room (length bytes) (blobs ++ bs)) f.creates.blobs)
    (sym c.find_error.ensures ∙ c.in-Some.is)))
    (k base s f))
    c.reject_copy.ensures.follows

pub returns-in-None-clause-follows : goal.returns-in-None-clause-follows
returns-in-None-clause-follows c =
    let base = c.args.setting.now.content.now.content in
    let blobs = c.args.setting.now.blobs.now.blobs in
    let bytes = c.args.delivery.bytes.now in
    on_ok c.create_copy.result _ _
    (λ k (s : Progress) (f : Follows base c.args.planner.now s).
    subst (Follows base c.create_copy.new.planner)
    (sym (copy_step blobs c.args.setting.now.moment s (create_of c.args.create.now) (delivery_of c.args.delivery) base c.in_ok-sent.sent c.count_emails-emails.result c.in_ok-invalid.invalid c.has_room_for-room.result None
    f.mailboxes
    (c.in_ok-sent.ensures s.creating.made f.creates.ids)
    (f.count ∙ (ap (λ (es : List Edit). length base.emails + length es) (sym c.as_slice.ensures) ∙ sym c.count_emails-emails.ensures))
    c.in_ok-invalid.ensures
    (c.has_room_for-room.ensures ∙ ap (λ (bs : List (List ℕ)). has_room (length bytes) (blobs ++ bs)) f.creates.blobs)
    (sym c.find_error.ensures ∙ c.in-None.is)))
    (k s f))
    c.create_copy.ensures.follows

pub has_room_for-room-requires-clause-counted : goal.has_room_for-room-requires-clause-counted
has_room_for-room-requires-clause-counted c = c.requires.numbers.counted

pub create_copy-requires-clause-room : goal.create_copy-requires-clause-room
create_copy-requires-clause-room c =
    let left = accepted_given [] c.in_ok-invalid.invalid c.in_ok-sent.sent c.count_emails-emails.result c.has_room_for-room.result c.in_ok-invalid.ensures (sym c.find_error.ensures ∙ c.in-None.is) in
    sym c.has_room_for-room.ensures ∙ left.blob_room
