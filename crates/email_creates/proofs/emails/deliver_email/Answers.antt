use Rattle.std.proofs.Common.{◌≡◌, ◌∙◌, ◌+◌, ◌++◌, Some, List, ℕ, sym, ap, subst, arith}
use Rattle.mail_records.specs.declared.records.Email.{Email}
use Rattle.blob_store.specs.Blobs.{byte_count}
use Rattle.email_creates.specs.Emails.{Progress, after_made, email_of, next_blob, thread_for}
use Rattle.email_creates.specs.Views.{Follows}
use Rattle.email_creates.proofs.Following.{Follows-counted}
use Rattle.email_creates.proofs.Room.{count-push}
use Rattle.email_creates.proofs.emails.deliver_email.Goals as goal

pub returns-clause-follows : goal.returns-clause-follows
returns-clause-follows c =
    λ (s : Progress) (f : Follows c.args.setting.now.content.now.content c.args.planner.now s).
    let base = c.args.setting.now.content.now.content in
    let moment = c.args.setting.now.moment in
    let bs : List (List ℕ) = c.args.setting.now.blobs.now.blobs ++ s.creating.blobs in
    let is : c.in_ok-email.email.item ≡ email_of s moment c.args.sent (next_blob bs c.args.message) =
    c.in_ok-email.ensures.email s f ∙ ap (λ (b : List ℕ). email_of s moment c.args.sent (next_blob bs b)) c.as_slice.ensures in
    Follows-counted base c.enter_email.new.planner (c.enter_email.new.planner.blob_bytes + c.len-size.result) _
    (subst (λ (e : Email). Follows base c.enter_email.new.planner (after_made s c.args.creation.now e (Some c.args.message))) is
    (c.in_ok-enter_email.ensures.follows base s f (ap (λ (e : Email). e.number) is) (ap (λ (e : Email). e.thread) is ∙ ap (thread_for s) (sym (ap (λ (e : Email). e.summary) is))) (c.in_ok-email.ensures.joined s f)))

pub returns-clause-counted : goal.returns-clause-counted
returns-clause-counted c =
    let counted = ap byte_count c.in_ok-enter_email.ensures.blobs ∙ count-push c.args.planner.now.creates.blobs c.args.message in
    let was = c.in_ok-enter_email.ensures.bytes in
    let size = c.len-size.ensures in
    let had = c.requires.counted.bytes in
    let room = c.requires.room in record { bytes = omega (arith, counted, was, size, had); few = omega (arith, was, size, room) }

pub returns-clause-numbers : goal.returns-clause-numbers
returns-clause-numbers c =
    λ (n : ℕ) h.
    let kept = c.in_ok-enter_email.ensures.numbers n h in record { email = kept.email; thread = kept.thread; new_emails = kept.new_emails; numbered = kept.numbered }
