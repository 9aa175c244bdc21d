use Rattle.std.proofs.Common.{◌≤◌, sym, ap, ◌∙◌, subst}
use Rattle.mail_records.specs.Contents.{Content}
use Rattle.mail_records.specs.Histories.{IsSound, edits_of}
use Rattle.mail_counts.specs.Tidy.{IsTidy}
use Rattle.record_codec.specs.Sizes.{edit_bytes}
use Rattle.blob_store.specs.Blobs.{AreBlobsFew}
use Rattle.account_book.specs.declared.limits.TheConstants.{MAX_EDIT_BYTES}
use Rattle.mail_summary.specs.Summaries.{summary}
use Rattle.mail_calls.specs.ValidAccounts.{IsWhole}
use Rattle.mail_calls.proofs.ValidityTested.{unless, whole_result}
use Rattle.mail_calls.proofs.validity.is_whole.Goals as goal

pub returns-then-not-is_sound : goal.returns-then-not-is_sound
returns-then-not-is_sound c =
    let h = c.args.account.now.history in
    unless (IsSound h) (IsWhole summary h) c.is_sound.result c.if-not-is_sound.true (λ w. w.sound) c.is_sound.ensures.sound

pub returns-then-not-is_within_limit : goal.returns-then-not-is_within_limit
returns-then-not-is_within_limit c =
    let h = c.args.account.now.history in
    unless (edit_bytes (edits_of h) ≤ MAX_EDIT_BYTES) (IsWhole summary h) c.is_within_limit.result c.if-not-is_within_limit.true (λ w. w.limit) c.is_within_limit.ensures.within

pub returns-then-not-branch : goal.returns-then-not-branch
returns-then-not-branch c =
    let h = c.args.account.now.history in
    unless (IsTidy c.content-content.result.now.content) (IsWhole summary h) c.in_ok-is_tidy.field-0 c.if-not-branch.true
    (λ w. subst IsTidy (sym c.content-content.ensures.content) w.tidy) c.in_ok-is_tidy.ensures

pub returns : goal.returns
returns c =
    let h = c.args.account.now.history in
    whole_result summary h c.have_messages.result c.blobs-blobs.result.now.blobs c.emails.result.now c.is_sound.ensures.founded (c.is_sound.ensures.sound.0 c.if-not-is_sound.false)
    (subst IsTidy c.content-content.ensures.content (c.in_ok-is_tidy.ensures.0 c.if-not-branch.false))
    (subst AreBlobsFew c.blobs-blobs.ensures.blobs c.blobs-blobs.ensures.few)
    (c.is_within_limit.ensures.within.0 c.if-not-is_within_limit.false) c.is_sound.ensures.next
    c.blobs-blobs.ensures.blobs (c.emails.ensures.items ∙ ap (λ (d : Content). d.emails) c.content-content.ensures.content) c.have_messages.ensures
