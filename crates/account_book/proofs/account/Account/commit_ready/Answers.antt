use Rattle.std.proofs.Common.{rules, ◌≡◌, ◌≤◌, arith, ◌+◌, ◌++◌, ◌∷◌, [], ap, sym, ◌∙◌, subst}
use Rattle.mail_records.specs.Edits.{AllFit, after_edits}
use Rattle.mail_records.specs.Histories.{Committed, IsSound, blobs_of, content_of, edits_of, grown}
use Rattle.record_codec.specs.Sizes.{edit_bytes}
use Rattle.blob_store.specs.Blobs.{AreBlobsFew}
use Rattle.account_book.specs.Accounts.{IsAccountOf, history_of, kept_entry}
use Rattle.account_book.specs.Replies.{IsWithin}
use Rattle.account_book.specs.declared.limits.TheConstants.{MAX_EDIT_BYTES}
use Rattle.account_book.proofs.Entering.{IsAccountOf-commit, capped_within, history_of-commit, noted, threads_sound}
use Rattle.account_book.proofs.account.Account.commit_ready.Goals as goal

pub returns : goal.returns
returns c =
    let inside = c.self.inside in
    let commit = c.args.commit in
    let log : c.note_all_ready.new.log ≡ noted inside.log commit.edits c.note_all_ready.new.log.spare = search rules in
    let entries : c.push_reserved.new.self.items ≡ inside.entries.items ++ kept_entry (Committed commit) ∷ [] = search rules in
    let blobs : c.push_all_ready.new.blobs.blobs ≡ inside.blobs.blobs ++ commit.blobs = search rules in
    history_of-commit inside.log c.note_all_ready.new.log inside.base.content inside.content.content inside.entries.items c.push_reserved.new.self.items inside.blobs.blobs c.push_all_ready.new.blobs.blobs inside.base_blobs inside.edit_bytes inside.keeps_threads commit
    c.self.invariant log entries blobs
    ∙ ap (λ v. grown v.history (Committed commit)) c.self.view_is

pub invariant_of-self : goal.invariant_of-self
invariant_of-self c =
    let inside = c.self.inside in
    let commit = c.args.commit in
    let log : c.note_all_ready.new.log ≡ noted inside.log commit.edits c.note_all_ready.new.log.spare = search rules in
    let entries : c.push_reserved.new.self.items ≡ inside.entries.items ++ kept_entry (Committed commit) ∷ [] = search rules in
    let blobs : c.push_all_ready.new.blobs.blobs ≡ inside.blobs.blobs ++ commit.blobs = search rules in
    let content : c.apply_all_ready.new.content.content ≡ after_edits inside.content.content commit.edits = search rules in
    let bytes = subst (λ v. c.args.bytes ≡ edit_bytes (edits_of v.history) + edit_bytes commit.edits) (sym c.self.view_is) c.requires.bytes in
    let h = history_of inside.log inside.base.content inside.base_blobs inside.entries.items inside.blobs.blobs in
    let within : IsWithin edit_bytes h commit.edits = subst (λ v. IsWithin edit_bytes v.history commit.edits) (sym c.self.view_is) c.requires.within in
    let low : edit_bytes (edits_of h) + edit_bytes commit.edits ≤ MAX_EDIT_BYTES = within in
    let sound : IsSound (grown h (Committed commit)) = subst (λ v. IsSound (grown v.history (Committed commit))) (sym c.self.view_is) c.requires.sound in
    let threads = threads_sound h commit inside.keeps_threads c.self.invariant.threads sound in
    let fits : AllFit (content_of (history_of inside.log inside.base.content inside.base_blobs inside.entries.items inside.blobs.blobs)) commit.edits = subst (λ v. AllFit (content_of v.history) commit.edits) (sym c.self.view_is) c.requires.fits in
    let few : AreBlobsFew (blobs_of (history_of inside.log inside.base.content inside.base_blobs inside.entries.items inside.blobs.blobs) ++ commit.blobs) = subst (λ v. AreBlobsFew (blobs_of v.history ++ commit.blobs)) (sym c.self.view_is) c.requires.few in
    let grows = history_of-commit inside.log c.note_all_ready.new.log inside.base.content inside.content.content inside.entries.items c.push_reserved.new.self.items inside.blobs.blobs c.push_all_ready.new.blobs.blobs inside.base_blobs inside.edit_bytes inside.keeps_threads commit c.self.invariant log entries blobs in
    subst (λ h. IsAccountOf h c.apply_all_ready.new.content.content c.note_all_ready.new.log c.push_reserved.new.self.items c.push_all_ready.new.blobs.blobs inside.base_blobs c.args.bytes inside.keeps_threads) (sym grows)
    (IsAccountOf-commit (history_of inside.log inside.base.content inside.base_blobs inside.entries.items inside.blobs.blobs) inside.content.content c.apply_all_ready.new.content.content inside.log c.note_all_ready.new.log inside.entries.items c.push_reserved.new.self.items inside.blobs.blobs c.push_all_ready.new.blobs.blobs inside.base_blobs inside.edit_bytes c.args.bytes inside.keeps_threads inside.keeps_threads commit
    c.self.invariant c.requires.formed fits content log entries blobs few (capped_within _ _ low bytes) threads)
