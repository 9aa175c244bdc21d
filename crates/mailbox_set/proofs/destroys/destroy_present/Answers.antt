use Rattle.std.proofs.Common.{◌≡◌, ◌++◌, List, refl, sym, ap, ◌∙◌, filter, map}
use Rattle.std.specs.List.{flat_map}
use Rattle.mail_records.specs.Contents.{email_at, email_number}
use Rattle.mail_records.specs.declared.edits.Edit.{Edit}
use Rattle.mail_counts.specs.Counts.{is_in}
use Rattle.mailbox_set.specs.Destroys.{removal, removal_at}
use Rattle.mailbox_updates.specs.declared.current.Current.{Current}
use Rattle.set_parts.proofs.Parts.{on_ok}
use Rattle.mailbox_set.proofs.EmailsLeft.{removals_found}
use Rattle.mailbox_set.proofs.Tracking.{emails_table, stays, tracks_destroyed}
use Rattle.mailbox_set.proofs.destroys.destroy_present.Goals as goal

pub returns : goal.returns
returns c =
    on_ok c.drop_mailbox.result _ _
    (λ drops s tracks there.
    let p : Current = c.args.current.now in
    let q : Current = record p { edits = c.remove_emails.new.edits } in
    let n = c.args.number in
    let base = p.content.now.content in
    let out = stays p s.content n tracks.shows there in
    let gone : c.deref.result.now ≡ p.destroyed.items = c.deref.ensures.value in
    let edits : q.edits.items ≡ p.edits.items ++ map (removal n) (filter (is_in n) s.content.emails) =
    c.in_ok-remove_emails.ensures
    ∙ (ap (λ ns. p.edits.items ++ flat_map (λ k. removal_at ns n (email_at base k)) (map email_number (filter (is_in n) base.emails))) gone
    ∙ (ap (λ (es : List Edit). p.edits.items ++ es) (removals_found p.destroyed.items n base.emails tracks.shows.base_emails out)
    ∙ ap (λ es. p.edits.items ++ map (removal n) (filter (is_in n) es)) (sym tracks.shows.emails))) in
    tracks_destroyed p q c.drop_mailbox.new.current s n refl refl refl refl edits (emails_table p s.content tracks.shows) drops tracks)
    c.drop_mailbox.ensures
