use Rattle.std.proofs.Common.{◌≡◌, true, false, List, [], ◌∷◌, ◌++◌, ap, ap₂, sym, ◌∙◌}
use Rattle.mail_counts.specs.Touched.{is_one_of}
use Rattle.mail_records.specs.declared.edits.Edit.{Edit}
use Rattle.mail_records.specs.declared.edits.Edit.TheVariants.{PutMailbox}
use Rattle.mail_records.specs.declared.records.Mailbox.{Mailbox}
use Rattle.mailbox_updates.specs.declared.current.Current.{Current}
use Rattle.mailbox_updates.proofs.Breaking.{length_old}
use Rattle.mailbox_updates.proofs.Updating.{shows_edits}
use Rattle.mailbox_updates.proofs.updates.put_updated.Goals as goal

pub returns : goal.returns
returns c =
    λ s up there.
    let p : Current = c.args.current.now in
    let free : is_one_of p.destroyed.items c.args.item.number ≡ false = ap (λ ns. is_one_of ns c.args.item.number) up.fresh in
    record {
      tracks = record {
        shows = c.in_ok-put_mailbox.ensures.shows s.content true false (shows_edits p c.push.new.self s.content up.tracks.shows) free;
        edits =
            c.in_ok-put_mailbox.ensures.edits
            ∙ (c.in_ok-push.ensures.items ∙ ap₂ (λ (es : List Edit) (m : Mailbox). es ++ PutMailbox m true false ∷ []) up.tracks.edits c.in_ok-copy.ensures);
        reported = c.in_ok-put_mailbox.ensures.reported ∙ up.tracks.reported;
      };
      count = c.in_ok-put_mailbox.ensures.count ∙ (up.count ∙ sym (length_old c.args.item s.content.mailboxes up.tracks.shows.table there));
      fresh = c.in_ok-put_mailbox.ensures.destroyed ∙ up.fresh;
    }
