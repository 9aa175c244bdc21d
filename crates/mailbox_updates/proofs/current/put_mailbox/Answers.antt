use Rattle.std.proofs.Common.{refl, ap, ◌∙◌}
use Rattle.mail_records.specs.Contents.{mailbox_number}
use Rattle.mail_records.specs.Tables.{put}
use Rattle.mailbox_updates.specs.declared.current.Current.{Current}
use Rattle.mailbox_updates.proofs.Showing.{shows_put}
use Rattle.mailbox_updates.proofs.current.put_mailbox.Goals as goal

pub returns-clause-shows : goal.returns-clause-shows
returns-clause-shows c =
    λ d was counts shows out.
    let p : Current = c.args.current.now in
    shows_put p (record p { changed = c.put_ready.new.self }) d c.args.item was counts refl
    (c.put_ready.ensures.rows ∙ ap (put mailbox_number c.args.item) c.in_ok-reserve.ensures.rows) refl out shows
