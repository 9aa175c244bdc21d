use Rattle.std.proofs.Common.{◌≡◌, suc, sym, ap, ◌∙◌, subst}
use Rattle.mail_counts.specs.Touched.{is_one_of}
use Rattle.mailbox_updates.specs.Views.{Shows}
use Rattle.mailbox_updates.specs.declared.current.Current.{Current}
use Rattle.mailbox_updates.proofs.Updating.{shows_counted}
use Rattle.mailbox_updates.proofs.current.put_new.Goals as goal

pub returns-clause-shows : goal.returns-clause-shows
returns-clause-shows c =
    λ d was counts shows out.
    let p : Current = c.args.current.now in
    let is : c.count_new.new.current ≡ record p { count = suc p.count } = c.in_ok-count_new.ensures in
    c.in_ok-put_mailbox.ensures.shows d was counts (subst (λ (x : Current). Shows x d) (sym is) (shows_counted p (suc p.count) d shows))
    (ap (λ (x : Current). is_one_of x.destroyed.items c.args.item.number) is ∙ out)

pub returns-clause-destroyed : goal.returns-clause-destroyed
returns-clause-destroyed c = c.in_ok-put_mailbox.ensures.destroyed ∙ ap (λ (x : Current). x.destroyed.items) c.in_ok-count_new.ensures

pub returns-clause-edits : goal.returns-clause-edits
returns-clause-edits c = c.in_ok-put_mailbox.ensures.edits ∙ ap (λ (x : Current). x.edits.items) c.in_ok-count_new.ensures

pub returns-clause-reported : goal.returns-clause-reported
returns-clause-reported c = c.in_ok-put_mailbox.ensures.reported ∙ ap (λ (x : Current). x.reported) c.in_ok-count_new.ensures

pub returns-clause-count : goal.returns-clause-count
returns-clause-count c = c.in_ok-put_mailbox.ensures.count ∙ ap (λ (x : Current). x.count) c.in_ok-count_new.ensures
