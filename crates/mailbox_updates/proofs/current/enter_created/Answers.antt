use Rattle.std.proofs.Common.{◌≡◌, Bool, false, sym, ap, ◌∙◌, subst}
use Rattle.mail_counts.specs.Touched.{is_one_of}
use Rattle.mail_records.specs.Edits.{after_edit}
use Rattle.mail_records.specs.declared.edits.Edit.{Edit}
use Rattle.mail_records.specs.declared.edits.Edit.TheVariants.{PutMailbox}
use Rattle.mail_records.specs.declared.records.Mailbox.{Mailbox}
use Rattle.mailbox_updates.specs.UpdateViews.{Counts}
use Rattle.mailbox_updates.specs.Views.{Shows}
use Rattle.set_parts.proofs.Parts.{on_ok}
use Rattle.mailbox_updates.proofs.current.enter_created.Goals as goal

pub returns-in_ok-copy-in-PutMailbox-clause-shows : goal.returns-in_ok-copy-in-PutMailbox-clause-shows
returns-in_ok-copy-in-PutMailbox-clause-shows c =
    on_ok c.put_created.result _ _
    (λ all d puts shows none.
    let was : Bool = c.in-PutMailbox.was in
    let counts : Bool = c.in-PutMailbox.counts in
    let free : is_one_of c.args.current.now.destroyed.items c.in_ok-copy-in-PutMailbox.field-0.number ≡ false = ap (λ ns. is_one_of ns c.in_ok-copy-in-PutMailbox.field-0.number) none in
    let same : PutMailbox c.in_ok-copy-in-PutMailbox.field-0 was counts ≡ c.args.edit.now = ap (λ (m : Mailbox). PutMailbox m was counts) c.in_ok-copy-in-PutMailbox.ensures ∙ sym c.in-PutMailbox.is in
    subst (λ (e : Edit). Shows c.put_created.new.current (after_edit d e)) same (all d was counts shows free))
    c.put_created.ensures.shows

pub returns-in_ok-copy-in-PutMailbox-clause-count : goal.returns-in_ok-copy-in-PutMailbox-clause-count
returns-in_ok-copy-in-PutMailbox-clause-count c =
    on_ok c.put_created.result _ _
    (λ all d puts shows counted.
    let was : Bool = c.in-PutMailbox.was in
    let counts : Bool = c.in-PutMailbox.counts in
    let same : PutMailbox c.in_ok-copy-in-PutMailbox.field-0 was counts ≡ c.args.edit.now = ap (λ (m : Mailbox). PutMailbox m was counts) c.in_ok-copy-in-PutMailbox.ensures ∙ sym c.in-PutMailbox.is in
    subst (λ (e : Edit). Counts c.put_created.new.current (after_edit d e)) same (all d was counts shows counted))
    c.put_created.ensures.count
