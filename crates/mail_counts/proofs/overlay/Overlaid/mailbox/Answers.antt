use Rattle.std.proofs.Common.{◌≡◌, Some, None, option_map, sym, ap, ◌∙◌}
use Rattle.jm_base.specs.declared.identifiers.Kind.TheVariants.{Mailbox as OfMailbox}
use Rattle.mail_records.specs.Contents.{mailbox_at}
use Rattle.mail_counts.specs.Overlay.{last_edit}
use Rattle.mail_counts.proofs.Laid.{found_is, mailbox_found, mailbox_kept}
use Rattle.mail_counts.proofs.overlay.Overlaid.mailbox.Goals as goal

pub returns-in-Some : goal.returns-in-Some
returns-in-Some c =
    let o = c.self.inside in
    let n = c.args.number in
    let last : last_edit OfMailbox n o.edits.now ≡ Some c.in-Some.edit.now.now =
    sym (c.self.invariant.0 n) ∙ (ap (λ x. option_map (λ r. r.now) x) (sym c.get.ensures.value) ∙ ap (λ x. option_map (λ r. r.now) (option_map (λ r. r.now) x)) c.in-Some.is) in
    c.find_put_mailbox.ensures ∙ (mailbox_found o.edits.now o.content.now.content n c.in-Some.edit.now.now last ∙ ap (λ x. mailbox_at x n) c.self.view_is)

pub returns-in-None : goal.returns-in-None
returns-in-None c =
    let o = c.self.inside in
    let n = c.args.number in
    let last : last_edit OfMailbox n o.edits.now ≡ None =
    sym (c.self.invariant.0 n) ∙ (ap (λ x. option_map (λ r. r.now) x) (sym c.get.ensures.value) ∙ ap (λ x. option_map (λ r. r.now) (option_map (λ r. r.now) x)) c.in-None.is) in
    found_is c.mailbox.result (mailbox_at o.content.now.content n) c.mailbox.ensures ∙ (mailbox_kept o.edits.now o.content.now.content n last ∙ ap (λ x. mailbox_at x n) c.self.view_is)
