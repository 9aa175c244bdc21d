use Rattle.std.proofs.Common.{◌≡◌, Some, None, option_map, sym, ap, ◌∙◌}
use Rattle.jm_base.specs.declared.identifiers.Kind.TheVariants.{Email as OfEmail}
use Rattle.mail_records.specs.Contents.{email_at}
use Rattle.mail_counts.specs.Overlay.{last_edit}
use Rattle.mail_counts.proofs.Laid.{found_is, email_found, email_kept}
use Rattle.mail_counts.proofs.overlay.Overlaid.email.Goals as goal

pub returns-in-Some : goal.returns-in-Some
returns-in-Some c =
    let o = c.self.inside in
    let n = c.args.number in
    let last : last_edit OfEmail n o.edits.now ≡ Some c.in-Some.edit.now.now =
    sym (c.self.invariant.1 n) ∙ (ap (λ x. option_map (λ r. r.now) x) (sym c.get.ensures.value) ∙ ap (λ x. option_map (λ r. r.now) (option_map (λ r. r.now) x)) c.in-Some.is) in
    c.find_put_email.ensures ∙ (email_found o.edits.now o.content.now.content n c.in-Some.edit.now.now last ∙ ap (λ x. email_at x n) c.self.view_is)

pub returns-in-None : goal.returns-in-None
returns-in-None c =
    let o = c.self.inside in
    let n = c.args.number in
    let last : last_edit OfEmail n o.edits.now ≡ None =
    sym (c.self.invariant.1 n) ∙ (ap (λ x. option_map (λ r. r.now) x) (sym c.get.ensures.value) ∙ ap (λ x. option_map (λ r. r.now) (option_map (λ r. r.now) x)) c.in-None.is) in
    found_is c.email.result (email_at o.content.now.content n) c.email.ensures ∙ (email_kept o.edits.now o.content.now.content n last ∙ ap (λ x. email_at x n) c.self.view_is)
