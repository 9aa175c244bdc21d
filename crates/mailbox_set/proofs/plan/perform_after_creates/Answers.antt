use Rattle.std.proofs.Common.{Bor, List, map, ℕ, sym, ap, ◌∙◌, subst}
use Rattle.mail_records.specs.Edits.{after_edits}
use Rattle.set_parts.specs.Arguments.{destroys_in, updates_in}
use Rattle.set_parts.specs.Views.{AreDestroyed, AreMade}
use Rattle.mailbox_set.specs.Sets.{removes_emails}
use Rattle.mailbox_updates.proofs.Showing.{if_more}
use Rattle.mailbox_set.proofs.Tracking.{steps_same}
use Rattle.mailbox_set.proofs.plan.perform_after_creates.Goals as goal

pub returns : goal.returns
returns c =
    if_more c.perform_steps.result _ _
    (λ x all p is content puts.
    let are : AreMade c.in_ok-created.created p.made = subst (AreMade c.in_ok-created.created) (sym is) c.in_ok-created.ensures in
    let gone = subst (λ (xs : List (Bor (List ℕ))). AreDestroyed c.in_ok-destroyed.destroyed p.made (map (λ (s : Bor (List ℕ)). s.now) xs)) (c.deref.ensures.value ∙ sym c.deref-2.ensures.value) (c.in_ok-destroyed.ensures p.made are.texts) in
    steps_same x p.made c.read_removes_emails-removes_emails.result (removes_emails c.args.members.now) (after_edits c.args.content.now.content c.args.creates.now) p.content _ (destroys_in c.args.members.now) _ (updates_in c.args.members.now)
    c.read_removes_emails-removes_emails.ensures (sym content) (ap (map (λ (s : Bor (List ℕ)). s.now)) c.deref-2.ensures.value ∙ c.in_ok-destroys.ensures) c.read_updates-updates.ensures
    (all p.made are gone puts))
    c.perform_steps.ensures
