use Rattle.std.proofs.Common.{◌≡◌, ◌==◌, Some, true, false, not, ◌&&◌, ◌||◌, sym, ap, ◌∙◌}
use Rattle.std.specs.List.{list_any}
use Rattle.mail_records.specs.declared.records.Mailbox.{Mailbox}
use Rattle.mail_counts.specs.Tidy.{same_role}
use Rattle.mail_counts.proofs.Lookups.{roles_found}
use Rattle.mailbox_updates.specs.PresentMailboxes.{is_untouched}
use Rattle.mailbox_updates.proofs.Breaking.{and_assoc, any_same}
use Rattle.mailbox_updates.proofs.Present.{any_present}
use Rattle.mailbox_updates.proofs.rules.is_role_used.Goals as goal

pub returns-then-has_changed_role : goal.returns-then-has_changed_role
returns-then-has_changed_role c =
    λ d shows.
    let p = c.args.current.now in
    let test = λ (n : Mailbox). not (n.number == c.args.number) && same_role n.role (Some c.args.role.now) in
    let old = λ (n : Mailbox). is_untouched p.changed.rows p.destroyed.items n.number && test n in
    let all = any_present d.mailboxes p.changed.rows p.content.now.content.mailboxes p.destroyed.items shows.found test shows.table shows.changed shows.base in
    let here : list_any test p.changed.rows ≡ true = sym (ap (list_any test) c.as_slice.ensures.rows) ∙ (sym c.has_changed_role.ensures ∙ c.if-has_changed_role.true) in
    sym (all ∙ ap (λ b. b || list_any old p.content.now.content.mailboxes) here)

pub returns : goal.returns
returns c =
    λ d shows.
    let p = c.args.current.now in
    let role = c.args.role.now in
    let base = p.content.now.content in
    let test = λ (n : Mailbox). not (n.number == c.args.number) && same_role n.role (Some role) in
    let old = λ (n : Mailbox). is_untouched p.changed.rows p.destroyed.items n.number && test n in
    let all = any_present d.mailboxes p.changed.rows base.mailboxes p.destroyed.items shows.found test shows.table shows.changed shows.base in
    let none : list_any test p.changed.rows ≡ false = sym (ap (list_any test) c.as_slice.ensures.rows) ∙ (sym c.has_changed_role.ensures ∙ c.if-has_changed_role.false) in
    c.has_untouched_role.ensures
    ∙ (roles_found (λ k. is_untouched p.changed.rows p.destroyed.items k && not (k == c.args.number)) base role c.with_role.result.now (rw c.as_bytes.ensures.value at c.with_role.ensures) shows.base
    ∙ (any_same (λ (n : Mailbox). (is_untouched p.changed.rows p.destroyed.items n.number && not (n.number == c.args.number)) && same_role n.role (Some role)) old base.mailboxes
    (λ (n : Mailbox). and_assoc (is_untouched p.changed.rows p.destroyed.items n.number) (not (n.number == c.args.number)) (same_role n.role (Some role)))
    ∙ sym (all ∙ ap (λ b. b || list_any old base.mailboxes) none)))
