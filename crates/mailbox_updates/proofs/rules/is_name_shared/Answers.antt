use Rattle.std.proofs.Common.{◌≡◌, ◌==◌, true, false, not, ◌&&◌, ◌||◌, sym, ap, ◌∙◌}
use Rattle.std.specs.List.{list_any}
use Rattle.mail_records.specs.declared.records.Mailbox.{Mailbox}
use Rattle.mail_counts.specs.Tidy.{is_sibling}
use Rattle.mail_counts.proofs.Lookups.{siblings_found}
use Rattle.mailbox_updates.specs.PresentMailboxes.{is_untouched}
use Rattle.mailbox_updates.specs.Updates.{is_another}
use Rattle.mailbox_updates.proofs.Breaking.{and_assoc, any_same}
use Rattle.mailbox_updates.proofs.Present.{any_present}
use Rattle.mailbox_updates.proofs.rules.is_name_shared.Goals as goal

pub returns-then-has_changed_sibling : goal.returns-then-has_changed_sibling
returns-then-has_changed_sibling c =
    λ d shows.
    let p = c.args.current.now in
    let m = c.args.mailbox.now in
    let test = λ (n : Mailbox). is_another m n && is_sibling m.parent m.name n in
    let old = λ (n : Mailbox). is_untouched p.changed.rows p.destroyed.items n.number && test n in
    let all = any_present d.mailboxes p.changed.rows p.content.now.content.mailboxes p.destroyed.items shows.found test shows.table shows.changed shows.base in
    let here : list_any test p.changed.rows ≡ true = sym (ap (list_any test) c.as_slice.ensures.rows) ∙ (sym c.has_changed_sibling.ensures ∙ c.if-has_changed_sibling.true) in
    sym (all ∙ ap (λ b. b || list_any old p.content.now.content.mailboxes) here)

pub returns : goal.returns
returns c =
    λ d shows.
    let p = c.args.current.now in
    let m = c.args.mailbox.now in
    let base = p.content.now.content in
    let test = λ (n : Mailbox). is_another m n && is_sibling m.parent m.name n in
    let old = λ (n : Mailbox). is_untouched p.changed.rows p.destroyed.items n.number && test n in
    let all = any_present d.mailboxes p.changed.rows base.mailboxes p.destroyed.items shows.found test shows.table shows.changed shows.base in
    let none : list_any test p.changed.rows ≡ false = sym (ap (list_any test) c.as_slice.ensures.rows) ∙ (sym c.has_changed_sibling.ensures ∙ c.if-has_changed_sibling.false) in
    c.has_untouched_sibling.ensures
    ∙ (siblings_found (λ k. is_untouched p.changed.rows p.destroyed.items k && not (k == m.number)) base m.parent m.name c.find_children_named-siblings.result.now (rw c.as_bytes.ensures.value at c.find_children_named-siblings.ensures) shows.base
    ∙ (any_same (λ (n : Mailbox). (is_untouched p.changed.rows p.destroyed.items n.number && not (n.number == m.number)) && is_sibling m.parent m.name n) old base.mailboxes
    (λ (n : Mailbox). and_assoc (is_untouched p.changed.rows p.destroyed.items n.number) (not (n.number == m.number)) (is_sibling m.parent m.name n))
    ∙ sym (all ∙ ap (λ b. b || list_any old base.mailboxes) none)))
