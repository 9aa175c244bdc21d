use Rattle.std.proofs.Common.{◌≡◌, true, false, Some, ◌&&◌, ◌||◌, sym, ap, ◌∙◌}
use Rattle.std.specs.List.{list_any}
use Rattle.mail_records.specs.declared.records.Mailbox.{Mailbox}
use Rattle.mail_counts.specs.Tidy.{same_parent}
use Rattle.mailbox_updates.specs.PresentMailboxes.{is_untouched}
use Rattle.mailbox_set.proofs.Ordered.{children_found}
use Rattle.mailbox_updates.proofs.Present.{any_present}
use Rattle.mailbox_set.proofs.destroys.has_child.Goals as goal

pub returns-then-has_changed_child : goal.returns-then-has_changed_child
returns-then-has_changed_child c =
    λ d shows.
    let p = c.args.current.now in
    let n = c.args.number in
    let child = λ (m : Mailbox). same_parent m.parent (Some n) in
    let old = λ (m : Mailbox). is_untouched p.changed.rows p.destroyed.items m.number && child m in
    let all = any_present d.mailboxes p.changed.rows p.content.now.content.mailboxes p.destroyed.items shows.found child shows.table shows.changed shows.base in
    let here : list_any child p.changed.rows ≡ true = sym (ap (list_any child) c.as_slice.ensures.rows) ∙ (sym c.has_changed_child.ensures ∙ c.if-has_changed_child.true) in
    sym (all ∙ ap (λ b. b || list_any old p.content.now.content.mailboxes) here)

pub returns : goal.returns
returns c =
    λ d shows.
    let p = c.args.current.now in
    let n = c.args.number in
    let child = λ (m : Mailbox). same_parent m.parent (Some n) in
    let old = λ (m : Mailbox). is_untouched p.changed.rows p.destroyed.items m.number && child m in
    let all = any_present d.mailboxes p.changed.rows p.content.now.content.mailboxes p.destroyed.items shows.found child shows.table shows.changed shows.base in
    let none : list_any child p.changed.rows ≡ false = sym (ap (list_any child) c.as_slice.ensures.rows) ∙ (sym c.has_changed_child.ensures ∙ c.if-has_changed_child.false) in
    c.has_untouched.ensures
    ∙ (children_found (λ k. is_untouched p.changed.rows p.destroyed.items k) p.content.now.content (Some n) c.children.result.now c.children.ensures shows.base
    ∙ sym (all ∙ ap (λ b. b || list_any old p.content.now.content.mailboxes) none))
