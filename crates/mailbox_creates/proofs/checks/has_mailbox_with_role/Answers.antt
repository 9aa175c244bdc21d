use Rattle.std.proofs.Common.{◌||◌, not, sym, ap, ◌∙◌}
use Rattle.std.specs.List.{list_any}
use Rattle.mail_records.specs.declared.entries.Roled.{Roled}
use Rattle.mailbox_creates.specs.Views.{Follows, has_role, is_new, is_other}
use Rattle.set_parts.specs.Creates.{Creating}
use Rattle.mailbox_creates.proofs.NewNumbers.{any_parts}
use Rattle.mail_counts.proofs.Lookups.{roles_found}
use Rattle.mailbox_creates.proofs.checks.has_mailbox_with_role.Goals as goal

pub returns-then-has_text : goal.returns-then-has_text
returns-then-has_text c =
    λ (s : Creating) (f : Follows c.args.planner.now s).
    let base = c.args.planner.now.content.now.content in
    let n = c.args.planner.now.next in
    let test = has_role c.args.role.now in
    let rows = s.content.mailboxes in
    sym (any_parts base.next_mailbox n test rows
    ∙ ap (λ b. b || list_any (is_other base.next_mailbox n test) rows) (sym (f.roles c.args.role.now) ∙ (sym c.has_text.ensures ∙ c.if-has_text.true)))

pub returns : goal.returns
returns c =
    λ (s : Creating) (f : Follows c.args.planner.now s).
    let base = c.args.planner.now.content.now.content in
    let n = c.args.planner.now.next in
    let role = c.args.role.now in
    let test = has_role role in
    let rows = s.content.mailboxes in
    let found = c.with_role.result.now in
    c.has_other_role.ensures
    ∙ (ap (λ first. list_any (λ (x : Roled). not (is_new first n x.mailbox)) found) c.next-first.ensures
    ∙ (roles_found (λ k. not (is_new base.next_mailbox n k)) base role found (rw c.as_bytes.ensures.value at c.with_role.ensures) f.base
    ∙ (sym (f.others test)
    ∙ sym (any_parts base.next_mailbox n test rows
    ∙ ap (λ b. b || list_any (is_other base.next_mailbox n test) rows) (sym (f.roles role) ∙ (sym c.has_text.ensures ∙ c.if-has_text.false))))))
