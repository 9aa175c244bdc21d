use Rattle.std.proofs.Common.{◌||◌, not, sym, ap, ◌∙◌}
use Rattle.std.specs.List.{list_any}
use Rattle.mail_counts.specs.Tidy.{is_sibling}
use Rattle.mail_records.specs.declared.entries.Named.{Named}
use Rattle.mailbox_creates.specs.Views.{Follows, is_new, is_other}
use Rattle.set_parts.specs.Creates.{Creating}
use Rattle.mailbox_creates.proofs.NewNumbers.{any_parts}
use Rattle.mail_counts.proofs.Lookups.{siblings_found}
use Rattle.mailbox_creates.proofs.checks.has_sibling_named.Goals as goal

pub returns-then-has_text : goal.returns-then-has_text
returns-then-has_text c =
    λ (s : Creating) (f : Follows c.args.planner.now s).
    let base = c.args.planner.now.content.now.content in
    let n = c.args.planner.now.next in
    let test = is_sibling c.args.parent c.args.name.now in
    let rows = s.content.mailboxes in
    sym (any_parts base.next_mailbox n test rows
    ∙ ap (λ b. b || list_any (is_other base.next_mailbox n test) rows) (sym (f.names c.args.parent c.args.name.now) ∙ (sym c.has_text.ensures ∙ c.if-has_text.true)))

pub returns : goal.returns
returns c =
    λ (s : Creating) (f : Follows c.args.planner.now s).
    let base = c.args.planner.now.content.now.content in
    let n = c.args.planner.now.next in
    let name = c.args.name.now in
    let test = is_sibling c.args.parent name in
    let rows = s.content.mailboxes in
    let siblings = c.find_children_named-siblings.result.now in
    c.has_other_sibling.ensures
    ∙ (ap (λ first. list_any (λ (x : Named). not (is_new first n x.mailbox)) siblings) c.next-first.ensures
    ∙ (siblings_found (λ k. not (is_new base.next_mailbox n k)) base c.args.parent name siblings (rw c.as_bytes.ensures.value at c.find_children_named-siblings.ensures) f.base
    ∙ (sym (f.others test)
    ∙ sym (any_parts base.next_mailbox n test rows
    ∙ ap (λ b. b || list_any (is_other base.next_mailbox n test) rows) (sym (f.names c.args.parent name) ∙ (sym c.has_text.ensures ∙ c.if-has_text.false))))))
