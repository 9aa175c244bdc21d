use Rattle.std.proofs.Common.{None, is_some, refl, sym, subst, ◌∙◌, arith}
use Rattle.mail_counts.specs.Tidy.{is_sibling}
use Rattle.mail_records.specs.Contents.{mailbox_at, mailbox_number}
use Rattle.mail_records.specs.Tables.{IsTable}
use Rattle.mailbox_creates.specs.Views.{has_role}
use Rattle.mailbox_creates.proofs.Following.{found_first}
use Rattle.mailbox_creates.proofs.NewNumbers.{none_created}
use Rattle.mailbox_creates.proofs.planner.start_planner.Goals as goal

pub returns-clause-follows : goal.returns-clause-follows
returns-clause-follows c =
    let content = c.args.content.now.content in
    let n = c.next-next.result in
    let first = content.next_mailbox in
    let table : IsTable mailbox_number content.mailboxes = subst (IsTable mailbox_number) c.mailboxes-in_order.ensures.items c.mailboxes-in_order.ensures.table in
    record {
      table = table;
      base = table;
      next = c.next-next.ensures;
      grown = let next = c.next-next.ensures in omega arith;
      found = λ k. found_first first n k (is_some (mailbox_at content k)) c.next-next.ensures;
      names = λ g t. c.new_set-names.ensures g t ∙ sym (none_created first n (is_sibling g t) content.mailboxes c.next-next.ensures);
      roles = λ t. c.new_set-roles.ensures None t ∙ sym (none_created first n (has_role t) content.mailboxes c.next-next.ensures);
      others = λ test. refl;
      creates = c.in_ok-creates.ensures content;
    }
