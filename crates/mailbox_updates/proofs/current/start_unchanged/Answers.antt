use Rattle.std.proofs.Common.{◌≡◌, length, ℕ, List, [], sym, ap, ◌∙◌, subst, true≢false}
use Rattle.mail_counts.specs.Touched.{is_one_of}
use Rattle.mail_records.specs.Contents.{email_number, mailbox_number}
use Rattle.mail_records.specs.Tables.{IsTable}
use Rattle.mail_records.specs.declared.records.Mailbox.{Mailbox}
use Rattle.mailbox_updates.specs.EmailsLeft.{emails_left}
use Rattle.mailbox_updates.specs.PresentMailboxes.{present_at}
use Rattle.mailbox_updates.proofs.Showing.{emails_first}
use Rattle.mailbox_updates.proofs.current.start_unchanged.Goals as goal

pub returns-clause-tracks : goal.returns-clause-tracks
returns-clause-tracks c =
    let d = c.args.content.now.content in
    let table : IsTable mailbox_number d.mailboxes = subst (IsTable mailbox_number) c.mailboxes-mailboxes.ensures.items c.mailboxes-mailboxes.ensures.table in
    let emails : IsTable email_number d.emails = subst (IsTable email_number) c.emails-emails.ensures.items c.emails-emails.ensures.table in
    let rows : c.new.result.rows ≡ [] = c.new.ensures in
    let gone : c.new-2.result.items ≡ [] = c.new-2.ensures.items in
    record {
      shows = record {
        table = table;
        changed = subst (IsTable mailbox_number) (sym rows) tt;
        base = table;
        base_emails = emails;
        found = λ n. sym (ap (λ (ms : List Mailbox). present_at ms c.new-2.result.items d.mailboxes n) rows ∙ ap (λ (ns : List ℕ). present_at [] ns d.mailboxes n) gone);
        gone = λ n out. absurd (true≢false (sym out ∙ ap (λ (ns : List ℕ). is_one_of ns n) gone));
        emails = sym (ap (λ (ns : List ℕ). emails_left ns d.emails) gone ∙ emails_first d.emails);
      };
      edits = c.new-3.ensures.items;
      reported = c.start_report.ensures;
    }

pub returns-clause-count : goal.returns-clause-count
returns-clause-count c = ap length c.mailboxes-mailboxes.ensures.items
