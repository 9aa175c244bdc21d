use Rattle.std.proofs.Common.{subst, ◌∙◌}
use Rattle.mail_counts.specs.Counts.{has_keyword}
use Rattle.mail_records.specs.Contents.{email_number}
use Rattle.mail_records.specs.Tables.{IsTable}
use Rattle.filter_terms.proofs.ThreadEntries.{all_entries}
use Rattle.filter_terms.proofs.emails.has_all_in_thread.Goals as goal

pub returns : goal.returns
returns c =
    c.has_keyword_in_each_entry.ensures
    ∙ all_entries c.args.content.now.content c.args.thread c.find_in_thread.result.now (subst (IsTable email_number) c.emails-emails.ensures.items c.emails-emails.ensures.table) c.find_in_thread.ensures (λ e. has_keyword c.args.keyword.now e)
