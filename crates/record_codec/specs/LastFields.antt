-- The last fields of records, which are read by functions of their own.
use Rattle.std.specs.Prelude.{ℕ, Bool, List, Option}
use Rattle.jm_base.specs.declared.identifiers.UtcDate.{UtcDate}
use Rattle.mail_records.specs.declared.records.Summary.{Summary}
use Rattle.record_codec.specs.Reading.{Read, both}
use Rattle.record_codec.specs.Readers.{counts_at, date_at, number_at, optional_at, rising_texts_at, summary_at, text_at, truth_at}
use Rattle.record_codec.specs.declared.read_records.Counts.{Counts}
use Rattle.record_codec.specs.declared.read_records.EmailEnd.{EmailEnd}
use Rattle.record_codec.specs.declared.read_records.MailboxEnd.{MailboxEnd}
use Rattle.record_codec.specs.declared.read_records.SummaryEnd.{SummaryEnd}

-- of a summary, after its author
abbrev pub end_of_summary : SummaryEnd → List ℕ × (Option UtcDate × Bool)
end_of_summary e = (e.to, (e.sent, e.attachment))

abbrev pub summary_end_at : List ℕ → Read (List ℕ × (Option UtcDate × Bool))
summary_end_at = both text_at (both (optional_at date_at) truth_at)

-- of a mailbox, after its parent
abbrev pub numbers_of_counts : Counts → ℕ × (ℕ × (ℕ × ℕ))
numbers_of_counts c = (c.total_emails, (c.unread_emails, (c.total_threads, c.unread_threads)))

abbrev pub end_of_mailbox : MailboxEnd
    → Option (List ℕ) × (ℕ × (Bool × (ℕ × (ℕ × (ℕ × ℕ)))))
end_of_mailbox e = (e.role, (e.sort_order, (e.subscribed, numbers_of_counts e.counts)))

abbrev pub mailbox_end_at : List ℕ
    → Read (Option (List ℕ) × (ℕ × (Bool × (ℕ × (ℕ × (ℕ × ℕ))))))
mailbox_end_at = both (optional_at text_at) (both number_at (both truth_at counts_at))

-- of an email, after its mailboxes
abbrev pub end_of_email : EmailEnd → List (List ℕ) × (ℕ × (UtcDate × Summary))
end_of_email e = (e.keywords, (e.size, (e.received, e.summary)))

abbrev pub email_end_at : List ℕ → Read (List (List ℕ) × (ℕ × (UtcDate × Summary)))
email_end_at = both rising_texts_at (both number_at (both date_at summary_at))
