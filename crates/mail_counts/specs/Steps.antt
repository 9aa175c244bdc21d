-- The edits that follow from others, as they are found from sorted members.
use Rattle.std.specs.Prelude.{ℕ, List, map}
use Rattle.mail_records.specs.Contents.{Content, thread_at}
use Rattle.mail_records.specs.declared.records.Mailbox.{Mailbox}
use Rattle.mail_records.specs.declared.edits.Edit.{Edit}
use Rattle.mail_counts.specs.declared.members.Member.{Member}
use Rattle.mail_counts.specs.DerivedEdits.{edits_of_thread, counts_after, own_counts, put_counts}
use Rattle.mail_counts.specs.Members.{Tallied, member_number, of_group, tallied_counts}

-- the edits of a thread whose emails are those of its group
abbrev pub listed_edits : Content → List Member → ℕ → List Edit
listed_edits c members t =
    edits_of_thread t (map member_number (of_group t members)) (thread_at c t)

-- the put of a mailbox whose counts change, by its groups before and after
abbrev pub counted_edits : Tallied → Tallied → Mailbox → List Edit
counted_edits were are m =
    put_counts
    (counts_after (own_counts m) (tallied_counts are m.number) (tallied_counts were m.number))
    m
