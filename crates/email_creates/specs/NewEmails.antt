-- For private clauses: the thread that a new email joins, if it is that of one more email.
use Rattle.std.specs.Prelude.{ℕ, ◌&&◌, Option, Some, None, bytes_eq, if◌then◌else◌}
use Rattle.mail_records.specs.declared.records.Summary.{Summary}
use Rattle.thread_assign.specs.Threads.{share_link}

-- the thread of an email with the second summary, if a new email with the first one joins it
abbrev pub thread_if_related : Summary → ℕ → Summary → Option ℕ
thread_if_related new thread summary =
    if share_link new.links summary.links && bytes_eq summary.subject new.subject
    then Some thread else None
