-- For private clauses: what the notes of edits touch.
use Rattle.std.specs.Prelude.{ℕ, Bool, ◌&&◌, ◌||◌, List}
use Rattle.std.specs.List.{list_any}
use Rattle.jm_base.specs.Splices.{has}
use Rattle.mail_records.specs.Contents.{Content, email_at}
use Rattle.mail_records.specs.States.{is_id}
use Rattle.method_args.specs.Arguments.{passes}
use Rattle.state_log.specs.Logs.{ids_in, threads_named}
use Rattle.state_log.specs.declared.notes.Note.{Note}
use Rattle.query_engine.specs.Views.{QueryTree}
use Rattle.query_changes.specs.Touched.{looks_at_threads}

-- there is an email of this number, in one of these threads
abbrev pub is_in_threads : List ℕ → Content → ℕ → Bool
is_in_threads threads c n = passes (λ e. has threads e.thread) (email_at c n)

-- notes touch the record of a number, as the edits that they are of do
abbrev pub notes_touch : QueryTree → List Note → Content → ℕ → Bool
notes_touch q notes now n =
    list_any (is_id q.kind n) (ids_in notes)
    || (looks_at_threads q && is_in_threads (threads_named notes) now n)
