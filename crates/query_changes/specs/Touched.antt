-- Which records a change may move in a result list (RFC 8620, 5.6; RFC 8621, 4.5).
use Rattle.std.specs.Prelude.{ℕ, Bool, ◌&&◌, ◌||◌, ◌==◌, List, ◌++◌, filter, map, Option}
use Rattle.std.specs.List.{list_any}
use Rattle.std.specs.Ordering.{nat_cmp}
use Rattle.jm_base.specs.declared.identifiers.Kind.TheVariants.{Email as OfEmails}
use Rattle.mail_records.specs.Contents.{Content, email_at}
use Rattle.mail_records.specs.Edits.{id_of, named_thread}
use Rattle.mail_records.specs.Histories.{History, content_of, edits_after}
use Rattle.mail_records.specs.States.{is_id, is_kind}
use Rattle.mail_records.specs.declared.edits.Edit.{Edit}
use Rattle.mail_records.specs.declared.records.Email.{Email}
use Rattle.method_args.specs.Arguments.{passes}
use Rattle.state_log.specs.Logs.{numbers_named}
use Rattle.query_engine.specs.Queries.{is_wide, numbers_of, sorted_by}
use Rattle.query_engine.specs.Views.{QueryTree}

-- the edit is of an email of this thread
abbrev pub names_thread : ℕ → Edit → Bool
names_thread thread e = passes (λ t. t == thread) (named_thread e)

-- there is an email, and some of the edits are of emails of its thread
abbrev pub shares_thread : List Edit → Option Email → Bool
shares_thread edits o = passes (λ e. list_any (names_thread e.thread) edits) o

-- the query is of emails, and another email of its thread may decide whether an email is shown, or
-- where
abbrev pub looks_at_threads : QueryTree → Bool
looks_at_threads q = is_kind q.kind OfEmails && is_wide q

-- Edits, after which the content is `now`, touch the record of a number: they name it, as a record
-- of the query's kind; or the query looks at threads, and they name the thread of this email.
abbrev pub touches : QueryTree → List Edit → Content → ℕ → Bool
touches q edits now n =
    list_any (is_id q.kind n) (map id_of edits)
    || (looks_at_threads q && shares_thread edits (email_at now n))

-- the numbers of all records that edits touch, in number order, each once: they are among those
-- that the edits name, and those of the records that are there
abbrev pub touched_by : QueryTree → List Edit → Content → List ℕ
touched_by q edits now =
    sorted_by nat_cmp
    (filter (touches q edits now)
    (numbers_named q.kind (map id_of edits) ++ numbers_of q.kind now))

-- the edits after a position touch the record of a number
abbrev pub is_touched : History → QueryTree → ℕ → ℕ → Bool
is_touched h q s n = touches q (edits_after h s) (content_of h) n

-- the numbers of the records that the edits after a position touch, in number order, each once
abbrev pub touched : History → QueryTree → ℕ → List ℕ
touched h q s = touched_by q (edits_after h s) (content_of h)
