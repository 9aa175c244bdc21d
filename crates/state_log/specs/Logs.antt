-- What a log keeps of each edit, and what it shows of states.
use Rattle.std.specs.Prelude.{◌≡◌, ℕ, ◌+◌, ◌-◌, ◌<◌, ◌^◌, Bool, false, true, List, [], ◌∷◌, length, map, take, if◌then◌else◌, Option, Some, None, is_some}
use Rattle.std.specs.List.{AllByRecursion}
use Rattle.jm_base.specs.declared.identifiers.Id.{Id}
use Rattle.jm_base.specs.declared.identifiers.Kind.{Kind}
use Rattle.jm_base.specs.declared.identifiers.Kind.TheVariants.{Mailbox as OfMailbox, Email as OfEmail, Thread as OfThread}
use Rattle.mail_records.specs.Edits.{id_of, named_thread}
use Rattle.mail_records.specs.Histories.{History, Floors, FloorsAtMost, edits_of}
use Rattle.mail_records.specs.States.{is_id, is_kind, last_place, placed_above}
use Rattle.mail_records.specs.declared.edits.Edit.{Edit}
use Rattle.mail_records.specs.declared.edits.Edit.TheVariants.{PutMailbox, PutEmail, PutThread}
use Rattle.state_log.specs.Positions.{Places, positions_of}
use Rattle.state_log.specs.declared.notes.Note.{Note}

-- a log: where it begins, a note of each edit since, and for how many more there is room
pub record Notes : Type 0 where
  pub floor : ℕ
  pub floors : Floors
  pub notes : List Note
  pub spare : ℕ

-- the edit puts a record
abbrev pub is_put : Edit → Bool
is_put (PutMailbox item was counts) = true
is_put (PutEmail item was) = true
is_put (PutThread item was) = true
is_put _ = false

-- the record was there before the edit, as it is before a drop
abbrev pub was_there : Edit → Bool
was_there (PutMailbox item was counts) = was
was_there (PutEmail item was) = was
was_there (PutThread item was) = was
was_there _ = true

-- the edit changes only the counts of a mailbox
abbrev pub changes_counts : Edit → Bool
changes_counts (PutMailbox item was counts) = counts
changes_counts _ = false

-- what a log keeps of an edit
abbrev pub note_of : Edit → Note
note_of e = record {
  kind = (id_of e).kind;
  number = (id_of e).number;
  thread = named_thread e;
  put = is_put e;
  was = was_there e;
  counts = changes_counts e;
}

-- the record that the edit of a note names
abbrev pub note_id : Note → Id
note_id n = record { kind = n.kind; number = n.number }

-- the records that the edits of notes name, in order
abbrev pub ids_in : List Note → List Id
ids_in notes = map note_id notes

-- the last position of a log
abbrev pub log_end : Notes → ℕ
log_end l = l.floor + length l.notes

-- the position of the last edit before the one at a position, whose note this is, that names the
-- same record, or 0 where none after the floor does
abbrev pub edit_before : Notes → Note → ℕ → ℕ
edit_before l n position =
    placed_above l.floor 0
    (last_place (is_id n.kind n.number) (take (position - l.floor - 1) (ids_in l.notes)))

-- the log is that of a history: it begins at the same floor, and has a note of each of its edits
pub record IsLogOf (h : History) (l : Notes) : Type 0 where
  pub floor : l.floor ≡ h.floor
  pub floors : l.floors ≡ h.floors
  pub notes : l.notes ≡ map note_of (edits_of h)

-- a thread, if there is one, and these
abbrev pub with_thread : Option ℕ → List ℕ → List ℕ
with_thread None threads = threads
with_thread (Some thread) threads = thread ∷ threads

-- the threads that notes name, each time that they do
abbrev pub threads_named : List Note → List ℕ
threads_named [] = []
threads_named (n ∷ ns) = with_thread n.thread (threads_named ns)

-- the note names a thread if and only if its record is an email
abbrev pub HasThread : Note → Type 0
HasThread n = is_some n.thread ≡ is_kind OfEmail n.kind

-- what the fields of a log keep: its last position is of 64 bits, each kind's floor position is at
-- most the floor, and the positions of each kind and the threads of emails are those of its notes
pub record Keeps (floor : ℕ) (floors : Floors) (notes : List Note) (places : Places)
    : Type 0 where
  pub short : floor + length notes < 2 ^ 64
  pub low : FloorsAtMost floors floor
  pub mailbox : places.mailbox ≡ positions_of OfMailbox floor (ids_in notes)
  pub email : places.email ≡ positions_of OfEmail floor (ids_in notes)
  pub thread : places.thread ≡ positions_of OfThread floor (ids_in notes)
  pub email_threads : places.email_threads ≡ threads_named notes
  pub named : AllByRecursion HasThread notes

-- the numbers of a kind among ids, in order
abbrev pub numbers_named : Kind → List Id → List ℕ
numbers_named kind [] = []
numbers_named kind (i ∷ is) =
    if is_kind kind i.kind then i.number ∷ numbers_named kind is else numbers_named kind is
