-- For private clauses: what the notes of edits say of each record that they name.
use Rattle.std.specs.Prelude.{◌≡◌, ◌≢◌, ℕ, ◌+◌, ◌-◌, ◌≤◌, Bool, true, false, not, ◌&&◌, ◌||◌, if◌then◌else◌, List, [], ◌∷◌, length, take, filter, Option, Some, None}
use Rattle.std.specs.BTreeMap.{insert_entry, is_at}
use Rattle.std.specs.List.{list_all}
use Rattle.std.specs.Map.{keys_of, lookup}
use Rattle.std.specs.Ordering.{nat_cmp}
use Rattle.jm_base.specs.declared.identifiers.Kind.{Kind}
use Rattle.mail_records.specs.States.{is_kind}
use Rattle.state_log.specs.declared.notes.Note.{Note}
use Rattle.change_calls.specs.Changes.{is_some_there, is_within}
use Rattle.change_calls.specs.declared.page.ChangePage.{ChangePage}
use Rattle.change_calls.specs.declared.touched_records.Mark.{Mark}

-- the marks of records, by number
abbrev pub MarkTable : Type 0
MarkTable = List (ℕ × Mark)

-- a record's mark after one note more
abbrev pub mark_after : Option Mark → Note → Mark
mark_after None note = record { before = note.was; after = note.put; counts = note.counts }
mark_after (Some mark) note =
    record { before = mark.before; after = note.put; counts = mark.counts && note.counts }

-- the mark of a number
abbrev pub mark_of : ℕ → MarkTable → Option Mark
mark_of n marks = lookup (is_at (nat_cmp n)) marks

-- the marks after one note more
abbrev pub marks_after : Kind → MarkTable → Note → MarkTable
marks_after kind marks note =
    if is_kind kind note.kind
    then insert_entry nat_cmp marks note.number (mark_after (mark_of note.number marks) note)
    else marks

-- the marks after more notes
abbrev pub marks_with : Kind → MarkTable → List Note → MarkTable
marks_with kind marks [] = marks
marks_with kind marks (n ∷ ns) = marks_with kind (marks_after kind marks n) ns

-- the notes of the kind
abbrev pub notes_of : Kind → List Note → List Note
notes_of kind notes = filter (λ (n : Note). is_kind kind n.kind) notes

-- the position before this one, or the end
abbrev pub before_or_end : Option ℕ → ℕ → ℕ
before_or_end (Some position) end = position - 1
before_or_end None end = end

-- the marks of the first notes, as many as there may be
pub record IsWalk (kind : Kind) (max : Option ℕ) (notes : List Note) (taken : ℕ) (marks : MarkTable)
    : Type 0 where
  pub within : taken ≤ length notes
  pub marks_are : marks ≡ marks_with kind [] (take taken notes)
  pub few : is_within max (length marks) ≡ true
  pub most : taken ≢ length notes
      → is_within max (length (marks_with kind [] (take (taken + 1) notes))) ≡ false

-- the note's record is marked
pub record IsTaken (kind : Kind) (max : Option ℕ) (old : MarkTable) (note : Note) (new : MarkTable)
    : Type 0 where
  pub marks_are : new ≡ marks_after kind old note
  pub few : is_within max (length new) ≡ true

-- nothing is marked, since with the note's record there would be too many marks
pub record IsFull (kind : Kind) (max : Option ℕ) (old : MarkTable) (note : Note) (new : MarkTable)
    : Type 0 where
  pub same : new ≡ old
  pub most : is_within max (length (marks_after kind old note)) ≡ false

-- both are true, or both false
abbrev pub is_same : Bool → Bool → Bool
is_same true b = b
is_same false b = not b

-- the record was there before and is there after, or not
abbrev pub is_mark : Bool → Bool → Mark → Bool
is_mark before after mark = is_same mark.before before && is_same mark.after after

-- the numbers of these marks
abbrev pub numbers_marked : Bool → Bool → MarkTable → List ℕ
numbers_marked before after marks = keys_of (filter (λ e. is_mark before after e.1) marks)

-- each record that is there before and after was changed only in its counts
abbrev pub are_counts : MarkTable → Bool
are_counts marks = list_all (λ e. not (is_mark true true e.1) || e.1.counts) marks

-- the page that marks come to
abbrev pub page_with : MarkTable → ℕ → Bool → ChangePage
page_with marks new_state more = record {
  created = numbers_marked false true marks;
  updated = numbers_marked true true marks;
  destroyed = numbers_marked true false marks;
  new_state = new_state;
  more = more;
  counts_only = is_some_there (numbers_marked true true marks) && are_counts marks;
}
