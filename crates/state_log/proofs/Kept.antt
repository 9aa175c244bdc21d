-- How the log of a history begins, and what keeps it that history's.
use Rattle.std.proofs.Common.{◌≡◌, ℕ, ◌+◌, ◌≤◌, List, [], ◌++◌, map, take, length, refl, sym, ap, ◌∙◌, arith}
use Rattle.std.proofs.lemmas.List.{length-map, map-append}
use Rattle.jm_base.specs.declared.identifiers.Kind.{Kind}
use Rattle.mail_records.specs.Histories.{History, Floors, FloorsAtMost, Entry, Committed, Refused, entry_edits, edits_of, edits_in, floor_of, grown, empty_history}
use Rattle.mail_records.specs.States.{last_position}
use Rattle.mail_records.specs.declared.edits.Commit.{Commit}
use Rattle.mail_records.specs.declared.edits.Stamp.{Stamp}
use Rattle.mail_records.proofs.Prefixes.{edits_of-grown, edits_of-refused}
use Rattle.mail_records.proofs.Reached.{last_position-bounds, length_take}
use Rattle.state_log.specs.Logs.{Notes, IsLogOf, ids_in, note_id, note_of}
use Rattle.state_log.specs.declared.notes.Note.{Note}

-- a history without entries has the log without notes that begins where it does
pub IsLogOf-begun : (h : History) (l : Notes) → h.entries ≡ [] → l.floor ≡ h.floor → l.floors ≡ h.floors → l.notes ≡ [] → IsLogOf h l
IsLogOf-begun h l none floor floors notes = record {
  floor = floor;
  floors = floors;
  notes = notes ∙ ap (λ (es : List Entry). map note_of (edits_in es)) (sym none);
}

pub IsLogOf-empty : (l : Notes) → l.floor ≡ 0 → l.floors ≡ record { mailbox = 0; email = 0; thread = 0 } → l.notes ≡ [] → IsLogOf empty_history l
IsLogOf-empty l floor floors notes = IsLogOf-begun empty_history l refl floor floors notes

-- the log with a note of each edit of an entry is that of the history with the entry
pub IsLogOf-grown : (h : History) (l m : Notes) (e : Entry) → IsLogOf h l → m ≡ record l { notes = l.notes ++ map note_of (entry_edits e); spare = m.spare } → IsLogOf (grown h e) m
IsLogOf-grown h l m e is same = record {
  floor = ap (λ (n : Notes). n.floor) same ∙ is.floor;
  floors = ap (λ (n : Notes). n.floors) same ∙ is.floors;
  notes =
      ap (λ (n : Notes). n.notes) same
      ∙ (ap (λ (ns : List Note). ns ++ map note_of (entry_edits e)) is.notes
      ∙ (sym (map-append note_of (edits_of h) (entry_edits e)) ∙ ap (map note_of) (sym (edits_of-grown h e))));
}

pub IsLogOf-committed : (h : History) (l m : Notes) (c : Commit) → IsLogOf h l → m ≡ record l { notes = l.notes ++ map note_of c.edits; spare = m.spare } → IsLogOf (grown h (Committed c)) m
IsLogOf-committed h l m c is same = IsLogOf-grown h l m (Committed c) is same

-- the log of a history is that of the history with a refusal too, whatever room is ready in it
pub IsLogOf-refused : (h : History) (l : Notes) (s : Stamp) → IsLogOf h l → IsLogOf (grown h (Refused s)) l
IsLogOf-refused h l s is = record { floor = is.floor; floors = is.floors; notes = is.notes ∙ ap (map note_of) (sym (edits_of-refused h s)) }

pub IsLogOf-reserved : (h : History) (l m : Notes) → IsLogOf h l → m ≡ record l { spare = m.spare } → IsLogOf h m
IsLogOf-reserved h l m is same = record {
  floor = ap (λ (n : Notes). n.floor) same ∙ is.floor;
  floors = ap (λ (n : Notes). n.floors) same ∙ is.floors;
  notes = ap (λ (n : Notes). n.notes) same ∙ is.notes;
}

-- the position of the last of a kind among some notes is from the kind's floor position to the last one
pub last_position-notes : (kind : Kind) (floor : ℕ) (floors : Floors) (notes : List Note) → FloorsAtMost floors floor
    → (floor_of floors kind ≤ last_position kind floor floors (ids_in notes)) × (last_position kind floor floors (ids_in notes) ≤ floor + length notes)
last_position-notes kind floor floors notes low =
    let b = last_position-bounds kind floor floors (ids_in notes) low in
    let last = b.1 in
    let same : length (ids_in notes) ≡ length notes = length-map notes note_id in
    (b.0, omega arith)

-- of the first notes alone too
pub last_position-front : (kind : Kind) (floor : ℕ) (floors : Floors) (notes : List Note) (k : ℕ) → FloorsAtMost floors floor
    → (floor_of floors kind ≤ last_position kind floor floors (take k (ids_in notes))) × (last_position kind floor floors (take k (ids_in notes)) ≤ floor + length notes)
last_position-front kind floor floors notes k low =
    let b = last_position-bounds kind floor floors (take k (ids_in notes)) low in
    let last = b.1 in
    let short = (length_take k (ids_in notes)).1 in
    let same : length (ids_in notes) ≡ length notes = length-map notes note_id in
    (b.0, omega arith)
