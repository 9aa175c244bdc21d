use Rattle.std.proofs.Common.{◌≡◌, ◌-◌, [], true, drop, length, take}
use Rattle.change_calls.specs.Changes.{is_within}
use Rattle.change_calls.specs.TouchedRecords.{marks_with, notes_of}
use Rattle.change_calls.proofs.touched_records.mark_positions.Given as goal

abbrev pub invariant-loop-position : goal.invariant-loop-position
invariant-loop-position l = record {
  counted : l.taken ≡ l.position-index;
  marks_are : l.marks.entries ≡ marks_with l.kind [] (take l.position-index (notes_of l.kind (drop (l.from - l.log.floor) l.log.notes)));
  few : is_within l.max (length l.marks.entries) ≡ true;
}
