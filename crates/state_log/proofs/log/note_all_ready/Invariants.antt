use Rattle.std.proofs.Common.{◌≡◌, ◌++◌, ◌+◌, ◌-◌, ◌≤◌, ◌<◌, ◌^◌, take, map, length}
use Rattle.state_log.specs.Logs.{note_of, log_end}
use Rattle.state_log.proofs.log.note_all_ready.Given as goal

abbrev pub invariant-loop-edit : goal.invariant-loop-edit
invariant-loop-edit l = record {
  pushed : l.log ≡ record l.fn.log { notes = l.fn.log.notes ++ map note_of (take l.edit-index l.edits); spare = l.log.spare };
  room : length l.edits - l.edit-index ≤ l.log.spare;
  lowered : l.fn.log.spare ≤ l.log.spare + l.edit-index;
  short : log_end l.log + (length l.edits - l.edit-index) < 2 ^ 64;
}
