use Rattle.std.proofs.Common.{◌≡◌, ◌≤◌, ◌+◌, ◌++◌, [], length}
use Rattle.draft_writer.specs.Steps.{rows_text}
use Rattle.draft_writer.proofs.message.write_rows.Given as goal

abbrev pub invariant-loop-row : goal.invariant-loop-row
invariant-loop-row l = record {
  text : l.out.items ++ rows_text l.number l.progress.next l.progress.opened.items l.progress.blobs.now l.rest
      ≡ l.fn.header.items ++ rows_text l.number 1 [] l.blobs l.rows;
  few : length l.rest ≤ 2000;
  room : l.progress.next + length l.rest ≤ 2001;
}

abbrev pub decreases-loop-row : goal.decreases-loop-row
decreases-loop-row l = length l.rest
