use Rattle.std.proofs.Common.{◌≡◌, ◌≤◌, ◌<◌, ◌-◌, ℕ, true}
use Rattle.draft_writer.specs.Marks.{is_used}
use Rattle.draft_writer.proofs.boundaries.find_boundary_number.Given as goal

abbrev pub invariant-loop-number : goal.invariant-loop-number
invariant-loop-number l = record {
  from_one : 1 ≤ l.number;
  to : l.number ≤ 65;
  least : (m : ℕ) → 1 ≤ m → m < l.number → is_used m l.blobs l.rows ≡ true;
}

abbrev pub decreases-loop-number : goal.decreases-loop-number
decreases-loop-number l = 65 - l.number
