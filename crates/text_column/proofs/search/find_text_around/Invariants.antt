use Rattle.std.proofs.Common.{ℕ, ◌≤◌, ◌<◌, ◌-◌, length, get_or}
use Rattle.text_column.proofs.search.find_text_around.Given as goal

abbrev pub invariant-loop-index : goal.invariant-loop-index
invariant-loop-index l = record {
  from : l.start ≤ l.index;
  within : l.index < length l.ends;
  before : (k : ℕ) → l.start ≤ k → k < l.index → get_or l.ends k 0 ≤ l.place;
}

abbrev pub decreases-loop-index : goal.decreases-loop-index
decreases-loop-index l = length l.ends - l.index
