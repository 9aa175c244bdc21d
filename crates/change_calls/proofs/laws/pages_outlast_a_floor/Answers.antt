use Rattle.change_calls.proofs.Floored.{answer-moved, page-moved, page_end-moved, state-kept, state-moved}
use Rattle.change_calls.proofs.laws.pages_outlast_a_floor.Goals as goal

pub returns : goal.returns
returns c = record {
  page = page-moved;
  ends = page_end-moved;
  read = state-moved;
  kept = state-kept;
  answer = answer-moved;
}
