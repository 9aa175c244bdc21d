use Rattle.change_calls.proofs.Earlier.{page-earlier, page_end-earlier, state-earlier}
use Rattle.change_calls.proofs.laws.pages_are_of_one_history.Goals as goal

pub returns : goal.returns
returns c = record {
  page = page-earlier;
  ends = page_end-earlier;
  read = state-earlier;
}
