use Rattle.change_calls.proofs.Exact.{past_floor}
use Rattle.change_calls.proofs.Moving.{page_moves}
use Rattle.change_calls.proofs.Next.{GoesOn-state, touched-together}
use Rattle.change_calls.proofs.UpToDate.{BringsUpToDate-page}
use Rattle.change_calls.proofs.laws.pages_bring_up_to_date.Goals as goal

pub returns : goal.returns
returns c = record { brings = BringsUpToDate-page; goes_on = GoesOn-state; past_floor = past_floor; together = touched-together; moves = page_moves }
