use Rattle.client_follow.proofs.Pages.{pages_are_read}
use Rattle.client_follow.proofs.laws.pages_are_read_as_what_changed.Goals as goal

pub returns : goal.returns
returns c = pages_are_read
