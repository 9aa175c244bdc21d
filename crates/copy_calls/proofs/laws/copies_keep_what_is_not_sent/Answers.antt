use Rattle.copy_calls.proofs.CopiesKept.{copies_keep}
use Rattle.copy_calls.proofs.laws.copies_keep_what_is_not_sent.Goals as goal

pub returns : goal.returns
returns c = copies_keep
