use Rattle.std.proofs.Common.{refl}
use Rattle.mailbox_creates.proofs.checks.is_role_bad.Goals as goal

pub returns-in-Some : goal.returns-in-Some
returns-in-Some c = λ s f. rw c.in-Some.is (c.is_role_used.ensures s f)

pub returns-in-None : goal.returns-in-None
returns-in-None c = λ s f. rw c.in-None.is refl
