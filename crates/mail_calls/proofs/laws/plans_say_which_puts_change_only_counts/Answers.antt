use Rattle.mail_calls.proofs.RightFlags.{call_flags}
use Rattle.mail_calls.proofs.laws.plans_say_which_puts_change_only_counts.Goals as goal

pub returns : goal.returns
returns c = λ h call moment whole. call_flags h call moment whole
