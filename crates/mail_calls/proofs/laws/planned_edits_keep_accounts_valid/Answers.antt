use Rattle.mail_calls.specs.ValidAfterCommits.{planned_keeps, grown_whole}
use Rattle.mail_calls.proofs.laws.planned_edits_keep_accounts_valid.Goals as goal

pub returns : goal.returns
returns c = λ h p stamp whole planned few within. grown_whole h p stamp whole (planned_keeps h p whole planned few) within
