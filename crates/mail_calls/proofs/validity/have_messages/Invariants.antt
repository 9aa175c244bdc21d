use Rattle.std.proofs.Common.{◌≡◌, take, true}
use Rattle.std.specs.List.{list_all}
use Rattle.mail_summary.specs.Summaries.{summary}
use Rattle.mail_calls.specs.MessageTests.{has_message}
use Rattle.mail_calls.proofs.validity.have_messages.Given as goal

abbrev pub invariant-loop-index : goal.invariant-loop-index
invariant-loop-index l = list_all (has_message summary l.blobs.blobs) (take l.index l.emails) ≡ true
