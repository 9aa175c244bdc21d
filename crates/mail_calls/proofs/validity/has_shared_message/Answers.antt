use Rattle.mail_summary.specs.Summaries.{summary}
use Rattle.mail_calls.specs.MessageTests.{has_message}
use Rattle.mail_calls.proofs.SharedMessages.{all_there}
use Rattle.mail_calls.proofs.validity.has_shared_message.Goals as goal

pub returns-in-Some : goal.returns-in-Some
returns-in-Some c =
    let sharing = c.in-Some.ensures in
    c.shares_message.ensures c.args.blobs.now.blobs sharing.shares
    (all_there (has_message summary c.args.blobs.now.blobs) c.args.checked.now sharing.index c.in-Some.other.now c.requires sharing.there)
