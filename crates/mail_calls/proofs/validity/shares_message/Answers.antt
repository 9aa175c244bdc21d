use Rattle.std.proofs.Common.{◌≡◌, ◌∙◌, arith}
use Rattle.mail_summary.specs.Summaries.{summary}
use Rattle.mail_calls.proofs.SharedMessages.{shared_summary}
use Rattle.mail_calls.proofs.validity.shares_message.Goals as goal

pub returns : goal.returns
returns c =
    λ blobs same has.
    let sizes : c.args.email.now.size ≡ c.args.other.now.size = omega arith in
    c.is_same_summary.ensures ∙ shared_summary summary c.args.email.now c.args.other.now blobs sizes same has
