use Rattle.read_replies.proofs.OneCall.{reply_of_call}
use Rattle.read_replies.proofs.laws.replies_are_to_the_call_of_their_request.Goals as goal

pub returns : goal.returns
returns c = reply_of_call
