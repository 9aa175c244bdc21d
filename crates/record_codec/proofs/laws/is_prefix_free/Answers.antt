use Rattle.record_codec.proofs.OfCommits.{commit_one}
use Rattle.record_codec.proofs.laws.is_prefix_free.Goals as goal

pub returns : goal.returns
returns c = commit_one
