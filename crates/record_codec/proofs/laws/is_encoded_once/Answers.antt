use Rattle.record_codec.proofs.Again.{one_commit, same_bytes}
use Rattle.record_codec.proofs.laws.is_encoded_once.Goals as goal

pub returns : goal.returns
returns c = record { commit = one_commit; bytes = same_bytes }
