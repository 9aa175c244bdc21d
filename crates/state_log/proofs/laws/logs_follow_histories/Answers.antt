use Rattle.state_log.proofs.Kept.{IsLogOf-begun, IsLogOf-empty, IsLogOf-grown, IsLogOf-refused, IsLogOf-reserved}
use Rattle.state_log.proofs.laws.logs_follow_histories.Goals as goal

pub returns : goal.returns
returns c = record {
  begun = IsLogOf-begun;
  empty = IsLogOf-empty;
  grown = IsLogOf-grown;
  refused = IsLogOf-refused;
  reserved = IsLogOf-reserved;
}
