use Rattle.mail_records.proofs.Growth.{AllKeepThread-sound, IsSound-from_steps}
use Rattle.mail_records.proofs.Prefixes.{IsSound-account_after, IsSound-committed, IsSound-empty, IsSound-refused}
use Rattle.mail_records.proofs.laws.histories_are_sound.Goals as goal

pub returns : goal.returns
returns c = record {
  empty = IsSound-empty;
  steps = IsSound-from_steps;
  kept = AllKeepThread-sound;
  committed = IsSound-committed;
  refused = IsSound-refused;
  before = IsSound-account_after;
}
