use Rattle.mail_records.proofs.NumbersNamed.{IsFormedHistory-empty, IsFormedHistory-grown_by, IsFormedHistory-account_after, formed_content}
use Rattle.mail_records.proofs.laws.histories_stay_formed.Goals as goal

pub returns : goal.returns
returns c = record {
  empty = IsFormedHistory-empty;
  grown = IsFormedHistory-grown_by;
  before = IsFormedHistory-account_after;
  emails = formed_content;
}
