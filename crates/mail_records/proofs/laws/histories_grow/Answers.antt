use Rattle.mail_records.proofs.Growth.{content_at-grown_by}
use Rattle.mail_records.proofs.Prefixes.{account_after-grown_by, blobs_of-grown, content_at-end_after, content_of-grown, edits_of-grown, end_of-grown}
use Rattle.mail_records.proofs.laws.histories_grow.Goals as goal

pub returns : goal.returns
returns c = record {
  edits = edits_of-grown;
  blobs = blobs_of-grown;
  end = end_of-grown;
  content = content_of-grown;
  at = content_at-grown_by;
  after = content_at-end_after;
  account = account_after-grown_by;
}
