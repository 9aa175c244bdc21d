use Rattle.std.proofs.Common.{◌≡◌, take, map}
use Rattle.mail_records.specs.Contents.{blob_of}
use Rattle.mail_records.proofs.emails.collect_blobs.Given as goal

abbrev pub invariant-loop-email : goal.invariant-loop-email
invariant-loop-email l = l.all.items ≡ map blob_of (take l.email-index l.rows)
