use Rattle.std.proofs.Common.{◌≡◌, map, drop, ◌++◌}
use Rattle.mail_view.specs.Emails.{email_view}
use Rattle.get_calls.proofs.emails.write_emails.Given as goal

abbrev pub invariant-loop-email : goal.invariant-loop-email
invariant-loop-email l =
    map (email_view l.blobs.blobs l.wanted) l.emails
    ≡ l.objects ++ map (email_view l.blobs.blobs l.wanted) (drop l.email-index l.emails)
