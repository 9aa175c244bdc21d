use Rattle.std.proofs.Common.{◌≡◌, drop}
use Rattle.std.specs.List.{list_all}
use Rattle.tidy_check.specs.Checks.{is_filed}
use Rattle.tidy_check.proofs.emails.are_filed.Given as goal

abbrev pub invariant-loop-email : goal.invariant-loop-email
invariant-loop-email l = list_all (is_filed l.content.content) (drop l.email-index l.emails) ≡ list_all (is_filed l.content.content) l.emails
