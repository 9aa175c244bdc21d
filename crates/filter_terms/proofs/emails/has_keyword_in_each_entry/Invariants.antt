use Rattle.std.proofs.Common.{◌≡◌, drop}
use Rattle.std.specs.List.{list_all}
use Rattle.method_args.specs.Arguments.{passes}
use Rattle.mail_counts.specs.Counts.{has_keyword}
use Rattle.mail_records.specs.Contents.{email_at}
use Rattle.mail_records.specs.declared.entries.Threaded.{Threaded}
use Rattle.filter_terms.proofs.emails.has_keyword_in_each_entry.Given as goal

abbrev pub invariant-loop-entry : goal.invariant-loop-entry
invariant-loop-entry l = list_all (λ (t : Threaded). passes (λ e. has_keyword l.keyword e) (email_at l.content.content t.email)) (drop l.entry-index l.entries) ≡ list_all (λ (t : Threaded). passes (λ e. has_keyword l.keyword e) (email_at l.content.content t.email)) l.entries
