use Rattle.std.proofs.Common.{◌≡◌, drop}
use Rattle.filter_terms.specs.Targets.{email_in_thread}
use Rattle.sort_terms.specs.Comparators.{emails_cmp}
use Rattle.sort_terms.proofs.compare.compare_emails.Given as goal

abbrev pub invariant-loop-comparator : goal.invariant-loop-comparator
invariant-loop-comparator l =
    emails_cmp (drop l.comparator-index l.comparators) (email_in_thread l.content.content.emails l.left) (email_in_thread l.content.content.emails l.right) ≡ emails_cmp l.comparators (email_in_thread l.content.content.emails l.left) (email_in_thread l.content.content.emails l.right)
