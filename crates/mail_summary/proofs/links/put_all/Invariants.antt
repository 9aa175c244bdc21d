use Rattle.std.proofs.Common.{◌≡◌, length, filter}
use Rattle.mail_summary.specs.Links.{gathered, is_short}
use Rattle.mail_summary.proofs.links.put_all.Given as goal

abbrev pub invariant-loop-id : goal.invariant-loop-id
invariant-loop-id l = gathered l.kept.items (filter is_short l.rest.items) ≡ gathered l.fn.kept.items (filter is_short l.fn.ids)

abbrev pub decreases-loop-id : goal.decreases-loop-id
decreases-loop-id l = length l.rest.items
