use Rattle.std.proofs.Common.{◌≡◌, take}
use Rattle.thread_assign.specs.Candidates.{first_candidate, has_any}
use Rattle.thread_assign.proofs.by_links.thread_in.Given as goal

-- the best up to here is the first email with one of the links up to here
abbrev pub invariant-loop-link : goal.invariant-loop-link
invariant-loop-link l = l.best ≡ first_candidate (has_any (take l.link-index l.links) l.summary.subject) l.content.content.emails
