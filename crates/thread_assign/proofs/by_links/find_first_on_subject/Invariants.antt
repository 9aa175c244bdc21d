use Rattle.std.proofs.Common.{◌≡◌, drop}
use Rattle.thread_assign.specs.Candidates.{first_entry}
use Rattle.thread_assign.proofs.by_links.find_first_on_subject.Given as goal

-- the entries from here on decide
abbrev pub invariant-loop-entry : goal.invariant-loop-entry
invariant-loop-entry l = first_entry l.subject l.content.content.emails (drop l.entry-index l.entries) ≡ first_entry l.subject l.content.content.emails l.entries
