use Rattle.std.proofs.Common.{◌≡◌, ◌++◌, drop}
use Rattle.std.specs.List.{flat_map}
use Rattle.mail_counts.specs.Steps.{listed_edits}
use Rattle.mail_counts.proofs.following.add_thread_edits.Given as goal

abbrev pub invariant-loop-thread : goal.invariant-loop-thread
invariant-loop-thread l = l.edits.items ++ flat_map (listed_edits l.content l.members) (drop l.thread-index l.threads) ≡ l.fn.edits.items ++ flat_map (listed_edits l.content l.members) l.threads
