use Rattle.std.proofs.Common.{◌≡◌, ◌++◌, drop}
use Rattle.query_engine.specs.Walks.{kept_mailboxes}
use Rattle.query_engine.proofs.run.collect_matching_mailboxes.Given as goal

abbrev pub invariant-loop-mailbox : goal.invariant-loop-mailbox
invariant-loop-mailbox l = l.numbers.items ++ kept_mailboxes l.query (drop l.mailbox-index l.mailboxes) ≡ kept_mailboxes l.query l.mailboxes
