use Rattle.std.proofs.Common.{◌≡◌, ◌++◌, List, ℕ, drop}
use Rattle.query_engine.specs.Walks.{goes_on, kept_mailboxes}
use Rattle.query_engine.proofs.by_number.put_each_mailbox.Given as goal

abbrev pub invariant-loop-mailbox : goal.invariant-loop-mailbox
invariant-loop-mailbox l =
    (rest : List ℕ) → goes_on l.content.content l.page (kept_mailboxes l.query (drop l.mailbox-index l.mailboxes) ++ rest) ≡ goes_on l.content.content l.fn.page (kept_mailboxes l.query l.mailboxes ++ rest)
