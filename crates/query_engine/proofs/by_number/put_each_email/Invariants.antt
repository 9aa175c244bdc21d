use Rattle.std.proofs.Common.{◌≡◌, ◌++◌, List, ℕ, drop}
use Rattle.query_engine.specs.Walks.{goes_on, kept_emails}
use Rattle.query_engine.proofs.by_number.put_each_email.Given as goal

abbrev pub invariant-loop-email : goal.invariant-loop-email
invariant-loop-email g l =
    (rest : List ℕ) → goes_on l.content.content l.page (kept_emails l.query l.content.content (g.T.Texts2.texts l.texts) (drop l.email-index l.emails) ++ rest) ≡ goes_on l.content.content l.fn.page (kept_emails l.query l.content.content (g.T.Texts2.texts l.texts) l.emails ++ rest)
