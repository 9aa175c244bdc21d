use Rattle.std.proofs.Common.{◌≡◌, ◌++◌, drop}
use Rattle.query_engine.specs.Walks.{kept_emails}
use Rattle.query_engine.proofs.run.collect_each_email.Given as goal

abbrev pub invariant-loop-email : goal.invariant-loop-email
invariant-loop-email g l =
    l.numbers.items ++ kept_emails l.query l.content.content (g.T.Texts2.texts l.texts) (drop l.email-index l.emails) ≡ kept_emails l.query l.content.content (g.T.Texts2.texts l.texts) l.emails
