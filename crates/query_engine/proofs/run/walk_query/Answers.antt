use Rattle.std.proofs.Common.{ℕ, List, OnOk, subst}
use Rattle.query_engine.specs.Walks.{Follows}
use Rattle.query_engine.proofs.Walked.{placed_rise, placed_walked}
use Rattle.query_engine.proofs.run.walk_query.Goals as goal

pub walk-requires-in-InMailbox-clause-rise : goal.walk-requires-in-InMailbox-clause-rise
walk-requires-in-InMailbox-clause-rise g c =
    placed_rise c.args.query.now c.args.content.now.content c.in-InMailbox.ensures.0 c.in-InMailbox.ascending c.in-InMailbox.ensures.1.0 c.in-InMailbox.mailbox c.in-InMailbox.ensures.1.1 c.in_mailbox.result.now c.in_mailbox.ensures

pub returns-in-InMailbox : goal.returns-in-InMailbox
returns-in-InMailbox g c =
    subst (λ (ns : List ℕ). OnOk c.walk-in-InMailbox.result (Follows c.args.content.now.content c.args.page.now c.walk-in-InMailbox.new.page ns))
    (placed_walked c.args.query.now c.args.content.now.content c.in-InMailbox.ensures.0 c.in-InMailbox.ascending c.in-InMailbox.ensures.1.0 c.in-InMailbox.mailbox c.in-InMailbox.ensures.1.1 c.in_mailbox.result.now c.in_mailbox.ensures (g.T.Texts2.texts c.args.texts.now))
    c.walk-in-InMailbox.ensures
