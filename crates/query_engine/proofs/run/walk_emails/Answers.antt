use Rattle.std.proofs.Common.{ℕ, List, OnOk, subst}
use Rattle.query_engine.specs.Walks.{Follows}
use Rattle.query_engine.proofs.Walked.{dated_rise, dated_walked}
use Rattle.query_engine.proofs.run.walk_emails.Goals as goal

pub walk-requires-clause-rise : goal.walk-requires-clause-rise
walk-requires-clause-rise g c =
    dated_rise c.args.query.now c.args.content.now.content c.requires.emails c.args.ascending c.requires.order c.by_received.result.now c.by_received.ensures

pub returns : goal.returns
returns g c =
    subst (λ (ns : List ℕ). OnOk c.walk.result (Follows c.args.content.now.content c.args.page.now c.walk.new.page ns))
    (dated_walked c.args.query.now c.args.content.now.content c.requires.emails c.args.ascending c.requires.order c.by_received.result.now c.by_received.ensures (g.T.Texts2.texts c.args.texts.now))
    c.walk.ensures
