use Rattle.method_batch.specs.Outcome.{HasBegunAnswer}
use Rattle.method_batch.specs.Answered.{outcome_of}
use Rattle.method_batch.proofs.Together.{on_err}
use Rattle.method_batch.proofs.Outcomes.{answer_kept, answer_begun}
use Rattle.method_batch.proofs.answer.answer_request.Goals as goal

pub returns-in-Ok-clause-outcome : goal.returns-in-Ok-clause-outcome
returns-in-Ok-clause-outcome g c =
    answer_kept g.P.Port.answers c.args.port.now c.perform_request.new.port c.into_outcome.result c.args.request.now (outcome_of c.in-Ok.answered) c.into_outcome.ensures c.in-Ok.ensures.outcome

pub returns-in-Ok-clause-begun : goal.returns-in-Ok-clause-begun
returns-in-Ok-clause-begun g c =
    on_err (HasBegunAnswer g.P.Port.answers g.P.Port.stops c.args.port.now c.perform_request.new.port c.args.request.now) c.into_outcome.result
    (answer_begun g.P.Port.answers g.P.Port.stops c.args.port.now c.perform_request.new.port c.args.request.now (outcome_of c.in-Ok.answered) c.in-Ok.ensures.outcome)
