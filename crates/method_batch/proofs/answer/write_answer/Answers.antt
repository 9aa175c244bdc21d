use Rattle.method_batch.specs.Outcome.{HasBegunAnswer}
use Rattle.method_batch.specs.Answered.{outcome_of}
use Rattle.method_batch.proofs.Together.{on_err}
use Rattle.method_batch.proofs.Outcomes.{answer_written, answer_begun}
use Rattle.method_batch.proofs.answer.write_answer.Goals as goal

pub returns-in-Ok-clause-written : goal.returns-in-Ok-clause-written
returns-in-Ok-clause-written g c =
    answer_written g.P.Port.answers c.args.port.now c.perform_request.new.port c.write.result c.args.request.now c.args.out.now c.write.new.out (outcome_of c.in-Ok.answered) c.in-Ok.ensures.outcome c.write.ensures.ok

pub returns-in-Ok-clause-begun : goal.returns-in-Ok-clause-begun
returns-in-Ok-clause-begun g c =
    on_err (HasBegunAnswer g.P.Port.answers g.P.Port.stops c.args.port.now c.perform_request.new.port c.args.request.now) c.write.result
    (answer_begun g.P.Port.answers g.P.Port.stops c.args.port.now c.perform_request.new.port c.args.request.now (outcome_of c.in-Ok.answered) c.in-Ok.ensures.outcome)
