use Rattle.std.proofs.Common.{◌≡◌, ℕ, List, [], ◌++◌, OnOk, OnErr, subst}
use Rattle.serde_json.specs.Written.{compact_text}
use Rattle.jm_json.specs.Json.{tree_of}
use Rattle.jm_json.specs.JsonValues.{data_of}
use Rattle.method_batch.specs.Outcome.{IsAnswer, HasBegunAnswer}
use Rattle.method_batch.specs.Answered.{outcome_of}
use Rattle.method_batch.proofs.Together.{on_ok, on_err}
use Rattle.method_batch.proofs.Outcomes.{answer_written, answer_begun}
use Rattle.method_batch.proofs.answer.write_answer_over.Goals as goal

pub returns-in-Ok-clause-written : goal.returns-in-Ok-clause-written
returns-in-Ok-clause-written g c =
    let o = outcome_of c.in-Ok.answered in
    let is = subst (λ (bs : List ℕ). IsAnswer g.P.Port.answers c.args.port.now c.perform_request.new.port bs o) c.as_slice.ensures c.in-Ok.ensures.outcome in
    let text = subst (λ (old : List ℕ). OnOk c.write.result (c.write.new.out ≡ old ++ compact_text (data_of (tree_of o.tree)))) c.hand_over.ensures.out c.write.ensures.ok in
    answer_written g.P.Port.answers c.args.port.now c.perform_request.new.port c.write.result c.args.request.now c.args.out.now c.write.new.out o is text

pub returns-in-Ok-clause-taken : goal.returns-in-Ok-clause-taken
returns-in-Ok-clause-taken g c = on_ok (c.hand_over.new.used ≡ []) c.write.result c.hand_over.ensures.used

pub returns-in-Ok-clause-begun : goal.returns-in-Ok-clause-begun
returns-in-Ok-clause-begun g c =
    let o = outcome_of c.in-Ok.answered in
    let is = subst (λ (bs : List ℕ). IsAnswer g.P.Port.answers c.args.port.now c.perform_request.new.port bs o) c.as_slice.ensures c.in-Ok.ensures.outcome in
    on_err (HasBegunAnswer g.P.Port.answers g.P.Port.stops c.args.port.now c.perform_request.new.port c.args.request.now) c.write.result
    (answer_begun g.P.Port.answers g.P.Port.stops c.args.port.now c.perform_request.new.port c.args.request.now o is)

pub returns-in-Ok-clause-err : goal.returns-in-Ok-clause-err
returns-in-Ok-clause-err g c = subst (λ (old : List ℕ). OnErr c.write.result (c.write.new.out ≡ old)) c.hand_over.ensures.out c.write.ensures.err

pub returns-in-Err-clause-begun : goal.returns-in-Err-clause-begun
returns-in-Err-clause-begun g c =
    subst (λ (bs : List ℕ). HasBegunAnswer g.P.Port.answers g.P.Port.stops c.args.port.now c.perform_request.new.port bs) c.as_slice.ensures c.in-Err.ensures.begun
