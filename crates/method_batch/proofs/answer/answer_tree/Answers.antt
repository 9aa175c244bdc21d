use Rattle.std.proofs.Common.{refl, subst}
use Rattle.jm_json.specs.Json.{tree_of}
use Rattle.jm_json.specs.declared.tree.Json.{Json}
use Rattle.method_batch.specs.Outcome.{HasBegun, IsOutcome}
use Rattle.method_batch.specs.Answered.{outcome_of}
use Rattle.method_batch.proofs.Together.{on_err, tree_not_begun}
use Rattle.method_batch.proofs.Outcomes.{outcome_kept, outcome_begun}
use Rattle.method_batch.proofs.answer.answer_tree.Goals as goal

pub returns-in_err-tree-clause-begun : goal.returns-in_err-tree-clause-begun
returns-in_err-tree-clause-begun g c =
    on_err (HasBegun g.P.Port.answers g.P.Port.stops c.args.port.now c.args.port.now (tree_of c.args.request.now)) c.from_residual.result
    (tree_not_begun g.P.Port.answers g.P.Port.stops g.met.P.Port.stays c.args.port.now c.args.port.now (tree_of c.args.request.now) refl)

pub returns-in-Ok-clause-outcome : goal.returns-in-Ok-clause-outcome
returns-in-Ok-clause-outcome g c =
    outcome_kept g.P.Port.answers c.args.port.now c.perform_tree.new.port c.into_outcome.result (tree_of c.args.request.now) (outcome_of c.in-Ok.answered) c.into_outcome.ensures
    (subst (λ (j : Json). IsOutcome g.P.Port.answers c.args.port.now c.perform_tree.new.port (tree_of j) (outcome_of c.in-Ok.answered)) c.in_ok-tree.ensures c.in-Ok.ensures.outcome)

pub returns-in-Ok-clause-begun : goal.returns-in-Ok-clause-begun
returns-in-Ok-clause-begun g c =
    on_err (HasBegun g.P.Port.answers g.P.Port.stops c.args.port.now c.perform_tree.new.port (tree_of c.args.request.now)) c.into_outcome.result
    (outcome_begun g.P.Port.answers g.P.Port.stops c.args.port.now c.perform_tree.new.port (tree_of c.args.request.now) (outcome_of c.in-Ok.answered)
    (subst (λ (j : Json). IsOutcome g.P.Port.answers c.args.port.now c.perform_tree.new.port (tree_of j) (outcome_of c.in-Ok.answered)) c.in_ok-tree.ensures c.in-Ok.ensures.outcome))
