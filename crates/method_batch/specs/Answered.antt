-- The outcome of a request that was answered so.
use Rattle.std.specs.Prelude.{[], ◌∷◌, ◌++◌, map, codes, pos}
use Rattle.jm_json.specs.Tree.{number, text, list, trees_of}
use Rattle.jm_json.specs.Responses.{call_tree}
use Rattle.jm_json.specs.declared.tree.Json.TheVariants.{Object}
use Rattle.method_batch.specs.Outcome.{created_member, limit_member, problem_limit, problem_status, problem_type}
use Rattle.method_batch.specs.declared.answered.Answered.{Answered}
use Rattle.method_batch.specs.declared.answered.Answered.TheVariants.{Rejected, Performed}
use Rattle.method_batch.specs.declared.outcome.Outcome.{Outcome}

abbrev pub outcome_of : Answered → Outcome
outcome_of (Rejected p) =
    record {
      status = problem_status p;
      tree =
          Object
          (limit_member (problem_limit p) ++ (codes "status", number (pos (problem_status p)))
          ∷ (codes "type", text (problem_type p)) ∷ []);
    }
outcome_of (Performed shows after) =
    record {
      status = 200;
      tree =
          Object
          (created_member shows after.made
          ++ (codes "methodResponses", list (trees_of (map call_tree after.responses)))
          ∷ (codes "sessionState", text (codes "0")) ∷ []);
    }
