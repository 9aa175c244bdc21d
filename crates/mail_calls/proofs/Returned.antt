-- The plan of a call that changes nothing, from what its method returned.
use Rattle.std.proofs.Common.{◌≡◌, Result, Ok, Err, IfOk, IfErr, ap, ◌∙◌}
use Rattle.jm_base.specs.declared.memory.NoMemory.{NoMemory}
use Rattle.jm_json.specs.Call.{Call as Invocation}
use Rattle.jm_json.specs.Json.{tree_of}
use Rattle.jm_json.specs.declared.tree.Json.{Json}
use Rattle.method_args.specs.Outcomes.{ExplainsCall, IsOutcomeOf, Outcome, replied, response_of}
use Rattle.method_args.specs.declared.outcomes.MethodFault.{MethodFault}
use Rattle.account_book.specs.declared.plans.Plan.{Plan}
use Rattle.read_replies.specs.Plans.{answered, outcome_plan}

-- what a method returned is its outcome
returned_is : (r : Result Json MethodFault) (o : Outcome) → IfOk r (λ j. o ≡ replied (tree_of j)) → IfErr r (λ e. ExplainsCall e o) → IsOutcomeOf r o
returned_is (Ok j) o ok err = ok
returned_is (Err e) o ok err = err

all_answered : (r : Result Plan NoMemory) (c : Invocation) (returned : Result Json MethodFault) (o : Outcome) → IsOutcomeOf returned o
    → IfOk r (λ p. (q : Outcome) → IsOutcomeOf returned q → p ≡ outcome_plan c q) → IfOk r (λ p. p ≡ outcome_plan c o)
all_answered (Ok p) c returned o told all = all o told
all_answered (Err e) c returned o told all = tt

-- what answers each outcome of what was returned answers this one
pub answered_so : (r : Result Plan NoMemory) (c : Invocation) (returned : Result Json MethodFault) (o : Outcome)
    → IfOk returned (λ j. o ≡ replied (tree_of j)) → IfErr returned (λ e. ExplainsCall e o)
    → IfOk r (λ p. (q : Outcome) → IsOutcomeOf returned q → p ≡ outcome_plan c q) → IfOk r (λ p. p ≡ outcome_plan c o)
answered_so r c returned o ok err all = all_answered r c returned o (returned_is returned o ok err) all

-- the one response makes the plan
pub planned_so : (r : Result Plan NoMemory) (c response : Invocation) (returned : Result Json MethodFault)
    → ((o : Outcome) → IsOutcomeOf returned o → response ≡ response_of c o) → IfOk r (λ p. p ≡ answered response)
    → IfOk r (λ p. (o : Outcome) → IsOutcomeOf returned o → p ≡ outcome_plan c o)
planned_so (Ok p) c response returned all is = λ o told. is ∙ ap answered (all o told)
planned_so (Err e) c response returned all is = tt
