-- The plan of a set, from what its outcome is over the account's content and log.
use Rattle.std.proofs.Common.{◌≡◌, ℕ, List, [], ◌∷◌, Result, Ok, Err, IfOk, IfErr, refl, sym, ap, ap₂, ◌∙◌, subst}
use Rattle.jm_base.specs.declared.memory.NoMemory.{NoMemory}
use Rattle.jm_base.specs.declared.identifiers.Id.{Id}
use Rattle.jm_json.specs.Call.{Call as Invocation}
use Rattle.jm_json.specs.Json.{tree_of}
use Rattle.mail_records.specs.Contents.{Content}
use Rattle.mail_records.specs.Histories.{History, Floors, content_of, ids_of}
use Rattle.mail_counts.specs.declared.plan.SetPlan.{SetPlan}
use Rattle.mail_counts.specs.declared.plan.SetFault.{SetFault}
use Rattle.state_log.specs.Logs.{Notes, IsLogOf, ids_in}
use Rattle.state_log.proofs.Agreement.{ids_in-log}
use Rattle.mail_counts.specs.Plans.{Ground}
use Rattle.set_parts.specs.Outcomes.{ExplainsSet, Outcome, ground_of, plan_of}
use Rattle.set_parts.specs.Outcomes as sets
use Rattle.account_book.specs.declared.plans.Out.TheVariants.{Replies}
use Rattle.account_book.specs.declared.plans.Plan.{Plan}
use Rattle.read_replies.specs.Plans.{refused, response_to}
use Rattle.mail_calls.specs.Plans.{IsOutcomeOf, planned_with, set_plan, ground_in, unless_rejected}

same_ground : (c d : Content) (m n : ℕ) (e f : Floors) (x y : List Id) → c ≡ d → m ≡ n → e ≡ f → x ≡ y
    → (let g : Ground = record { content = c; floor = m; floors = e; ids = x } in g) ≡ record { content = d; floor = n; floors = f; ids = y }
same_ground c d m n e f x y content floor floors ids =
    ap₂ (λ (z : Content) (k : ℕ). record { content = z; floor = k; floors = e; ids = x }) content floor
    ∙ ap₂ (λ (z : Floors) (k : List Id). record { content = d; floor = n; floors = z; ids = k }) floors ids

-- a content and a log of a history say what the history says
pub ground_is : (h : History) (c : Content) (l : Notes) → c ≡ content_of h → IsLogOf h l → ground_of c l ≡ ground_in h
ground_is h c l content log =
    same_ground c (content_of h) l.floor h.floor l.floors h.floors (ids_in l.notes) (ids_of h) content log.floor log.floors (ids_in-log h l log)

-- a planner's clauses together say which outcome it returned
pub outcome_told : (r : Result SetPlan SetFault) (o : Outcome) → IfOk r (λ p. o ≡ sets.planned (plan_of p)) → IfErr r (λ e. ExplainsSet e o) → IsOutcomeOf r o
outcome_told (Ok p) o ok err = ok
outcome_told (Err e) o ok err = err

-- what answers each outcome that was returned answers this one
pub answer_to : (r : Result Plan NoMemory) (c : Invocation) (returned : Result SetPlan SetFault) (o : Outcome) → IsOutcomeOf returned o → IfOk r (λ p. (q : Outcome) → IsOutcomeOf returned q → p ≡ set_plan c q) → IfOk r (λ p. p ≡ set_plan c o)
answer_to (Ok p) c returned o told all = all o told
answer_to (Err e) c returned o told all = tt

abbrev with_response : SetPlan → Invocation → Plan
with_response x response = record { out = Replies (record { responses = response ∷ []; made = x.made }); blobs = x.blobs; edits = x.edits }

-- a set that is planned is answered by its one response
pub planned_set : (r : Result Plan NoMemory) (c : Invocation) (returned : Result SetPlan SetFault) (x : SetPlan) (response : Invocation) → returned ≡ Ok x → response ≡ response_to c (tree_of x.reply)
    → IfOk r (λ p. p ≡ record { out = Replies (record { responses = response ∷ []; made = x.made }); blobs = x.blobs; edits = x.edits }) → IfOk r (λ p. (o : Outcome) → IsOutcomeOf returned o → p ≡ set_plan c o)
planned_set (Ok p) c returned x response is same h = λ o told.
    h ∙ (ap (with_response x) same ∙ sym (ap (set_plan c) (subst (λ (y : Result SetPlan SetFault). IsOutcomeOf y o) is told)))
planned_set (Err e) c returned x response is same h = tt

-- what answers a fault whatever is made of a plan
abbrev pub AnswersFault : Result Plan NoMemory → Invocation → SetFault → Type 0
AnswersFault r c fault = IfOk r (λ p. (make : sets.Plan → Plan) (o : Outcome) → ExplainsSet fault o → p ≡ unless_rejected c make o)

-- a set that is rejected is answered by its error
pub refused_set : (r : Result Plan NoMemory) (c : Invocation) (returned : Result SetPlan SetFault) (e : SetFault) → returned ≡ Err e → AnswersFault r c e
    → IfOk r (λ p. (o : Outcome) → IsOutcomeOf returned o → p ≡ set_plan c o)
refused_set (Ok p) c returned e is all = λ o told. all (planned_with c) o (subst (λ (y : Result SetPlan SetFault). IsOutcomeOf y o) is told)
refused_set (Err x) c returned e is all = tt

pub rejected_set : (r : Result Plan NoMemory) (c : Invocation) (fault e : SetFault) (kind : List ℕ) → fault ≡ e
    → ((make : sets.Plan → Plan) (o : Outcome) → ExplainsSet e o → unless_rejected c make o ≡ refused c kind) → IfOk r (λ p. p ≡ refused c kind) → AnswersFault r c fault
rejected_set (Ok p) c fault e kind is tells h = λ make o told. h ∙ sym (tells make o (subst (λ (y : SetFault). ExplainsSet y o) is told))
rejected_set (Err x) c fault e kind is tells h = tt
