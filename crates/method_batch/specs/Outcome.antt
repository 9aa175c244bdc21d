-- What is answered to a request (RFC 8620, sections 3.4 and 3.6.1).
use Rattle.std.specs.Prelude.{◌≡◌, ℕ, ◌≤◌, List, [], ◌∷◌, ◌++◌, Option, Some, None, Bool, true, false, is_some, unwrap_or, map, codes, pos, cond, nat_lt, length}
use Rattle.jm_json.specs.Reading.{Reading, not_json, not_whole, whole, reading_of}
use Rattle.jm_json.specs.Tree.{Tree, number, text, list, object, trees_of, fields_of}
use Rattle.jm_json.specs.Order.{put}
use Rattle.jm_json.specs.Call.{Call}
use Rattle.jm_json.specs.Responses.{call_tree}
use Rattle.jm_json.specs.Json.{tree_of}
use Rattle.jm_json.specs.declared.invocation.Created.{Created}
use Rattle.jm_json.specs.declared.invocation.Replied.{Replied}
use Rattle.method_batch.specs.Method.{core_capability, mail_capability}
use Rattle.method_batch.specs.Request.{request_of, problem_in, uses}
use Rattle.result_refs.specs.declared.room.TheConstants.{MAX_REFERENCE_BYTES}
use Rattle.method_batch.specs.Answer.{Asked, Runs, Answers, HasBegunCalls}
use Rattle.jm_base.specs.declared.limits.TheConstants.{MAX_REQUEST_BYTES}
use Rattle.method_batch.specs.declared.progress.Progress.{Progress}
use Rattle.method_batch.specs.declared.request.Request.{Request}
use Rattle.method_batch.specs.declared.outcome.Outcome.{Outcome}
use Rattle.method_batch.specs.declared.outcome.Problem.{Problem}
use Rattle.method_batch.specs.declared.outcome.Problem.TheVariants.{NotJson, NotRequest, UnknownCapability, TooManyCalls, TooLarge}

-- ---- the Response

-- the members for what was made, one after another put to those before: of a creation id that was
-- made twice the last counts
abbrev pub put_ids : List (List ℕ × Tree) → List Created → List (List ℕ × Tree)
put_ids before [] = before
put_ids before (c ∷ cs) = put_ids (put c.creation (text c.id) before) cs

-- `createdIds`, where it is shown
abbrev pub created_member : Bool → List Created → List (List ℕ × Tree)
created_member false made = []
created_member true made = (codes "createdIds", object (fields_of (put_ids [] made))) ∷ []

-- the Response of a request that came up to here; it shows what was created, or not
abbrev pub response_tree : Bool → Progress → Tree
response_tree shows p =
    object (fields_of
    (created_member shows p.made
    ++ (codes "methodResponses", list (trees_of (map call_tree p.responses)))
    ∷ (codes "sessionState", text (codes "0")) ∷ []))

-- ---- the problem details of a request that is rejected as a whole (RFC 7807)

abbrev pub problem_type : Problem → List ℕ
problem_type NotJson = codes "urn:ietf:params:jmap:error:notJSON"
problem_type NotRequest = codes "urn:ietf:params:jmap:error:notRequest"
problem_type UnknownCapability = codes "urn:ietf:params:jmap:error:unknownCapability"
problem_type TooManyCalls = codes "urn:ietf:params:jmap:error:limit"
problem_type TooLarge = codes "urn:ietf:params:jmap:error:limit"

-- the limit of the server that was passed
abbrev pub problem_limit : Problem → Option (List ℕ)
problem_limit NotJson = None
problem_limit NotRequest = None
problem_limit UnknownCapability = None
problem_limit TooManyCalls = Some (codes "maxCallsInRequest")
problem_limit TooLarge = Some (codes "maxSizeRequest")

abbrev pub problem_status : Problem → ℕ
problem_status NotJson = 400
problem_status NotRequest = 400
problem_status UnknownCapability = 400
problem_status TooManyCalls = 400
problem_status TooLarge = 413

abbrev pub limit_member : Option (List ℕ) → List (List ℕ × Tree)
limit_member None = []
limit_member (Some name) = (codes "limit", text name) ∷ []

abbrev pub problem_tree : Problem → Tree
problem_tree p =
    object (fields_of
    (limit_member (problem_limit p) ++ (codes "status", number (pos (problem_status p)))
    ∷ (codes "type", text (problem_type p)) ∷ []))

-- the problem of a limit of this name that was passed by what is no request of calls, as an upload
-- (RFC 8620, 3.6.1; that its status is 413 is our own)
abbrev pub limit_tree : List ℕ → Tree
limit_tree name =
    object (fields_of (
    (codes "limit", text name)
    ∷ (codes "status", number (pos 413))
    ∷ (codes "type", text (codes "urn:ietf:params:jmap:error:limit"))
    ∷ []
    ))

-- ---- the outcome

abbrev pub IsReply : Outcome → ℕ → Tree → Type 0
IsReply o status t = (o.status ≡ status) × (tree_of o.tree ≡ t)

abbrev pub IsRefusal : Problem → Outcome → Type 0
IsRefusal p o = IsReply o (problem_status p) (problem_tree p)

-- the progress at the beginning of a request: what it says was created counts as made
abbrev pub beginning : Option (List Created) → Progress
beginning created = record { responses = []; made = unwrap_or created [] }

-- Here and below, of a port that goes from the state s to s' meanwhile: the calls of a request were
-- answered, and their references took at most `MAX_REFERENCE_BYTES` together. The Response shows
-- what was created where the request itself did.
abbrev pub IsResponse : {S : Type 0} → (S → Call → List Created → Replied → S → Type 0) → S → S
    → Request → Outcome → Type 0
IsResponse answers s s' r o =
    (asked : List Asked) × (after : Progress) × (taken : ℕ) × Runs answers s asked s'
    × Answers (uses core_capability r.using) (uses mail_capability r.using) r.calls
    (beginning r.created) asked after taken
    × (taken ≤ MAX_REFERENCE_BYTES)
    × IsReply o 200 (response_tree (is_some r.created) after)

-- a request for which there is a problem is rejected
abbrev pub IsOutcomeUnless : {S : Type 0} → (S → Call → List Created → Replied → S → Type 0) → S → S
    → Request → Option Problem → Outcome → Type 0
IsOutcomeUnless answers s s' r None o = IsResponse answers s s' r o
IsOutcomeUnless answers s s' r (Some p) o = (s' ≡ s) × IsRefusal p o

abbrev pub IsOutcomeBy : {S : Type 0} → (S → Call → List Created → Replied → S → Type 0) → S → S
    → Option Request → Outcome → Type 0
IsOutcomeBy answers s s' None o = (s' ≡ s) × IsRefusal NotRequest o
IsOutcomeBy answers s s' (Some r) o = IsOutcomeUnless answers s s' r (problem_in r) o

-- the outcome of a request's tree
abbrev pub IsOutcome : {S : Type 0} → (S → Call → List Created → Replied → S → Type 0) → S → S
    → Tree → Outcome → Type 0
IsOutcome answers s s' t o = IsOutcomeBy answers s s' (request_of t) o

abbrev pub IsAnswerBy : {S : Type 0} → (S → Call → List Created → Replied → S → Type 0) → S → S
    → Reading → Outcome → Type 0
IsAnswerBy answers s s' not_json o = (s' ≡ s) × IsRefusal NotJson o
IsAnswerBy answers s s' (not_whole path) o = (s' ≡ s) × IsRefusal NotRequest o
IsAnswerBy answers s s' (whole t) o = IsOutcome answers s s' t o

-- the outcome of a request's bytes, of which there may be `MAX_REQUEST_BYTES`
abbrev pub IsAnswer : {S : Type 0} → (S → Call → List Created → Replied → S → Type 0) → S → S
    → List ℕ → Outcome → Type 0
IsAnswer answers s s' bytes o =
    cond (nat_lt MAX_REQUEST_BYTES (length bytes)) ((s' ≡ s) × IsRefusal TooLarge o)
    (IsAnswerBy answers s s' (reading_of bytes) o)

-- ---- A request that ended out of memory: the first calls were performed, the port stopped at the
-- next one, and no other was performed. A request that is rejected as a whole performs none.

abbrev pub HasBegunRequest : {S : Type 0} → (S → Call → List Created → Replied → S → Type 0)
    → (S → Call → List Created → S → Type 0) → S → S → Request → Type 0
HasBegunRequest answers stops s s' r =
    HasBegunCalls answers stops s s' (uses core_capability r.using) (uses mail_capability r.using)
    r.calls (beginning r.created)

abbrev pub HasBegunUnless : {S : Type 0} → (S → Call → List Created → Replied → S → Type 0)
    → (S → Call → List Created → S → Type 0) → S → S → Request → Option Problem → Type 0
HasBegunUnless answers stops s s' r None = HasBegunRequest answers stops s s' r
HasBegunUnless answers stops s s' r (Some p) = s' ≡ s

abbrev pub HasBegunBy : {S : Type 0} → (S → Call → List Created → Replied → S → Type 0)
    → (S → Call → List Created → S → Type 0) → S → S → Option Request → Type 0
HasBegunBy answers stops s s' None = s' ≡ s
HasBegunBy answers stops s s' (Some r) = HasBegunUnless answers stops s s' r (problem_in r)

-- of a request's tree
abbrev pub HasBegun : {S : Type 0} → (S → Call → List Created → Replied → S → Type 0)
    → (S → Call → List Created → S → Type 0) → S → S → Tree → Type 0
HasBegun answers stops s s' t = HasBegunBy answers stops s s' (request_of t)

abbrev pub HasBegunReading : {S : Type 0} → (S → Call → List Created → Replied → S → Type 0)
    → (S → Call → List Created → S → Type 0) → S → S → Reading → Type 0
HasBegunReading answers stops s s' not_json = s' ≡ s
HasBegunReading answers stops s s' (not_whole path) = s' ≡ s
HasBegunReading answers stops s s' (whole t) = HasBegun answers stops s s' t

-- of a request's bytes
abbrev pub HasBegunAnswer : {S : Type 0} → (S → Call → List Created → Replied → S → Type 0)
    → (S → Call → List Created → S → Type 0) → S → S → List ℕ → Type 0
HasBegunAnswer answers stops s s' bytes =
    cond (nat_lt MAX_REQUEST_BYTES (length bytes)) (s' ≡ s)
    (HasBegunReading answers stops s s' (reading_of bytes))
