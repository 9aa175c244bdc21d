-- A request of one call, and what is answered to it.
use Rattle.std.specs.Prelude.{◌≡◌, ℕ, List, [], ◌∷◌, ◌||◌, true, false, Some, codes, cond}
use Rattle.jm_json.specs.Tree.{Tree}
use Rattle.jm_json.specs.Call.{Call}
use Rattle.jm_json.specs.Find.{as_object}
use Rattle.jm_json.specs.Order.{KeysRise}
use Rattle.jm_json.specs.Requests.{request_tree}
use Rattle.jm_json.specs.Responses.{responses_tree}
use Rattle.jm_json.specs.declared.invocation.Created.{Created}
use Rattle.jm_json.specs.declared.invocation.Replied.{Replied}
use Rattle.method_batch.specs.Answer.{is_echo}
use Rattle.method_batch.specs.Method.{core_capability, mail_capability, is_core_method, is_mail_method}
use Rattle.method_batch.specs.Outcome.{IsReply}
use Rattle.method_batch.specs.Prepared.{has_reference}
use Rattle.method_batch.specs.declared.outcome.Outcome.{Outcome}

-- the request of this call alone, which uses the capabilities of the core and of mail
abbrev pub single_request : Call → Tree
single_request c = request_tree (core_capability ∷ mail_capability ∷ []) (c ∷ [])

-- A call whose method is in the table, and whose arguments are taken as they are: an object, each
-- key once and in byte order, in which no name begins with `#`.
pub record IsPlain (c : Call) : Type 0 where
  pub known : (is_core_method c.name || is_mail_method c.name) ≡ true
  pub members : List (List ℕ × Tree)
  pub object : as_object c.args ≡ Some members
  pub order : KeysRise members
  pub unmarked : has_reference c.args ≡ false

-- The reply to a call before which nothing was made, of a port that goes from the state s to s': an
-- echo is its own response, and any other call the port performs.
abbrev pub RepliesToSingle : {S : Type 0} → (S → Call → List Created → Replied → S → Type 0) → S → S
    → Call → Replied → Type 0
RepliesToSingle answers s s' c replied =
    cond (is_echo c) ((s' ≡ s) × (replied ≡ record { responses = c ∷ []; made = [] }))
    (answers s c [] replied s')

-- the status is 200, and the Response has the responses of the reply to this call and no others
abbrev pub AnswersSingle : {S : Type 0} → (S → Call → List Created → Replied → S → Type 0) → S → S
    → Call → Outcome → Type 0
AnswersSingle answers s s' c o =
    (replied : Replied) × RepliesToSingle answers s s' c replied
    × IsReply o 200 (responses_tree replied.responses (codes "0"))
