-- The methods by which a client reads an account, and what each plans (RFC 8620, 5.1, 5.2, 5.5 and
-- 5.6; RFC 8621). Plans see the history, the user's right and the call: they change nothing.
use Rattle.std.specs.Prelude.{◌≡◌, ℕ, List, Bool, codes}
use Rattle.jm_base.specs.declared.identifiers.Kind.{Kind}
use Rattle.jm_base.specs.declared.identifiers.Kind.TheVariants.{Mailbox, Email, Thread}
use Rattle.jm_json.specs.Call.{Call as Invocation}
use Rattle.jm_json.specs.Invocations.{call_of}
use Rattle.jm_json.specs.declared.invocation.Created.{Created}
use Rattle.jm_json.specs.declared.invocation.Invocation.{Invocation as TheInvocation}
use Rattle.mail_records.specs.Histories.{History}
use Rattle.mail_view.specs.Gets.{get_of_kind}
use Rattle.change_calls.specs.Responses.{changes_outcome}
use Rattle.account_book.specs.declared.asks.Ask.TheVariants.{Method}
use Rattle.account_book.specs.declared.asks.Call.{Call}
use Rattle.account_book.specs.declared.plans.Plan.{Plan}
use Rattle.read_replies.specs.Plans.{answered, get_plan, outcome_plan, queried, query_changed}

-- the /get and /changes of each kind, and the /query and /queryChanges of mailboxes and emails
pub data ReadMethod : Type 0 where
  gets changes : Kind → ReadMethod
  mailbox_query email_query mailbox_query_changes email_query_changes : ReadMethod

abbrev pub read_name : ReadMethod → List ℕ
read_name (gets Mailbox) = codes "Mailbox/get"
read_name (gets Thread) = codes "Thread/get"
read_name (gets Email) = codes "Email/get"
read_name (changes Mailbox) = codes "Mailbox/changes"
read_name (changes Thread) = codes "Thread/changes"
read_name (changes Email) = codes "Email/changes"
read_name mailbox_query = codes "Mailbox/query"
read_name email_query = codes "Email/query"
read_name mailbox_query_changes = codes "Mailbox/queryChanges"
read_name email_query_changes = codes "Email/queryChanges"

-- The plan of a method that reads, over an account with this history, of a user to whom the account
-- is read-only or not.
abbrev pub read_plan : History → Invocation → Bool → ReadMethod → Plan
read_plan h c read_only (gets kind) = get_plan c (get_of_kind kind h c.args read_only)
read_plan h c read_only (changes kind) = outcome_plan c (changes_outcome h kind c.args)
read_plan h c read_only mailbox_query = outcome_plan c (queried h Mailbox c.args)
read_plan h c read_only email_query = outcome_plan c (queried h Email c.args)
read_plan h c read_only mailbox_query_changes = outcome_plan c (query_changed h Mailbox c.args)
read_plan h c read_only email_query_changes = outcome_plan c (query_changed h Email c.args)

-- the call on an account that a method call is, for a user to whom it is read-only or not
abbrev pub method_call : TheInvocation → List Created → Bool → Call
method_call c made read_only = record { ask = Method c; made = made; read_only = read_only }

-- these plans of calls are, for the methods that read, those above
abbrev pub PlansReads : (History → Call → ℕ → Plan) → Type 0
PlansReads plan =
    (h : History) (c : TheInvocation) (made : List Created) (read_only : Bool) (moment : ℕ)
    (method : ReadMethod) → (call_of c).name ≡ read_name method
    → plan h (method_call c made read_only) moment ≡ read_plan h (call_of c) read_only method

-- the plan is one response, with the call's identifier, and nothing is made or changed
pub record AnswersOnce (c : Invocation) (p : Plan) : Type 0 where
  pub response : Invocation
  pub same : p ≡ answered response
  pub id : response.id ≡ c.id
