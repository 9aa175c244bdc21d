-- A call that reads has one response, and is answered at once.
use Rattle.std.proofs.Common.{◌≡◌, ℕ, List, Bool, inl, inr, refl, sym, ap, ◌∙◌, subst, codes}
use Rattle.jm_json.specs.Call.{Call, error_of}
use Rattle.jm_json.specs.Invocations.{call_of}
use Rattle.jm_json.specs.declared.invocation.Created.{Created}
use Rattle.jm_json.specs.declared.invocation.Invocation.{Invocation}
use Rattle.jm_base.specs.declared.identifiers.Kind.TheVariants.{Mailbox, Email}
use Rattle.mail_records.specs.Histories.{History, account_after}
use Rattle.mail_records.specs.declared.edits.Edit.{Edit}
use Rattle.mail_records.specs.declared.edits.Stamp.{Stamp}
use Rattle.mail_view.specs.Gets.{Got, invalid, too_large, got, get_of_kind}
use Rattle.method_args.specs.Outcomes.{Outcome, cannot_tell, invalid_call, no_anchor, replied, response_of, too_many_changes, unsupported_filter_call, unsupported_sort_call}
use Rattle.change_calls.specs.Responses.{changes_outcome}
use Rattle.account_book.specs.Replies.{IsIdle, IsReply, IsReplyTo}
use Rattle.account_book.specs.declared.asks.Ask.{Ask}
use Rattle.account_book.specs.declared.asks.Call.{Call as AccountCall}
use Rattle.account_book.specs.declared.plans.Out.{Out}
use Rattle.account_book.specs.declared.plans.Plan.{Plan}
use Rattle.account_book.specs.declared.plans.Point.{Point}
use Rattle.server_users.specs.declared.users.UserAccount.{UserAccount}
use Rattle.read_replies.specs.Plans.{refused, response_to, get_plan, outcome_plan, queried, query_changed}
use Rattle.read_replies.specs.Reads.{AnswersOnce, PlansReads, ReadMethod, gets, changes, mailbox_query, email_query, mailbox_query_changes, email_query_changes, method_call, read_name, read_plan}
use Rattle.read_replies.specs.Replies.{IsReadAt, replied_of}

error_once : (c : Call) (kind : List ℕ) → AnswersOnce c (refused c kind)
error_once c kind = record { response = error_of kind c.id; same = refl; id = refl }

get_once : (c : Call) (g : Got) → AnswersOnce c (get_plan c g)
get_once c (invalid name) = error_once c (codes "invalidArguments")
get_once c too_large = error_once c (codes "requestTooLarge")
get_once c (got t) = record { response = response_to c t; same = refl; id = refl }

response_id : (c : Call) (o : Outcome) → (response_of c o).id ≡ c.id
response_id c (replied reply) = refl
response_id c (invalid_call name) = refl
response_id c (unsupported_filter_call name) = refl
response_id c (unsupported_sort_call name) = refl
response_id c no_anchor = refl
response_id c cannot_tell = refl
response_id c too_many_changes = refl

outcome_once : (c : Call) (o : Outcome) → AnswersOnce c (outcome_plan c o)
outcome_once c o = record { response = response_of c o; same = refl; id = response_id c o }

pub read_once : (h : History) (c : Call) (read_only : Bool) (method : ReadMethod)
    → AnswersOnce c (read_plan h c read_only method)
read_once h c read_only (gets kind) = get_once c (get_of_kind kind h c.args read_only)
read_once h c read_only (changes kind) = outcome_once c (changes_outcome h kind c.args)
read_once h c read_only mailbox_query = outcome_once c (queried h Mailbox c.args)
read_once h c read_only email_query = outcome_once c (queried h Email c.args)
read_once h c read_only mailbox_query_changes =
    outcome_once c (query_changed h Mailbox c.args)
read_once h c read_only email_query_changes = outcome_once c (query_changed h Email c.args)

-- ---- the answer to an idle plan

idle_of : (c : Call) (p : Plan) → AnswersOnce c p → IsIdle p
idle_of c p once = (ap (λ (q : Plan). q.blobs) once.same, ap (λ (q : Plan). q.edits) once.same)

answered_at_once : (p : Plan) (bytes : List Edit → ℕ) (before after : History) (point : Point)
    (ask : Ask) (stamp : Stamp) (out : Out) → IsIdle p
    → IsReplyTo p bytes before after point ask stamp out
    → (point.after ≡ point.before) × (out ≡ p.out)
answered_at_once p bytes before after point ask stamp out idle (inl x) = (x.same, x.reply)
answered_at_once p bytes before after point ask stamp out idle (inr (inl x)) = absurd (x.some idle)
answered_at_once p bytes before after point ask stamp out idle (inr (inr (inl x))) =
    absurd (x.some idle)
answered_at_once p bytes before after point ask stamp out idle (inr (inr (inr x))) =
    absurd (x.some idle)

pub read_at : (plan : History → AccountCall → ℕ → Plan) (bytes : List Edit → ℕ) (h : History)
    (point : Point) (a : UserAccount) (c : Invocation) (made : List Created) (stamp : Stamp)
    (out : Out) (method : ReadMethod) → PlansReads plan → (call_of c).name ≡ read_name method
    → point.account ≡ a.number
    → IsReply plan bytes h point (method_call c made a.read_only) stamp out
    → IsReadAt h point a (call_of c) (replied_of out)
read_at plan bytes h point a c made stamp out method reads name account is =
    let before = account_after h point.before in
    let after = account_after h point.after in
    let call = method_call c made a.read_only in
    let p = plan before call point.moment in
    let same : p ≡ read_plan before (call_of c) a.read_only method =
    reads before c made a.read_only point.moment method name in
    let once = read_once before (call_of c) a.read_only method in
    let idle : IsIdle p = subst IsIdle (sym same) (idle_of (call_of c) _ once) in
    let at = answered_at_once p bytes before after point call.ask stamp out idle is in
    record {
      method = method;
      name = name;
      account = account;
      same = at.0;
      reply = ap replied_of (at.1 ∙ ap (λ (q : Plan). q.out) same);
    }
