-- A request of one call that reads is replied at the session's next point.
use Rattle.std.proofs.Common.{◌≡◌, ℕ, List, [], ◌∷◌, Bool, false, cond, Option, None, Result, Ok, Err, codes, bytes_eq, option_and_then, refl, sym, ap, ◌∙◌, subst}
use Rattle.jm_base.specs.declared.identifiers.Kind.TheVariants.{Mailbox, Email, Thread}
use Rattle.jm_json.specs.Call.{Call as Invocation}
use Rattle.jm_json.specs.Invocations.{call_of}
use Rattle.jm_json.specs.Json.{tree_of}
use Rattle.jm_json.specs.Responses.{responses_tree}
use Rattle.jm_json.specs.Tree.{Tree}
use Rattle.jm_json.specs.declared.invocation.Replied.{Replied}
use Rattle.mail_records.specs.Histories.{History}
use Rattle.account_book.specs.declared.asks.Call.{Call}
use Rattle.account_book.specs.declared.plans.Plan.{Plan}
use Rattle.account_book.specs.declared.plans.Point.{Point}
use Rattle.account_hall.specs.Histories.{seen_history}
use Rattle.method_batch.specs.OneCall.{AnswersSingle, single_request}
use Rattle.method_batch.specs.declared.outcome.Outcome.{Outcome}
use Rattle.server_users.specs.declared.users.UserAccount.{UserAccount}
use Rattle.read_replies.specs.Reads.{PlansReads, ReadMethod, gets, changes, mailbox_query, email_query, mailbox_query_changes, email_query_changes, read_name}
use Rattle.read_replies.specs.Replies.{IsReadAt, IsReplyAt, RepliesBy, replied_of}
use Rattle.server_users.specs.Lookups.{account_with}
use Rattle.read_replies.specs.Targets.{accounts_of, argument_in, is_copy, source_of, target_of}
use Rattle.read_replies.proofs.Once.{read_at}
use Rattle.hall_port.specs.SingleReads.{IsNextReply, RepliesNext}
use Rattle.hall_port.specs.Steps.{AnswersBy, IsPerformed, calls_by, hall_answers}
use Rattle.hall_port.specs.Views.{PortView}

-- no method that reads is an echo or a copy
no_echo : (method : ReadMethod) → bytes_eq (read_name method) (codes "Core/echo") ≡ false
no_echo (gets Mailbox) = refl
no_echo (gets Thread) = refl
no_echo (gets Email) = refl
no_echo (changes Mailbox) = refl
no_echo (changes Thread) = refl
no_echo (changes Email) = refl
no_echo mailbox_query = refl
no_echo email_query = refl
no_echo mailbox_query_changes = refl
no_echo email_query_changes = refl

no_copy : (method : ReadMethod) → is_copy (read_name method) ≡ false
no_copy (gets Mailbox) = refl
no_copy (gets Thread) = refl
no_copy (gets Email) = refl
no_copy (changes Mailbox) = refl
no_copy (changes Thread) = refl
no_copy (changes Email) = refl
no_copy mailbox_query = refl
no_copy email_query = refl
no_copy mailbox_query_changes = refl
no_copy email_query_changes = refl

no_source : (accounts : List UserAccount) (c : Invocation) → is_copy c.name ≡ false
    → source_of accounts c ≡ None
no_source accounts c off =
    ap (λ (b : Bool). cond b
    (option_and_then (λ id. account_with id accounts) (argument_in (codes "fromAccountId") c.args))
    None) off

module _ {R : Type 0} (plan_of : R → History → Call → ℕ → Plan)
    (reads : (rules : R) → PlansReads (plan_of rules)) (old new : PortView) (c : Invocation)
    (method : ReadMethod) (name : c.name ≡ read_name method) (r : Replied) (response : Tree)
    (shows : response ≡ responses_tree r.responses (codes "0")) where
  reply_by : (h : History) (point : Point) (t : Result UserAccount (List ℕ))
      → target_of (accounts_of old.users old.user) c ≡ t → RepliesBy h point t c r
      → IsReplyAt h point (accounts_of old.users old.user) (single_request c) response
  reply_by h point t is replies =
      record {
        call = c;
        replied = r;
        asks = refl;
        replies = subst (λ (u : Result UserAccount (List ℕ)). RepliesBy h point u c r) (sym is) replies;
        shows = shows;
      }

  next_by : (a : UserAccount) → target_of (accounts_of old.users old.user) c ≡ Ok a
      → IsPerformed (calls_by plan_of) old a c [] r new
      → IsNextReply old new a (single_request c) response
  next_by a is did =
      let k = did.asked.next.1 in
      let h = seen_history k.pass' in
      let named : (call_of did.call).name ≡ read_name method =
      ap (λ (x : Invocation). x.name) did.same ∙ name in
      let at : IsReadAt h k.point a (call_of did.call) (replied_of did.answer) =
      read_at (plan_of did.asked.next.0) _ h k.point a did.call [] _ did.answer method
      (reads did.asked.next.0) named k.account_is k.reply in
      let here : IsReadAt h k.point a c (replied_of did.answer) =
      subst (λ (x : Invocation). IsReadAt h k.point a x (replied_of did.answer)) did.same at in
      let replies : IsReadAt h k.point a c r =
      subst (IsReadAt h k.point a c) (sym did.shown) here in
      record {
        pass = k.pass;
        pass' = k.pass';
        point = k.point;
        there = k.there;
        passes = k.passes;
        seen = k.seen;
        trail = k.trail;
        before = k.before;
        after = k.after;
        reply = reply_by h k.point (Ok a) is replies;
      }

  by_target : (t : Result UserAccount (List ℕ)) → target_of (accounts_of old.users old.user) c ≡ t
      → AnswersBy (calls_by plan_of) t None old c [] r new
      → RepliesNext old new t (single_request c) response
  by_target (Ok a) is did = next_by a is did
  by_target (Err kind) is did =
      record { stays = did.0; reply = λ h point. reply_by h point (Err kind) is did.1 }

-- a request of one call that reads
pub replied_next : {R : Type 0} (plan_of : R → History → Call → ℕ → Plan) (old new : PortView)
    (c : Invocation) (method : ReadMethod) (o : Outcome) → ((rules : R) → PlansReads (plan_of rules))
    → c.name ≡ read_name method → AnswersSingle (hall_answers (calls_by plan_of)) old new c o
    → RepliesNext old new (target_of (accounts_of old.users old.user) c) (single_request c)
    (tree_of o.tree)
replied_next plan_of old new c method o reads name (r, did, shows) =
    let accounts = accounts_of old.users old.user in
    let performed : hall_answers (calls_by plan_of) old c [] r new =
    subst (λ (b : Bool). cond b ((new ≡ old) × (r ≡ record { responses = c ∷ []; made = [] }))
    (hall_answers (calls_by plan_of) old c [] r new))
    (ap (λ (n : List ℕ). bytes_eq n (codes "Core/echo")) name ∙ no_echo method) did in
    let alone : source_of accounts c ≡ None =
    no_source accounts c (ap (λ (n : List ℕ). is_copy n) name ∙ no_copy method) in
    by_target plan_of reads old new c method name r (tree_of o.tree) shows.1
    (target_of accounts c) refl
    (subst (λ (from : Option UserAccount). AnswersBy (calls_by plan_of) (target_of accounts c) from old c [] r new)
    alone performed)
