-- What calls on a mail account plan (RFC 8620, 5.4 and 6; RFC 8621). Of the methods the /get and
-- /changes of each kind, the /query and /queryChanges of mailboxes and emails, Mailbox/set,
-- Email/set without creates, Email/import, Email/parse, Email/copy and Blob/copy are built.
use Rattle.std.specs.Prelude.{◌≡◌, ℕ, List, [], ◌∷◌, Bool, codes, Option, Some, None, Result, MatchResult}
use Rattle.jm_json.specs.Call.{Call as Invocation}
use Rattle.jm_json.specs.Invocations.{call_of}
use Rattle.jm_json.specs.Tree.{Tree}
use Rattle.jm_json.specs.declared.invocation.Created.{Created}
use Rattle.jm_base.specs.declared.identifiers.Kind.{Kind}
use Rattle.jm_base.specs.declared.identifiers.Kind.TheVariants.{Mailbox as OfMailbox, Email as OfEmail, Thread as OfThread}
use Rattle.mail_records.specs.Histories.{History, blobs_of, content_of}
use Rattle.mail_records.specs.States.{state_of}
use Rattle.mail_view.specs.Gets.{get_of_kind}
use Rattle.mail_view.specs.NamedBytes.{bytes_named}
use Rattle.mail_view.specs.Parses.{parse_in}
use Rattle.mail_counts.specs.Plans.{Ground, ground_of_history}
use Rattle.mail_counts.specs.declared.plan.SetPlan.{SetPlan}
use Rattle.mail_counts.specs.declared.plan.SetFault.{SetFault}
use Rattle.mailbox_set.specs.Sets.{mailbox_set_outcome}
use Rattle.set_parts.specs.Outcomes.{ExplainsSet, Outcome, plan_of}
use Rattle.set_parts.specs.Outcomes as sets
use Rattle.email_set.specs.Plans.{email_set_outcome}
use Rattle.mail_import.specs.Plans.{import_in}
use Rattle.change_calls.specs.Responses.{changes_outcome}
use Rattle.account_book.specs.declared.asks.Ask.{Ask}
use Rattle.account_book.specs.declared.asks.Ask.TheVariants.{Method, Upload, Blob, Fetch, Place, States}
use Rattle.account_book.specs.declared.asks.Call.{Call}
use Rattle.account_book.specs.declared.asks.Carried.{Carried}
use Rattle.account_book.specs.declared.plans.Out.{Out}
use Rattle.account_book.specs.declared.plans.Out.TheVariants.{Replies}
use Rattle.account_book.specs.declared.plans.Out.TheVariants as out
use Rattle.account_book.specs.declared.plans.Plan.{Plan}
use Rattle.read_replies.specs.Plans.{get_plan, outcome_plan, queried, query_changed, refused, response_to}
use Rattle.mail_calls.specs.BlobPlans.{upload_plan}
use Rattle.mail_copies.specs.Plans.{place_in}
use Rattle.copy_calls.specs.BlobCopies.{BlobPlan, blob_plan_in, blob_rejection, blobs_fetched_in}
use Rattle.copy_calls.specs.Fetches.{fetch_rejection, fetched_in}
use Rattle.mail_calls.specs.Methods.{copy_method_named, method_named}
use Rattle.mail_calls.specs.declared.methods.CopyMethod.{CopyMethod}
use Rattle.mail_calls.specs.declared.methods.CopyMethod.TheVariants.{Emails, Blobs}
use Rattle.mail_calls.specs.declared.methods.Method.{Method as MailMethod}
use Rattle.mail_calls.specs.declared.methods.Method.TheVariants.{Get, Changes, MailboxSet, EmailSet, EmailImport, EmailParse, Query, QueryChanges}

-- this is answered, and nothing changed
abbrev pub reading : Out → Plan
reading answer = record { out = answer; blobs = []; edits = [] }

-- the plan of a call that may be rejected as a whole: the error, else what is made of its plan
abbrev pub unless_rejected : Invocation → (sets.Plan → Plan) → Outcome → Plan
unless_rejected c make (sets.invalid name) = refused c (codes "invalidArguments")
unless_rejected c make sets.too_large = refused c (codes "requestTooLarge")
unless_rejected c make sets.state_mismatch = refused c (codes "stateMismatch")
unless_rejected c make (sets.planned p) = make p

-- the response of a plan, what it creates, its blobs and its edits
abbrev pub planned_with : Invocation → sets.Plan → Plan
planned_with c p = record {
  out = Replies (record { responses = response_to c p.reply ∷ []; made = p.made });
  blobs = p.blobs;
  edits = p.edits;
}

-- the plan of a set, of an import, or of copies
abbrev pub set_plan : Invocation → Outcome → Plan
set_plan c o = unless_rejected c (planned_with c) o

-- the planner of a set, of an import or of copies returned this outcome
abbrev pub IsOutcomeOf : Result SetPlan SetFault → Outcome → Type 0
IsOutcomeOf returned o =
    MatchResult returned (λ p. o ≡ sets.planned (plan_of p)) (λ e. ExplainsSet e o)

-- what a set is planned on
abbrev pub ground_in : History → Ground
ground_in h = ground_of_history h

-- the plans of a Mailbox/set and of an Email/set
abbrev pub mailbox_set_plan : Invocation → List Created → Ground → Plan
mailbox_set_plan c made g = set_plan c (mailbox_set_outcome g c.args made)

abbrev pub email_set_plan : Invocation → List Created → Ground → Plan
email_set_plan c made g = set_plan c (email_set_outcome g c.args made)

-- The plan of a method of mail, or of a name that is none's: over an account with this history,
-- with what the request has made up to here, of a user to whom the account is read-only or not, at
-- a timestamp in Unix seconds.
abbrev pub plan_by : History → Invocation → List Created → Bool → ℕ → Option MailMethod → Plan
plan_by h c made read_only moment None = refused c (codes "unknownMethod")
plan_by h c made read_only moment (Some (Get kind)) =
    get_plan c (get_of_kind kind h c.args read_only)
plan_by h c made read_only moment (Some (Changes kind)) =
    outcome_plan c (changes_outcome h kind c.args)
plan_by h c made read_only moment (Some (Query kind)) = outcome_plan c (queried h kind c.args)
plan_by h c made read_only moment (Some (QueryChanges kind)) =
    outcome_plan c (query_changed h kind c.args)
plan_by h c made read_only moment (Some MailboxSet) =
    mailbox_set_plan c made (ground_in h)
plan_by h c made read_only moment (Some EmailSet) =
    email_set_plan c made (ground_in h)
plan_by h c made read_only moment (Some EmailImport) =
    set_plan c (import_in h c.args made moment)
plan_by h c made read_only moment (Some EmailParse) = get_plan c (parse_in h c.args)

-- the plan of a method, by its name
abbrev pub method_plan : History → Invocation → List Created → Bool → ℕ → Plan
method_plan h c made read_only moment =
    plan_by h c made read_only moment (method_named c.name)

-- ---- the two sides of a copy

-- this plan, unless there is a reason to reject the call as a whole
abbrev pub unless_for : Invocation → Plan → Option Outcome → Plan
unless_for c p None = p
unless_for c p (Some o) = unless_rejected c (λ q. p) o

-- what an Email/copy fetches in the account of the originals
abbrev pub originals_plan : History → Invocation → Plan
originals_plan h c =
    unless_for c (reading (out.Carried (fetched_in h c.args))) (fetch_rejection h c.args)

-- what a Blob/copy fetches in the account of the blobs
abbrev pub blobs_plan : History → Invocation → Plan
blobs_plan h c =
    unless_for c (reading (out.Carried (blobs_fetched_in h c.args))) (blob_rejection c.args)

-- the plan of an Email/copy in the account of the copies
abbrev pub copies_plan : History → Invocation → Carried → List Created → ℕ → Plan
copies_plan h c carried made moment = set_plan c (place_in h c.args carried made moment)

-- the response of the plan of a Blob/copy, with its blobs
abbrev pub blobs_planned : Invocation → BlobPlan → Plan
blobs_planned c p = record {
  out = Replies (record { responses = response_to c p.reply ∷ []; made = [] });
  blobs = p.blobs;
  edits = [];
}

-- the plan of a Blob/copy in the account of the copies
abbrev pub blob_copies_plan : History → Invocation → Carried → Plan
blob_copies_plan h c carried =
    unless_for c (blobs_planned c (blob_plan_in h c.args carried)) (blob_rejection c.args)

-- What a method that copies, or a name of none, fetches: what is carried, or the error. Nothing
-- is changed.
abbrev pub fetch_by : History → Invocation → Option CopyMethod → Plan
fetch_by h c None = refused c (codes "unknownMethod")
fetch_by h c (Some Emails) = originals_plan h c
fetch_by h c (Some Blobs) = blobs_plan h c

abbrev pub fetch_plan : History → Invocation → Plan
fetch_plan h c = fetch_by h c (copy_method_named c.name)

-- The plan of what is carried to an account, whatever it is, by a method that copies, or a name of
-- none.
abbrev pub placement_by : History → Invocation → Carried → List Created → ℕ → Option CopyMethod
    → Plan
placement_by h c carried made moment None = refused c (codes "unknownMethod")
placement_by h c carried made moment (Some Emails) = copies_plan h c carried made moment
placement_by h c carried made moment (Some Blobs) = blob_copies_plan h c carried

abbrev pub placement_plan : History → Invocation → Carried → List Created → ℕ → Plan
placement_plan h c carried made moment =
    placement_by h c carried made moment (copy_method_named c.name)

-- ---- whatever is asked

-- The plan of what is asked. A method that copies is asked of two accounts by `Fetch` and `Place`,
-- and is no method of one.
abbrev pub ask_plan : History → Ask → List Created → Bool → ℕ → Plan
ask_plan h (Method c) made read_only moment = method_plan h (call_of c) made read_only moment
ask_plan h (Upload bytes) made read_only moment = upload_plan h bytes
ask_plan h (Blob name) made read_only moment = reading (out.Blob (bytes_named (blobs_of h) name))
ask_plan h (Fetch c) made read_only moment = fetch_plan h (call_of c)
ask_plan h (Place c carried) made read_only moment =
    placement_plan h (call_of c) carried made moment
ask_plan h States made read_only moment =
    reading (out.States (state_of h OfMailbox) (state_of h OfEmail) (state_of h OfThread))

-- what a call plans at a timestamp, in Unix seconds
abbrev pub call_plan : History → Call → ℕ → Plan
call_plan h call moment = ask_plan h call.ask call.made call.read_only moment
