-- The steps of a port over a hall: how it goes from a state to another.
use Rattle.std.specs.Prelude.{◌≡◌, ℕ, nat_lt, ◌⊎◌, refl, length, List, [], Bool, false, Option, None, Some, Result, Ok, Err, cond, IsUtf8}
use Rattle.std.proofs.Common.{inl}
use Rattle.jm_json.specs.Call.{Call as Invocation}
use Rattle.jm_json.specs.Invocations.{call_of}
use Rattle.jm_json.specs.declared.invocation.Invocation.{Invocation as TheInvocation}
use Rattle.jm_json.specs.declared.invocation.Created.{Created}
use Rattle.jm_json.specs.declared.invocation.Replied.{Replied}
use Rattle.mail_records.specs.Histories.{History}
use Rattle.account_book.specs.declared.asks.Ask.TheVariants.{Upload, Blob, States}
use Rattle.account_book.specs.declared.asks.Call.{Call}
use Rattle.account_book.specs.declared.plans.Out.{Out}
use Rattle.account_book.specs.declared.plans.Out.TheVariants as out
use Rattle.account_book.specs.declared.plans.Plan.{Plan}
use Rattle.account_hall.specs.Copies.{HasBegunCopy, IsCopy}
use Rattle.account_hall.specs.Sessions.{IsCall, IsLook, SessionView}
use Rattle.account_hall.specs.declared.copies.CopyCall.{CopyCall}
use Rattle.copy_calls.specs.Originals.{originals_call}
use Rattle.jmap_http.specs.Steps.{OwnSteps}
use Rattle.jmap_http.specs.declared.port.AccountStates.{AccountStates}
use Rattle.jmap_http.specs.declared.port.Stored.{Stored}
use Rattle.jmap_http.specs.declared.port.Stored.TheVariants.{Kept, Full, Failed}
use Rattle.server_users.specs.declared.users.UserAccount.{UserAccount}
use Rattle.read_replies.specs.Reads.{method_call}
use Rattle.read_replies.specs.Replies.{error_alone, replied_of}
use Rattle.read_replies.specs.Targets.{accounts_of, source_of, target_of}
use Rattle.hall_port.specs.Views.{PortView}

-- What a session's next call, or copy, may be: on the account with this number this call, at this
-- timestamp, takes the session from a state to another, and is answered so; so does this copy; and
-- this copy, which ends out of memory, takes it from a state to another.
pub record Calls : Type 1 where
  pub calls : ℕ → Call → ℕ → SessionView → SessionView → Out → Type 0
  pub copies : CopyCall → ℕ → SessionView → SessionView → Out → Type 0
  pub copy_stops : CopyCall → ℕ → SessionView → SessionView → Type 0

-- The calls and copies that a hall performs, by some rules with these plans. A copy of emails is
-- followed by the set that destroys their originals, if it asks for that (RFC 8620, 5.4).
abbrev pub calls_by : {R : Type 0} → (R → History → Call → ℕ → Plan) → Calls
calls_by {R} plan_of = record {
  calls = λ account call time old new answer.
      (rules : R) × IsCall (plan_of rules) account call time old new answer;
  copies = IsCopy plan_of originals_call;
  copy_stops = HasBegunCopy plan_of originals_call;
}

-- ---- a request begins

-- the port with that user and that timestamp
abbrev pub begun : PortView → ℕ → ℕ → PortView
begun s user time = record s { user = user; time = time }

abbrev pub begins : PortView → ℕ → ℕ → PortView → Type 0
begins s user time s' = s' ≡ begun s user time

-- ---- an account of the hall is asked

-- the port with another session
abbrev pub with_session : PortView → SessionView → PortView
with_session s session = record s { session = session }

-- The account with this number was asked, and answered so, at the timestamp of the request: it is
-- the session's next call. Nothing else of the port changed.
pub record IsAsked (calls : Calls) (s : PortView) (account : ℕ) (call : Call) (answer : Out)
    (s' : PortView) : Type 0 where
  pub next : calls.calls account call s.time s.session s'.session answer
  pub rest : s' ≡ with_session s s'.session

-- A call on the account ended out of memory: the port is as it was, or its session has seen more of
-- the account.
abbrev pub HasStopped : ℕ → PortView → PortView → Type 0
HasStopped account s s' =
    (s' ≡ s) ⊎ (IsLook account s.session s'.session × (s' ≡ with_session s s'.session))

-- ---- methods

-- a method was performed on an account of the user, and is replied so
pub record IsPerformed (calls : Calls) (s : PortView) (a : UserAccount)
    (c : Invocation) (made : List Created) (r : Replied) (s' : PortView) : Type 0 where
  pub call : TheInvocation
  pub answer : Out
  pub same : call_of call ≡ c
  pub asked : IsAsked calls s a.number (method_call call made a.read_only) answer s'
  pub shown : r ≡ replied_of answer

-- the copy that a method call is, from an account of the user to another
abbrev pub copy_call : UserAccount → UserAccount → TheInvocation → List Created → CopyCall
copy_call from to c made = record {
  from = from.number;
  to = to.number;
  from_read_only = from.read_only;
  call = c;
  made = made;
}

-- A copy was performed between two accounts of the user, and is replied so, at the timestamp of the
-- request: it is what the session did next. Nothing else of the port changed.
pub record IsCopied (calls : Calls) (s : PortView) (from to : UserAccount) (c : Invocation)
    (made : List Created) (r : Replied) (s' : PortView) : Type 0 where
  pub call : TheInvocation
  pub answer : Out
  pub same : call_of call ≡ c
  pub next : calls.copies (copy_call from to call made) s.time s.session s'.session answer
  pub rest : s' ≡ with_session s s'.session
  pub shown : r ≡ replied_of answer

-- such a copy ended out of memory, and what was done before that is kept
pub record HasBegunTo (calls : Calls) (s : PortView) (from to : UserAccount) (c : Invocation)
    (made : List Created) (s' : PortView) : Type 0 where
  pub call : TheInvocation
  pub same : call_of call ≡ c
  pub begun : calls.copy_stops (copy_call from to call made) s.time s.session s'.session
  pub rest : s' ≡ with_session s s'.session

-- what a call does to the account on which it is performed, where a copy is from this one
abbrev pub AnswersFrom : Calls → Option UserAccount → UserAccount → PortView → Invocation
    → List Created → Replied → PortView → Type 0
AnswersFrom calls None a s c made r s' = IsPerformed calls s a c made r s'
AnswersFrom calls (Some from) a s c made r s' = IsCopied calls s from a c made r s'

abbrev pub AnswersBy : Calls → Result UserAccount (List ℕ) → Option UserAccount → PortView
    → Invocation → List Created → Replied → PortView → Type 0
AnswersBy calls (Ok a) from s c made r s' = AnswersFrom calls from a s c made r s'
AnswersBy calls (Err kind) from s c made r s' = (s' ≡ s) × (r ≡ error_alone kind c)

-- A call is answered by the error of the accounts that it names. Any other copy is performed
-- between the two accounts that it names, and any other call on the account that it names.
abbrev pub hall_answers : Calls → PortView → Invocation → List Created → Replied
    → PortView → Type 0
hall_answers calls s c made r s' =
    AnswersBy calls (target_of (accounts_of s.users s.user) c)
    (source_of (accounts_of s.users s.user) c) s c made r s'

abbrev pub StopsFrom : Calls → Option UserAccount → UserAccount → PortView → Invocation
    → List Created → PortView → Type 0
StopsFrom calls None a s c made s' = HasStopped a.number s s'
StopsFrom calls (Some from) a s c made s' = (s' ≡ s) ⊎ HasBegunTo calls s from a c made s'

abbrev pub StopsBy : Calls → Result UserAccount (List ℕ) → Option UserAccount → PortView
    → Invocation → List Created → PortView → Type 0
StopsBy calls (Ok a) from s c made s' = StopsFrom calls from a s c made s'
StopsBy calls (Err kind) from s c made s' = s' ≡ s

abbrev pub hall_stops : Calls → PortView → Invocation → List Created → PortView → Type 0
hall_stops calls s c made s' =
    StopsBy calls (target_of (accounts_of s.users s.user) c)
    (source_of (accounts_of s.users s.user) c) s c made s'

stays_from : (calls : Calls) (from : Option UserAccount) (a : UserAccount) (s : PortView)
    (c : Invocation) (made : List Created) → StopsFrom calls from a s c made s
stays_from calls None a s c made = inl refl
stays_from calls (Some from) a s c made = inl refl

stays_by : (calls : Calls) (t : Result UserAccount (List ℕ)) (from : Option UserAccount)
    (s : PortView) (c : Invocation) (made : List Created) → StopsBy calls t from s c made s
stays_by calls (Ok a) from s c made = stays_from calls from a s c made
stays_by calls (Err kind) from s c made = refl

pub hall_stays : (calls : Calls) (s : PortView) (c : Invocation) (made : List Created)
    → hall_stops calls s c made s
hall_stays calls s c made =
    stays_by calls (target_of (accounts_of s.users s.user) c)
    (source_of (accounts_of s.users s.user) c) s c made

-- ---- uploads and downloads

-- the number is that of an account of the server
abbrev pub has_account : PortView → ℕ → Bool
has_account s account = nat_lt account (length s.users.account_ids)

-- what an account's answer to an upload is
abbrev pub stored_of : Out → Stored
stored_of (out.Uploaded number) = Kept number
stored_of out.Full = Full
stored_of _ = Failed

-- the call on an account that an upload of these bytes is
abbrev pub upload_call : List ℕ → Call
upload_call bytes = record { ask = Upload bytes; made = []; read_only = false }

-- an upload of these bytes was performed on the account, and is answered so
pub record IsUploaded (calls : Calls) (s : PortView) (account : ℕ)
    (bytes : List ℕ) (stored : Stored) (s' : PortView) : Type 0 where
  pub answer : Out
  pub asked : IsAsked calls s account (upload_call bytes) answer s'
  pub shown : stored ≡ stored_of answer

-- An upload is performed on the account with that number, and fails if there is none.
abbrev pub hall_uploads : Calls → PortView → ℕ → List ℕ → Stored → PortView
    → Type 0
hall_uploads calls s account bytes stored s' =
    cond (has_account s account) (IsUploaded calls s account bytes stored s')
    ((s' ≡ s) × (stored ≡ Failed))

-- what an account's answer to the reading of a blob is
abbrev pub bytes_of : Out → Option (List ℕ)
bytes_of (out.Blob o) = o
bytes_of _ = None

-- the call on an account that the reading of what this identifier names is
abbrev pub blob_call : List ℕ → Call
blob_call blob = record { ask = Blob blob; made = []; read_only = false }

-- what an identifier names was read of the account, and these bytes are the answer
pub record IsRead (calls : Calls) (s : PortView) (account : ℕ) (blob : List ℕ)
    (bytes : Option (List ℕ)) (s' : PortView) : Type 0 where
  pub answer : Out
  pub asked : IsAsked calls s account (blob_call blob) answer s'
  pub shown : bytes ≡ bytes_of answer

-- An identifier that is UTF-8 is looked up in the account with that number. One that is not names
-- nothing, as each one if there is no such account.
abbrev pub hall_reads : Calls → PortView → ℕ → List ℕ → Option (List ℕ) → PortView
    → Type 0
hall_reads calls s account blob bytes s' =
    cond (has_account s account)
    ((IsUtf8 blob × IsRead calls s account blob bytes s')
    ⊎ (¬ IsUtf8 blob × (s' ≡ s) × (bytes ≡ None)))
    ((s' ≡ s) × (bytes ≡ None))

-- ---- states

-- the states that an account's answer tells
abbrev pub states_of : Out → Option AccountStates
states_of (out.States mailbox email thread) =
    Some (record { mailbox = mailbox; email = email; thread = thread })
states_of _ = None

-- the call on an account that the reading of its states is
abbrev pub states_call : Call
states_call = record { ask = States; made = []; read_only = false }

-- the states of the account were read, and these are the answer
pub record HasReadStates (calls : Calls) (s : PortView) (account : ℕ)
    (states : Option AccountStates) (s' : PortView) : Type 0 where
  pub answer : Out
  pub asked : IsAsked calls s account states_call answer s'
  pub shown : states ≡ states_of answer

-- The states of the account with that number are read, if there is one.
abbrev pub hall_looks : Calls → PortView → ℕ → Option AccountStates → PortView → Type 0
hall_looks calls s account states s' =
    cond (has_account s account) (HasReadStates calls s account states s')
    ((s' ≡ s) × (states ≡ None))

-- an upload or a reading that ends out of memory
abbrev pub hall_halts : PortView → ℕ → PortView → Type 0
hall_halts s account s' = cond (has_account s account) (HasStopped account s s') (s' ≡ s)

-- ---- all beside the calls

abbrev pub hall_own : Calls → OwnSteps PortView
hall_own calls = record {
  begins = begins;
  uploads = hall_uploads calls;
  upload_stops = λ s account bytes s'. hall_halts s account s';
  reads = hall_reads calls;
  read_stops = λ s account blob s'. hall_halts s account s';
  looks = hall_looks calls;
  look_stops = hall_halts;
}
