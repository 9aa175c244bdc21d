-- After each step of a port the session has all that it had.
use Rattle.std.proofs.Common.{◌≡◌, ◌⊎◌, inl, inr, ℕ, List, Option, None, Some, Result, Ok, Err, IsUtf8, sym, ap, subst}
use Rattle.jm_json.specs.Call.{Call as Invocation}
use Rattle.jm_json.specs.declared.invocation.Created.{Created}
use Rattle.jm_json.specs.declared.invocation.Replied.{Replied}
use Rattle.mail_records.specs.Histories.{History}
use Rattle.account_book.specs.declared.asks.Call.{Call}
use Rattle.account_book.specs.declared.plans.Out.{Out}
use Rattle.account_book.specs.declared.plans.Plan.{Plan}
use Rattle.account_hall.proofs.Growing.{grown_called, grown_looked, grown_on, grown_same}
use Rattle.account_hall.specs.Growing.{HasGrown}
use Rattle.account_hall.specs.Halls.{RoomView}
use Rattle.account_hall.specs.Copies.{HasBegunCopy, HasTaken, IsCopy, IsNextCall, copy_steps}
use Rattle.account_hall.specs.Sessions.{SessionView}
use Rattle.account_hall.specs.declared.copies.CopyCall.{CopyCall}
use Rattle.batch_lines.specs.Input.{Seen}
use Rattle.batch_lines.specs.declared.fault.LinesFault.{LinesFault}
use Rattle.batch_lines.specs.declared.upload.Uploaded.{Uploaded}
use Rattle.jmap_http.specs.Connections.{asks_to_end}
use Rattle.jmap_http.specs.declared.port.AccountStates.{AccountStates}
use Rattle.jmap_http.specs.declared.port.Stored.{Stored}
use Rattle.jmap_http.specs.declared.served.Served.{Served}
use Rattle.server_users.specs.Configuration.{Configuration}
use Rattle.server_users.specs.declared.users.UserAccount.{UserAccount}
use Rattle.copy_calls.specs.Originals.{originals_call}
use Rattle.hall_port.specs.Lines.{AnswersLines, HaltsAt, UploadsTo, first_changeable, line_halts, line_uploads}
use Rattle.hall_port.specs.Serving.{ServesHall, hall_steps, port_over}
use Rattle.hall_port.specs.Steps.{AnswersBy, AnswersFrom, HasBegunTo, HasReadStates, HasStopped, IsAsked, IsRead, IsUploaded, StopsBy, StopsFrom, begins, calls_by, has_account, hall_answers, hall_halts, hall_looks, hall_reads, hall_stops, hall_uploads}
use Rattle.read_replies.specs.Targets.{accounts_of, source_of, target_of}
use Rattle.hall_port.specs.Views.{PortView}
use Rattle.hall_port.proofs.ThroughLines.{IsKeptByLines, through_lines}
use Rattle.hall_port.proofs.Through.{IsKeptBySteps, by_cond, through}
use Rattle.hall_port.proofs.ThroughCopies.{through_begun, through_copy}

same : (s s' : SessionView) → s' ≡ s → HasGrown s s'
same s s' is = subst (HasGrown s) (sym is) (grown_same s)

same_port : (s s' : PortView) → s' ≡ s → HasGrown s.session s'.session
same_port s s' is = same s.session s'.session (ap (λ (p : PortView). p.session) is)

asked : {R : Type 0} (plan_of : R → History → Call → ℕ → Plan) (s s' : PortView) (account : ℕ) (call : Call) (out : Out) → IsAsked (calls_by plan_of) s account call out s' → HasGrown s.session s'.session
asked plan_of s s' account call out a = grown_called (plan_of a.next.0) account call s.time s.session s'.session out a.next.1

stopped : (account : ℕ) (s s' : PortView) → HasStopped account s s' → HasGrown s.session s'.session
stopped account s s' (inl is) = same_port s s' is
stopped account s s' (inr (look, rest)) = grown_looked account s.session s'.session look

-- ---- copies

taken : (from to : ℕ) (s s' : SessionView) → HasTaken from to s s' → HasGrown s s'
taken from to s s' w = grown_on s w.between s' (grown_looked from s w.between w.first) (grown_looked to w.between s' w.second)

next : {R : Type 0} (plan_of : R → History → Call → ℕ → Plan) (account : ℕ) (call : Call) (time : ℕ) (s s' : SessionView) (out : Out) → (rules : R) × IsNextCall (plan_of rules) account call time s s' out → HasGrown s s'
next plan_of account call time s s' out (rules, w) = grown_called (plan_of rules) account call time s s' out w.call_is

copied : {R : Type 0} (plan_of : R → History → Call → ℕ → Plan) (set_of : Invocation → Invocation → Option Invocation) (copy : CopyCall) (time : ℕ) (s s' : SessionView) (out : Out) → IsCopy plan_of set_of copy time s s' out → HasGrown s s'
copied plan_of set_of copy time s s' out w =
    grown_on s w.taken s' (taken copy.from copy.to s w.taken w.took)
    (through_copy (copy_steps plan_of set_of copy time) HasGrown grown_same grown_on
    (λ call m m' o did. next plan_of copy.from call time m m' o did) (λ call m m' o did. next plan_of copy.to call time m m' o did) w.taken s' out w.copied)

begun : {R : Type 0} (plan_of : R → History → Call → ℕ → Plan) (set_of : Invocation → Invocation → Option Invocation) (copy : CopyCall) (time : ℕ) (s s' : SessionView) → HasBegunCopy plan_of set_of copy time s s' → HasGrown s s'
begun plan_of set_of copy time s s' w =
    grown_on s w.taken s' (taken copy.from copy.to s w.taken w.took)
    (through_begun (copy_steps plan_of set_of copy time) HasGrown grown_same grown_on
    (λ call m m' o did. next plan_of copy.from call time m m' o did) (λ call m m' o did. next plan_of copy.to call time m m' o did) w.taken s' w.begun)

-- ---- a step of the port

answered_from : {R : Type 0} (plan_of : R → History → Call → ℕ → Plan) (from : Option UserAccount) (a : UserAccount) (s s' : PortView) (c : Invocation) (made : List Created) (r : Replied) → AnswersFrom (calls_by plan_of) from a s c made r s' → HasGrown s.session s'.session
answered_from plan_of None a s s' c made r did = asked plan_of s s' _ _ _ did.asked
answered_from plan_of (Some from) a s s' c made r did = copied plan_of originals_call _ s.time s.session s'.session did.answer did.next

answered : {R : Type 0} (plan_of : R → History → Call → ℕ → Plan) (t : Result UserAccount (List ℕ)) (from : Option UserAccount) (s s' : PortView) (c : Invocation) (made : List Created) (r : Replied) → AnswersBy (calls_by plan_of) t from s c made r s' → HasGrown s.session s'.session
answered plan_of (Ok a) from s s' c made r did = answered_from plan_of from a s s' c made r did
answered plan_of (Err kind) from s s' c made r (is, shown) = same_port s s' is

begun_to : {R : Type 0} (plan_of : R → History → Call → ℕ → Plan) (from a : UserAccount) (s s' : PortView) (c : Invocation) (made : List Created) → (s' ≡ s) ⊎ HasBegunTo (calls_by plan_of) s from a c made s' → HasGrown s.session s'.session
begun_to plan_of from a s s' c made (inl is) = same_port s s' is
begun_to plan_of from a s s' c made (inr w) = begun plan_of originals_call _ s.time s.session s'.session w.begun

stops_from : {R : Type 0} (plan_of : R → History → Call → ℕ → Plan) (from : Option UserAccount) (a : UserAccount) (s s' : PortView) (c : Invocation) (made : List Created) → StopsFrom (calls_by plan_of) from a s c made s' → HasGrown s.session s'.session
stops_from plan_of None a s s' c made did = stopped a.number s s' did
stops_from plan_of (Some from) a s s' c made did = begun_to plan_of from a s s' c made did

stops : {R : Type 0} (plan_of : R → History → Call → ℕ → Plan) (t : Result UserAccount (List ℕ)) (from : Option UserAccount) (s s' : PortView) (c : Invocation) (made : List Created) → StopsBy (calls_by plan_of) t from s c made s' → HasGrown s.session s'.session
stops plan_of (Ok a) from s s' c made did = stops_from plan_of from a s s' c made did
stops plan_of (Err kind) from s s' c made is = same_port s s' is

read : {R : Type 0} (plan_of : R → History → Call → ℕ → Plan) (s s' : PortView) (account : ℕ) (blob : List ℕ) (bytes : Option (List ℕ))
    → (IsUtf8 blob × IsRead (calls_by plan_of) s account blob bytes s') ⊎ (¬ IsUtf8 blob × (s' ≡ s) × (bytes ≡ None)) → HasGrown s.session s'.session
read plan_of s s' account blob bytes (inl (utf8, did)) = asked plan_of s s' _ _ _ did.asked
read plan_of s s' account blob bytes (inr (others, is, none)) = same_port s s' is

-- ---- the clauses

pub grown_begun : (s s' : PortView) (user time : ℕ) → begins s user time s' → HasGrown s.session s'.session
grown_begun s s' user time is = same s.session s'.session (ap (λ (p : PortView). p.session) is)

pub grown_answered : {R : Type 0} (plan_of : R → History → Call → ℕ → Plan) (s s' : PortView) (c : Invocation) (made : List Created) (r : Replied) → hall_answers (calls_by plan_of) s c made r s' → HasGrown s.session s'.session
grown_answered plan_of s s' c made r did = answered plan_of (target_of (accounts_of s.users s.user) c) (source_of (accounts_of s.users s.user) c) s s' c made r did

pub grown_stopped : {R : Type 0} (plan_of : R → History → Call → ℕ → Plan) (s s' : PortView) (c : Invocation) (made : List Created) → hall_stops (calls_by plan_of) s c made s' → HasGrown s.session s'.session
grown_stopped plan_of s s' c made did = stops plan_of (target_of (accounts_of s.users s.user) c) (source_of (accounts_of s.users s.user) c) s s' c made did

pub grown_uploaded : {R : Type 0} (plan_of : R → History → Call → ℕ → Plan) (s s' : PortView) (account : ℕ) (bytes : List ℕ) (stored : Stored) → hall_uploads (calls_by plan_of) s account bytes stored s' → HasGrown s.session s'.session
grown_uploaded plan_of s s' account bytes stored did = by_cond (has_account s account) _ _ _ (λ (u : IsUploaded (calls_by plan_of) s account bytes stored s'). asked plan_of s s' _ _ _ u.asked) (λ u. same_port s s' u.0) did

pub grown_read : {R : Type 0} (plan_of : R → History → Call → ℕ → Plan) (s s' : PortView) (account : ℕ) (blob : List ℕ) (bytes : Option (List ℕ)) → hall_reads (calls_by plan_of) s account blob bytes s' → HasGrown s.session s'.session
grown_read plan_of s s' account blob bytes did = by_cond (has_account s account) _ _ _ (read plan_of s s' account blob bytes) (λ u. same_port s s' u.0) did

pub grown_told : {R : Type 0} (plan_of : R → History → Call → ℕ → Plan) (s s' : PortView) (account : ℕ) (states : Option AccountStates) → hall_looks (calls_by plan_of) s account states s' → HasGrown s.session s'.session
grown_told plan_of s s' account states did = by_cond (has_account s account) _ _ _ (λ (u : HasReadStates (calls_by plan_of) s account states s'). asked plan_of s s' _ _ _ u.asked) (λ u. same_port s s' u.0) did

pub grown_halted : (s s' : PortView) (account : ℕ) → hall_halts s account s' → HasGrown s.session s'.session
grown_halted s s' account did = by_cond (has_account s account) _ _ _ (stopped account s s') (same_port s s') did

abbrev HasGrownPort : PortView → PortView → Type 0
HasGrownPort s s' = HasGrown s.session s'.session

grows : {R : Type 0} (plan_of : R → History → Call → ℕ → Plan) → IsKeptBySteps (hall_steps (calls_by plan_of)) HasGrownPort
grows plan_of = record {
  stay = λ s. grown_same s.session;
  go = λ s m s' one two. grown_on s.session m.session s'.session one two;
  begins = λ s user time s' is. grown_begun s s' user time is;
  answers = λ s c made r s' did. grown_answered plan_of s s' c made r did;
  stops = λ s c made s' did. grown_stopped plan_of s s' c made did;
  uploads = λ s account bytes stored s' did. grown_uploaded plan_of s s' account bytes stored did;
  upload_stops = λ s account bytes s' did. grown_halted s s' account did;
  reads = λ s account blob bytes s' did. grown_read plan_of s s' account blob bytes did;
  read_stops = λ s account blob s' did. grown_halted s s' account did;
}

pub grown_served : {R : Type 0} (plan_of : R → History → Call → ℕ → Plan) (rooms : List RoomView) (users : Configuration) (session session' : SessionView) (times times' left left' held held' : Option (List ℕ)) (reads reads' puts puts' : ℕ) (served : Served)
    → ServesHall (calls_by plan_of) rooms users session session' times times' left left' held held' reads reads' puts puts' served → HasGrown session session'
grown_served plan_of rooms users session session' times times' left left' held held' reads reads' puts puts' served w =
    subst (HasGrown session) (sym w.session_is) (through (hall_steps (calls_by plan_of)) HasGrownPort (grows plan_of) users.users asks_to_end (port_over rooms users session) w.after times times' left left' held held' reads reads' puts puts' served w.serves)

-- ---- lines

uploaded_to : {R : Type 0} (plan_of : R → History → Call → ℕ → Plan) (o : Option UserAccount) (s : PortView) (bytes : List ℕ) (u : Uploaded) (s' : PortView) → UploadsTo (calls_by plan_of) o s bytes u s' → HasGrownPort s s'
uploaded_to plan_of None s bytes u s' w = same_port s s' w.0
uploaded_to plan_of (Some a) s bytes u s' (stored, did, shown) = asked plan_of s s' _ _ _ did.asked

halted_at : (o : Option UserAccount) (s s' : PortView) → HaltsAt o s s' → HasGrownPort s s'
halted_at None s s' is = same_port s s' is
halted_at (Some a) s s' w = stopped a.number s s' w

grows_by_lines : {R : Type 0} (plan_of : R → History → Call → ℕ → Plan) → IsKeptByLines (line_uploads (calls_by plan_of)) line_halts HasGrownPort
grows_by_lines plan_of = record {
  uploaded = λ s bytes u s' w. uploaded_to plan_of (first_changeable (accounts_of s.users s.user)) s bytes u s' w;
  halted = λ s bytes s' w. halted_at (first_changeable (accounts_of s.users s.user)) s s' w;
}

pub grown_by_lines : {R : Type 0} (plan_of : R → History → Call → ℕ → Plan) (rooms : List RoomView) (users : Configuration) (session session' : SessionView) (outcome : Result (Unit {0}) LinesFault) (v : Seen)
    → AnswersLines (calls_by plan_of) rooms users session session' outcome v → HasGrown session session'
grown_by_lines plan_of rooms users session session' outcome v w =
    subst (HasGrown session) (sym w.session_is) (through_lines (hall_steps (calls_by plan_of)) (line_uploads (calls_by plan_of)) line_halts HasGrownPort (grows plan_of) (grows_by_lines plan_of) (port_over rooms users session) w.after v w.begun)
