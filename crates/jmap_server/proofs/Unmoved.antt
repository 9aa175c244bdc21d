-- What the accounts of a session opened with stays as it was while a connection is served.
use Rattle.std.proofs.Common.{◌≡◌, ◌⊎◌, inl, inr, ℕ, zero, suc, List, [], ◌∷◌, Option, None, Some, Result, Ok, Err, slice_get, IsUtf8, refl, sym, ap, ◌∙◌, subst}
use Rattle.std.proofs.Math.ListN.{set}
use Rattle.std.specs.Prelude.{map}
use Rattle.jm_json.specs.Call.{Call as Invocation}
use Rattle.jm_json.specs.declared.invocation.Created.{Created}
use Rattle.jm_json.specs.declared.invocation.Replied.{Replied}
use Rattle.mail_records.specs.Histories.{History}
use Rattle.account_book.specs.declared.asks.Call.{Call}
use Rattle.account_book.specs.declared.plans.Out.{Out}
use Rattle.account_book.specs.declared.plans.Plan.{Plan}
use Rattle.account_lock.specs.Views.{PassFacts}
use Rattle.account_hall.specs.Halls.{RoomView}
use Rattle.account_hall.specs.Copies.{HasBegunCopy, HasTaken, IsCopy, IsNextCall, copy_steps}
use Rattle.account_hall.specs.Sessions.{IsCall, IsLook, SessionView}
use Rattle.account_hall.specs.declared.copies.CopyCall.{CopyCall}
use Rattle.jmap_http.specs.Connections.{asks_to_end}
use Rattle.jmap_http.specs.declared.served.Served.{Served}
use Rattle.server_users.specs.Configuration.{Configuration}
use Rattle.server_users.specs.declared.users.UserAccount.{UserAccount}
use Rattle.hall_port.specs.Serving.{ServesHall, hall_steps, port_over}
use Rattle.hall_port.specs.Steps.{AnswersBy, AnswersFrom, HasBegunTo, HasStopped, IsAsked, IsRead, IsUploaded, StopsBy, StopsFrom, calls_by, has_account, hall_halts}
use Rattle.read_replies.specs.Targets.{accounts_of, source_of, target_of}
use Rattle.hall_port.specs.Views.{PortView}
use Rattle.hall_port.proofs.Through.{IsKeptBySteps, by_cond, through}
use Rattle.hall_port.proofs.ThroughCopies.{through_begun, through_copy}
use Rattle.account_hall.specs.Closing.{opened_by}

-- the accounts of the two sessions opened with the same
abbrev pub AreSameOpenings : SessionView → SessionView → Type 0
AreSameOpenings s s' = map opened_by s'.passes ≡ map opened_by s.passes

put_there : (ks : List PassFacts) (i : ℕ) (k k' : PassFacts) → slice_get ks i ≡ Some k → k'.opening ≡ k.opening → map opened_by (set ks i k') ≡ map opened_by ks
put_there [] i k k' there e = absurd (cc there)
put_there (z ∷ zs) zero k k' there e = let same : z ≡ k = cc there in ap (λ (h : History). h ∷ map opened_by zs) (e ∙ ap opened_by (sym same))
put_there (z ∷ zs) (suc i) k k' there e = ap (λ (hs : List History). z.opening ∷ hs) (put_there zs i k k' there e)

unchanged : (s : SessionView) → AreSameOpenings s s
unchanged s = refl

further : (s m s' : SessionView) → AreSameOpenings s m → AreSameOpenings m s' → AreSameOpenings s s'
further s m s' one two = two ∙ one

same_port : (s s' : PortView) → s' ≡ s → AreSameOpenings s.session s'.session
same_port s s' is = ap (λ (p : PortView). map opened_by p.session.passes) is

called : (plan : History → Call → ℕ → Plan) (account : ℕ) (call : Call) (time : ℕ) (s s' : SessionView) (out : Out) → IsCall plan account call time s s' out → AreSameOpenings s s'
called plan account call time s s' out c = ap (map opened_by) c.passes ∙ put_there s.passes account c.pass c.pass' c.there (ap opened_by c.same)

looked : (account : ℕ) (s s' : SessionView) → IsLook account s s' → AreSameOpenings s s'
looked account s s' l = ap (map opened_by) l.passes ∙ put_there s.passes account l.pass l.pass' l.there (ap opened_by l.looked.same)

taken : (from to : ℕ) (s s' : SessionView) → HasTaken from to s s' → AreSameOpenings s s'
taken from to s s' w = further s w.between s' (looked from s w.between w.first) (looked to w.between s' w.second)

module _ {R : Type 0} (plan_of : R → History → Call → ℕ → Plan) where
  asked : (s s' : PortView) (account : ℕ) (call : Call) (out : Out) → IsAsked (calls_by plan_of) s account call out s' → AreSameOpenings s.session s'.session
  asked s s' account call out a = called (plan_of a.next.0) account call s.time s.session s'.session out a.next.1

  next : (account : ℕ) (call : Call) (time : ℕ) (s s' : SessionView) (out : Out) → (rules : R) × IsNextCall (plan_of rules) account call time s s' out → AreSameOpenings s s'
  next account call time s s' out (rules, w) = called (plan_of rules) account call time s s' out w.call_is

  copied : (set_of : Invocation → Invocation → Option Invocation) (copy : CopyCall) (time : ℕ) (s s' : SessionView) (out : Out) → IsCopy plan_of set_of copy time s s' out → AreSameOpenings s s'
  copied set_of copy time s s' out w =
      further s w.taken s' (taken copy.from copy.to s w.taken w.took)
      (through_copy (copy_steps plan_of set_of copy time) AreSameOpenings unchanged further
      (λ call m m' o did. next copy.from call time m m' o did) (λ call m m' o did. next copy.to call time m m' o did) w.taken s' out w.copied)

  begun : (set_of : Invocation → Invocation → Option Invocation) (copy : CopyCall) (time : ℕ) (s s' : SessionView) → HasBegunCopy plan_of set_of copy time s s' → AreSameOpenings s s'
  begun set_of copy time s s' w =
      further s w.taken s' (taken copy.from copy.to s w.taken w.took)
      (through_begun (copy_steps plan_of set_of copy time) AreSameOpenings unchanged further
      (λ call m m' o did. next copy.from call time m m' o did) (λ call m m' o did. next copy.to call time m m' o did) w.taken s' w.begun)

  answered_from : (from : Option UserAccount) (a : UserAccount) (s s' : PortView) (c : Invocation) (made : List Created) (r : Replied) → AnswersFrom (calls_by plan_of) from a s c made r s' → AreSameOpenings s.session s'.session
  answered_from None a s s' c made r did = asked s s' _ _ _ did.asked
  answered_from (Some from) a s s' c made r did = copied _ _ s.time s.session s'.session did.answer did.next

  answered : (t : Result UserAccount (List ℕ)) (from : Option UserAccount) (s s' : PortView) (c : Invocation) (made : List Created) (r : Replied) → AnswersBy (calls_by plan_of) t from s c made r s' → AreSameOpenings s.session s'.session
  answered (Ok a) from s s' c made r did = answered_from from a s s' c made r did
  answered (Err kind) from s s' c made r (is, shown) = same_port s s' is

  stopped : (account : ℕ) (s s' : PortView) → HasStopped account s s' → AreSameOpenings s.session s'.session
  stopped account s s' (inl is) = same_port s s' is
  stopped account s s' (inr (look, rest)) = looked account s.session s'.session look

  begun_to : (from a : UserAccount) (s s' : PortView) (c : Invocation) (made : List Created) → (s' ≡ s) ⊎ HasBegunTo (calls_by plan_of) s from a c made s' → AreSameOpenings s.session s'.session
  begun_to from a s s' c made (inl is) = same_port s s' is
  begun_to from a s s' c made (inr w) = begun _ _ s.time s.session s'.session w.begun

  stops_from : (from : Option UserAccount) (a : UserAccount) (s s' : PortView) (c : Invocation) (made : List Created) → StopsFrom (calls_by plan_of) from a s c made s' → AreSameOpenings s.session s'.session
  stops_from None a s s' c made did = stopped a.number s s' did
  stops_from (Some from) a s s' c made did = begun_to from a s s' c made did

  stops : (t : Result UserAccount (List ℕ)) (from : Option UserAccount) (s s' : PortView) (c : Invocation) (made : List Created) → StopsBy (calls_by plan_of) t from s c made s' → AreSameOpenings s.session s'.session
  stops (Ok a) from s s' c made did = stops_from from a s s' c made did
  stops (Err kind) from s s' c made is = same_port s s' is

  read : (s s' : PortView) (account : ℕ) (blob : List ℕ) (bytes : Option (List ℕ)) → (IsUtf8 blob × IsRead (calls_by plan_of) s account blob bytes s') ⊎ (¬ IsUtf8 blob × (s' ≡ s) × (bytes ≡ None)) → AreSameOpenings s.session s'.session
  read s s' account blob bytes (inl (utf8, did)) = asked s s' _ _ _ did.asked
  read s s' account blob bytes (inr (others, is, none)) = same_port s s' is

  halted : (s s' : PortView) (account : ℕ) → hall_halts s account s' → AreSameOpenings s.session s'.session
  halted s s' account did = by_cond (has_account s account) _ _ _ (stopped account s s') (same_port s s') did

  abbrev AreSamePorts : PortView → PortView → Type 0
  AreSamePorts s s' = AreSameOpenings s.session s'.session

  stays : IsKeptBySteps (hall_steps (calls_by plan_of)) AreSamePorts
  stays = record {
    stay = λ s. refl;
    go = λ s m s' one two. further s.session m.session s'.session one two;
    begins = λ s user time s' is. ap (λ (p : PortView). map opened_by p.session.passes) is;
    answers = λ s c made r s' did. answered (target_of (accounts_of s.users s.user) c) (source_of (accounts_of s.users s.user) c) s s' c made r did;
    stops = λ s c made s' did. stops (target_of (accounts_of s.users s.user) c) (source_of (accounts_of s.users s.user) c) s s' c made did;
    uploads = λ s account bytes stored s' did. by_cond (has_account s account) _ _ _ (λ (u : IsUploaded (calls_by plan_of) s account bytes stored s'). asked s s' _ _ _ u.asked) (λ u. same_port s s' u.0) did;
    upload_stops = λ s account bytes s' did. halted s s' account did;
    reads = λ s account blob bytes s' did. by_cond (has_account s account) _ _ _ (read s s' account blob bytes) (λ u. same_port s s' u.0) did;
    read_stops = λ s account blob s' did. halted s s' account did;
  }

  pub openings_stay : (rooms : List RoomView) (users : Configuration) (session session' : SessionView) (times times' left left' held held' : Option (List ℕ)) (reads reads' puts puts' : ℕ) (served : Served)
      → ServesHall (calls_by plan_of) rooms users session session' times times' left left' held held' reads reads' puts puts' served → AreSameOpenings session session'
  openings_stay rooms users session session' times times' left left' held held' reads reads' puts puts' served w =
      subst (AreSameOpenings session) (sym w.session_is) (through (hall_steps (calls_by plan_of)) AreSamePorts stays users.users asks_to_end (port_over rooms users session) w.after times times' left left' held held' reads reads' puts puts' served w.serves)
