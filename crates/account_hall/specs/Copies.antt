-- What a copy from one account to another is: the calls of one copy, in order. The definitions of
-- the first part are over any states of a session; those of the last part over a session of a hall.
use Rattle.std.specs.Prelude.{◌≡◌, ℕ, ◌+◌, ◌⊎◌, Bool, false, cond, List, [], ◌∷◌, ◌++◌, take, min, max, slice_get, Option, Some, None, option_and_then, Result, Ok, Err, codes}
use Rattle.jm_json.specs.Call.{Call as Invocation, error_of}
use Rattle.jm_json.specs.Invocations.{call_of}
use Rattle.jm_json.specs.declared.invocation.Invocation.{Invocation as TheInvocation}
use Rattle.jm_json.specs.declared.invocation.Created.{Created}
use Rattle.jm_json.specs.declared.invocation.Replied.{Replied}
use Rattle.mail_records.specs.Histories.{History}
use Rattle.account_book.specs.declared.asks.Ask.TheVariants.{Method, Fetch, Place}
use Rattle.account_book.specs.declared.asks.Call.{Call}
use Rattle.account_book.specs.declared.asks.Carried.{Carried}
use Rattle.account_book.specs.declared.plans.Out.{Out}
use Rattle.account_book.specs.declared.plans.Out.TheVariants as out
use Rattle.account_book.specs.declared.plans.Plan.{Plan}
use Rattle.account_lock.specs.Views.{PassFacts, turn_of}
use Rattle.account_hall.specs.Histories.{seen_count}
use Rattle.account_hall.specs.Sessions.{IsCall, IsLook, SessionView}
use Rattle.account_hall.specs.declared.copies.CopyCall.{CopyCall}

-- ---- the calls of a copy

-- what the account of the originals is asked first
abbrev pub fetch_call : TheInvocation → List Created → Call
fetch_call c made = record { ask = Fetch c; made = made; read_only = false }

-- what the account of the copies is asked then
abbrev pub place_call : TheInvocation → Carried → List Created → Call
place_call c carried made = record { ask = Place c carried; made = made; read_only = false }

-- what the account of the originals is asked at last
abbrev pub set_call : TheInvocation → List Created → Call
set_call c made = record { ask = Method c; made = made; read_only = false }

-- what an answer carries, or the answer itself if it carries nothing
abbrev pub carried_in : Out → Result Carried Out
carried_in (out.Carried c) = Ok c
carried_in (out.Replies r) = Err (out.Replies r)
carried_in (out.Uploaded n) = Err (out.Uploaded n)
carried_in out.Full = Err out.Full
carried_in out.Failed = Err out.Failed
carried_in (out.Blob o) = Err (out.Blob o)
carried_in (out.States a b c) = Err (out.States a b c)

-- what an answer replies, or the answer itself if it is no reply
abbrev pub replied_in : Out → Result Replied Out
replied_in (out.Replies r) = Ok r
replied_in (out.Carried c) = Err (out.Carried c)
replied_in (out.Uploaded n) = Err (out.Uploaded n)
replied_in out.Full = Err out.Full
replied_in out.Failed = Err out.Failed
replied_in (out.Blob o) = Err (out.Blob o)
replied_in (out.States a b c) = Err (out.States a b c)

-- the first of these responses
abbrev pub first_of : List Invocation → Option Invocation
first_of [] = None
first_of (r ∷ rs) = Some r

-- the first response of an answer, if it has any
abbrev pub first_response : Out → List Invocation
first_response (out.Replies r) = take 1 r.responses
first_response _ = []

-- the answer with these responses more
abbrev pub joined : Replied → List Invocation → Out
joined r more = out.Replies (record { responses = r.responses ++ more; made = r.made })

-- ---- their order

-- which set of the originals follows a copy with this first response, if one does
abbrev pub SetOf : Type 0
SetOf = Invocation → Invocation → Option Invocation

-- How the states of a session follow each other in a copy: what a call on the account of the
-- originals (`from`), and one on the account of the copies (`to`), makes of a state, and what it is
-- answered; which set of the originals follows a copy and its response (`set_of`); whether the user
-- may only read the account of the originals; the copy, and what the request has made.
pub record CopySteps (S : Type 0) : Type 1 where
  pub from : Call → S → S → Out → Type 0
  pub to : Call → S → S → Out → Type 0
  pub set_of : SetOf
  pub read_only : Bool
  pub call : TheInvocation
  pub made : List Created

-- the set that follows a reply of the account of the copies
abbrev pub set_after : {S : Type 0} → CopySteps S → Replied → Option Invocation
set_after c placed = option_and_then (c.set_of (call_of c.call)) (first_of placed.responses)

-- The set of the originals is asked. The copy is answered by what was replied, and the first
-- response to the set after it.
pub record IsSetAsked {S : Type 0} (c : CopySteps S) (placed : Replied) (set : Invocation)
    (s s' : S) (answer : Out) : Type 0 where
  pub call : TheInvocation
  pub call_is : call_of call ≡ set
  pub reply : Out
  pub asked : c.from (set_call call c.made) s s' reply
  pub answer_is : answer ≡ joined placed (first_response reply)

-- The set of the originals follows, if there is one. If the user may only read their account, the
-- response to it is an error and nothing is asked.
abbrev pub IsFollowed : {S : Type 0} → CopySteps S → Replied → Option Invocation → S → S → Out
    → Type 0
IsFollowed c placed None s s' answer = (s' ≡ s) × (answer ≡ out.Replies placed)
IsFollowed c placed (Some set) s s' answer =
    cond c.read_only
    ((s' ≡ s)
    × (answer ≡ joined placed (error_of (codes "accountReadOnly") c.call.id ∷ [])))
    (IsSetAsked c placed set s s' answer)

-- what comes after the account of the copies answered
abbrev pub IsPlacedSo : {S : Type 0} → CopySteps S → Result Replied Out → S → S → Out → Type 0
IsPlacedSo c (Ok placed) s s' answer = IsFollowed c placed (set_after c placed) s s' answer
IsPlacedSo c (Err other) s s' answer = (s' ≡ s) × (answer ≡ other)

-- what the account of the originals gave is placed in the account of the copies
pub record IsPlaced {S : Type 0} (c : CopySteps S) (carried : Carried) (s s' : S) (answer : Out)
    : Type 0 where
  pub placed : Out
  pub next : S
  pub place : c.to (place_call c.call carried c.made) s next placed
  pub rest : IsPlacedSo c (replied_in placed) next s' answer

-- what comes after the account of the originals answered: if it carries nothing, its answer is that
-- of the copy
abbrev pub IsFetchedSo : {S : Type 0} → CopySteps S → Result Carried Out → S → S → Out → Type 0
IsFetchedSo c (Ok carried) s s' answer = IsPlaced c carried s s' answer
IsFetchedSo c (Err other) s s' answer = (s' ≡ s) × (answer ≡ other)

-- a copy, from its first state to its last
pub record IsCopied {S : Type 0} (c : CopySteps S) (s s' : S) (answer : Out) : Type 0 where
  pub fetched : Out
  pub next : S
  pub fetch : c.from (fetch_call c.call c.made) s next fetched
  pub rest : IsFetchedSo c (carried_in fetched) next s' answer

-- the first call of a copy
pub record HasFetched {S : Type 0} (c : CopySteps S) (s s' : S) : Type 0 where
  pub fetched : Out
  pub carried : Carried
  pub carried_is : carried_in fetched ≡ Ok carried
  pub fetch : c.from (fetch_call c.call c.made) s s' fetched

-- the first two calls of a copy
pub record HasPlaced {S : Type 0} (c : CopySteps S) (s s' : S) : Type 0 where
  pub next : S
  pub first : HasFetched c s next
  pub placed : Out
  pub place : c.to (place_call c.call first.carried c.made) next s' placed

-- a copy that ended out of memory: none of its calls was performed, or the first, or the first two
abbrev pub HasBegun : {S : Type 0} → CopySteps S → S → S → Type 0
HasBegun c s s' = (s' ≡ s) ⊎ HasFetched c s s' ⊎ HasPlaced c s s'

-- ---- copies of a session

-- A call on an account that the session holds: no entry of another session comes between what it
-- has seen and the call.
pub record IsNextCall (plan : History → Call → ℕ → Plan) (account : ℕ) (call : Call) (moment : ℕ)
    (old new : SessionView) (answer : Out) : Type 0 where
  pub call_is : IsCall plan account call moment old new answer
  pub next : call_is.point.before ≡ seen_count call_is.pass

-- the session has both accounts, and may have seen more of each
pub record HasTaken (from to : ℕ) (old taken : SessionView) : Type 0 where
  pub between : SessionView
  pub first : IsLook from old between
  pub second : IsLook to between taken

-- the calls of a copy, each right after what the session has seen of its account
abbrev pub copy_steps : {R : Type 0} → (R → History → Call → ℕ → Plan) → SetOf → CopyCall → ℕ
    → CopySteps SessionView
copy_steps {R} plan_of set_of copy moment = record {
  from = λ call s s' answer.
      (rules : R) × IsNextCall (plan_of rules) copy.from call moment s s' answer;
  to = λ call s s' answer.
      (rules : R) × IsNextCall (plan_of rules) copy.to call moment s s' answer;
  set_of = set_of;
  read_only = copy.from_read_only;
  call = copy.call;
  made = copy.made;
}

-- A session had one turn at each of two accounts. It had its turn at the one with the lower number
-- when that at the other began, and when that ended. So it took the one with the lower number first
-- and gave it back last, and while it had the other no other session used either.
pub record HasHadBoth (low high : ℕ) (old new : SessionView) : Type 0 where
  pub lower : PassFacts
  pub lower' : PassFacts
  pub higher : PassFacts
  pub higher' : PassFacts
  pub low_there : slice_get old.passes low ≡ Some lower
  pub low_there' : slice_get new.passes low ≡ Some lower'
  pub high_there : slice_get old.passes high ≡ Some higher
  pub high_there' : slice_get new.passes high ≡ Some higher'
  pub once : (lower'.last.number ≡ lower.last.number + 1)
      × (higher'.last.number ≡ higher.last.number + 1)
  pub began : higher'.last.began_in ≡ Some (turn_of lower')
  pub ended : higher'.last.ended_in ≡ Some (turn_of lower')

-- the same of the accounts of a copy
abbrev pub HasHeldBoth : CopyCall → SessionView → SessionView → Type 0
HasHeldBoth copy old new = HasHadBoth (min copy.from copy.to) (max copy.from copy.to) old new

-- A copy of a session is answered so. It took both accounts, and then made one to three calls, each
-- with a point of its own, in order. As each begins with what the session has seen of its account,
-- no entry of another session comes between them. It had both accounts at once, in one turn each.
pub record IsCopy {R : Type 0} (plan_of : R → History → Call → ℕ → Plan)
    (set_of : SetOf) (copy : CopyCall) (moment : ℕ)
    (old new : SessionView) (answer : Out) : Type 0 where
  pub taken : SessionView
  pub took : HasTaken copy.from copy.to old taken
  pub copied : IsCopied (copy_steps plan_of set_of copy moment) taken new answer
  pub held : HasHeldBoth copy old new

-- A copy that ended out of memory: the session may have seen more of both accounts, and the calls
-- that were performed stand, each with its point. It had both accounts at once, in one turn each,
-- or nothing was done.
pub record HasBegunCopy {R : Type 0} (plan_of : R → History → Call → ℕ → Plan)
    (set_of : SetOf) (copy : CopyCall) (moment : ℕ)
    (old new : SessionView) : Type 0 where
  pub taken : SessionView
  pub took : HasTaken copy.from copy.to old taken
  pub begun : HasBegun (copy_steps plan_of set_of copy moment) taken new
  pub held : (new ≡ old) ⊎ HasHeldBoth copy old new
