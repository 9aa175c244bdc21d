-- Accounts that a session holds: it has taken their books out of their locks.
use Rattle.std.specs.Prelude.{◌≡◌, ◌⊎◌, ℕ, ◌+◌, ◌<◌, Bool, true, false, List, [], ◌∷◌, ◌++◌, Ok, Option, Some, None, length, slice_get, slice_set}
use Rattle.jm_json.specs.declared.invocation.Invocation.{Invocation as TheInvocation}
use Rattle.jm_json.specs.declared.invocation.Created.{Created}
use Rattle.mail_records.specs.Histories.{Entry, History}
use Rattle.jm_json.specs.declared.invocation.Replied.{Replied}
use Rattle.account_book.specs.declared.asks.Call.{Call}
use Rattle.account_book.specs.declared.asks.Carried.{Carried}
use Rattle.account_book.specs.declared.plans.Out.{Out}
use Rattle.account_book.specs.declared.plans.Plan.{Plan}
use Rattle.account_book.specs.declared.plans.Point.{Point}
use Rattle.account_lock.specs.Entries.{ExtendsUnder, StartsWith, under}
use Rattle.account_lock.specs.Views.{PassFacts, Turn, begun_within, ended_within, going_turn}
use Rattle.account_hall.specs.Calls.{IsPerformed, point_at}
use Rattle.account_hall.specs.Copies.{CopySteps, SetOf, carried_in, first_response, joined, place_call, set_call}
use Rattle.account_hall.specs.Halls.{entries_of}
use Rattle.account_hall.specs.declared.copies.CopyCall.{CopyCall}
use Rattle.account_hall.specs.declared.held_accounts.Held.{Held}

-- what never changes of an account while it is held: its number, the number of the session's pass,
-- and what it opened with
pub record Side : Type 0 where
  pub account : ℕ
  pub number : ℕ
  pub opened : History
  pub before : ℕ

abbrev pub side_of : {K R : Type 0} → Held K R → Side
side_of h = record {
  account = h.account;
  number = h.number;
  opened = h.book.value.opened;
  before = h.book.value.before;
}

abbrev pub entries_in : {K R : Type 0} → Held K R → List Entry
entries_in h = entries_of h.book.value

-- a held account after calls: it has entries of the session more, and nothing else changed
pub record HasGained {K R : Type 0} (old new : Held K R) : Type 0 where
  pub side : side_of new ≡ side_of old
  pub extends : ExtendsUnder old.number (entries_in old) (entries_in new)

-- a call on a held account, and the point that it adds to the trail
pub record IsStep {R : Type 0} (plan_of : R → History → Call → ℕ → Plan) (side : Side) (moment : ℕ)
    (call : Call) (es es' : List Entry) (trail trail' : List Point) (answer : Out) : Type 0 where
  pub rules : R
  pub before : ℕ
  pub after : ℕ
  pub performed : IsPerformed (plan_of rules) side.opened es es' side.number (length trail + 1)
      call moment before after answer
  pub trail_is : trail' ≡ trail ++ point_at side.account before after moment ∷ []

-- the entries of both accounts of a copy, and the trail
pub record HeldState : Type 0 where
  pub from : List Entry
  pub to : List Entry
  pub trail : List Point

abbrev pub state_of : {K R : Type 0} → Held K R → Held K R → List Point → HeldState
state_of from to trail =
    record { from = entries_in from; to = entries_in to; trail = trail }

-- the calls of a copy between two held accounts
abbrev pub held_steps : {R : Type 0} → (R → History → Call → ℕ → Plan) → SetOf → (from to : Side)
    → Bool → TheInvocation → List Created → ℕ → CopySteps HeldState
held_steps plan_of set_of from to read_only call made moment = record {
  from = λ c s s' answer.
      IsStep plan_of from moment c s.from s'.from s.trail s'.trail answer × (s'.to ≡ s.to);
  to = λ c s s' answer.
      IsStep plan_of to moment c s.to s'.to s.trail s'.trail answer × (s'.from ≡ s.from);
  set_of = set_of;
  read_only = read_only;
  call = call;
  made = made;
}

-- those calls, of a copy that a session was asked
abbrev pub held_copy : {R : Type 0} → (R → History → Call → ℕ → Plan) → SetOf → (from to : Side)
    → CopyCall → ℕ → CopySteps HeldState
held_copy plan_of set_of from to copy moment =
    held_steps plan_of set_of from to copy.from_read_only copy.call copy.made moment

-- the state where the entries of the account of the copies are these
abbrev pub state_from : {K R : Type 0} → Held K R → List Entry → List Point → HeldState
state_from from es trail = record { from = entries_in from; to = es; trail = trail }

-- the set of the originals was asked, and the copy is answered so
pub record HasAskedSet {R : Type 0} (plan_of : R → History → Call → ℕ → Plan) (side : Side)
    (moment : ℕ) (set : TheInvocation) (made : List Created) (placed : Replied)
    (es es' : List Entry) (trail trail' : List Point) (answer : Out) : Type 0 where
  pub reply : Out
  pub asked : IsStep plan_of side moment (set_call set made) es es' trail trail' reply
  pub answer_is : answer ≡ joined placed (first_response reply)

-- the account of the copies was asked, or nothing was done
abbrev pub MayHavePlaced : CopySteps HeldState → Carried → HeldState → HeldState → Type 0
MayHavePlaced c carried s s' =
    (s' ≡ s) ⊎ ((placed : Out) × c.to (place_call c.call carried c.made) s s' placed)

-- what may have followed this answer of the account of the originals: it carries something, and the
-- account of the copies was asked, or nothing was done
pub record MayHaveFollowed (c : CopySteps HeldState) (fetched : Out) (s s' : HeldState) : Type 0
  where
    pub carried : Carried
    pub carried_is : carried_in fetched ≡ Ok carried
    pub placed : MayHavePlaced c carried s s'

-- ---- taking and giving back

-- the pass of a session that took an account with these entries, within this turn of another pass
-- if there is one
abbrev pub holding : PassFacts → Option Turn → List Entry → PassFacts
holding k other es =
    record k { holds = true; last = begun_within other k.last; seen = es }

-- the pass after it gave an account back with these entries, within this turn of another pass if
-- there is one
abbrev pub released : PassFacts → Option Turn → List Entry → PassFacts
released k other es = record k {
  holds = false;
  last = ended_within other k.last;
  seen = es;
  own = under k.name es;
}

-- the next turn of a pass
abbrev pub next_turn : PassFacts → Turn
next_turn k = record { lock = k.lock; name = k.name; number = k.last.number + 1 }

-- What a session with this pass holds after it took an account.
pub record IsHeldBy {K R : Type 0} (account : ℕ) (k : PassFacts) (h : Held K R) : Type 0 where
  pub account_is : h.account ≡ account
  pub number_is : h.number ≡ k.name
  pub seen : StartsWith (entries_in h) k.seen
  pub own : under k.name (entries_in h) ≡ k.own
  pub opened : h.book.value.opened ≡ k.opening
  pub before : h.book.value.before ≡ k.before

-- the turn that the pass at an account has, if it has one
abbrev pub turn_if : Option PassFacts → Option Turn
turn_if None = None
turn_if (Some k) = going_turn k

abbrev pub turn_at : List PassFacts → ℕ → Option Turn
turn_at ks account = turn_if (slice_get ks account)

-- the pass at this account has its turn
abbrev pub HasTurnAt : ℕ → List PassFacts → Type 0
HasTurnAt account ks =
    (k : PassFacts) → slice_get ks account ≡ Some k → k.holds ≡ true

-- an account was taken, within this turn of another pass if there is one
pub record IsTaken {K R : Type 0} (account : ℕ) (other : Option Turn) (ks ks' : List PassFacts)
    (h : Held K R) : Type 0 where
  pub pass : PassFacts
  pub there : slice_get ks account ≡ Some pass
  pub held : IsHeldBy account pass h
  pub list : ks' ≡ slice_set ks account (holding pass other (entries_in h))

-- of the turns of two passes, that at the account with the higher number began within the other
abbrev pub IsWithin : (from to : ℕ) → (k other : PassFacts) → (began other_began : Option Turn)
    → Type 0
IsWithin from to k other began other_began =
    (from < to → other_began ≡ Some (next_turn k))
    × (to < from → began ≡ Some (next_turn other))

-- two accounts were taken, the one with the lower number first
pub record AreTaken {K R : Type 0} (from to : ℕ) (ks ks' : List PassFacts) (h g : Held K R)
    : Type 0 where
  pub pass : PassFacts
  pub other : PassFacts
  pub there : slice_get ks from ≡ Some pass
  pub other_there : slice_get ks to ≡ Some other
  pub held : IsHeldBy from pass h
  pub other_held : IsHeldBy to other g
  pub began : Option Turn
  pub other_began : Option Turn
  pub within : IsWithin from to pass other began other_began
  pub list : ks'
      ≡ slice_set (slice_set ks from (holding pass began (entries_in h))) to
      (holding other other_began (entries_in g))

-- a session holds the account, and may give it back
pub record MayRelease {K R : Type 0} (ks : List PassFacts) (h : Held K R) : Type 0 where
  pub pass : PassFacts
  pub there : slice_get ks h.account ≡ Some pass
  pub holds : pass.holds ≡ true
  pub entries : ExtendsUnder pass.name pass.seen (entries_in h)
  pub before : h.book.value.before ≡ pass.before
  pub opened : h.book.value.opened ≡ pass.opening

-- the pass at this account is free to take it
abbrev pub IsFreeAt : ℕ → List PassFacts → Type 0
IsFreeAt account ks =
    (k : PassFacts) → slice_get ks account ≡ Some k → (k.root ≡ false) × (k.holds ≡ false)

-- the passes after a held account was given back, within this turn of another pass if there is one
abbrev pub released_at : List PassFacts → ℕ → Option Turn → List Entry → Option PassFacts
    → List PassFacts
released_at ks account other es None = ks
released_at ks account other es (Some k) = slice_set ks account (released k other es)

abbrev pub released_to : {K R : Type 0} → List PassFacts → Option Turn → Held K R → List PassFacts
released_to ks other h =
    released_at ks h.account other (entries_in h) (slice_get ks h.account)

-- two held accounts were given back, the one with the lower number last
abbrev pub released_after : {K R : Type 0} → List PassFacts → (low high : Held K R) → List PassFacts
released_after ks low high = released_to (released_to ks (turn_at ks low.account) high) None low

abbrev pub AreReleased : {K R : Type 0} → (ks ks' : List PassFacts) → (h g : Held K R) → Type 0
AreReleased ks ks' h g =
    (h.account < g.account → ks' ≡ released_after ks h g)
    × (g.account < h.account → ks' ≡ released_after ks g h)
