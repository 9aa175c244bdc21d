-- Lists of events over the accounts of a server, one event after the other.
use Rattle.std.specs.Prelude.{◌≡◌, ◌↔◌, ℕ, ◌+◌, ◌<◌, ◌≤◌, Bool, true, false, not, ◌&&◌, ◌||◌, ◌==◌, nat_le, if◌then◌else◌, List, [], ◌∷◌, length, codes}
use Rattle.std.specs.List.{AllByRecursion}
use Rattle.jm_base.specs.declared.identifiers.Kind.{Kind}
use Rattle.mail_records.specs.Histories.{History, Entry, Committed, Refused, IsSound, account_after, edits_in, edits_of, grown_by}
use Rattle.mail_records.specs.States.{edits_of_kind, state_of}
use Rattle.mail_records.specs.declared.edits.Edit.{Edit}
use Rattle.mail_records.specs.declared.edits.Stamp.{Stamp}
use Rattle.account_book.specs.Plans.{last_moment}
use Rattle.account_book.specs.Replies.{IsReply, commit_of, refusal}
use Rattle.account_book.specs.declared.limits.TheConstants.{MAX_EDIT_BYTES}
use Rattle.account_book.specs.declared.asks.Call.{Call}
use Rattle.account_book.specs.declared.plans.Out.{Out}
use Rattle.account_book.specs.declared.plans.Plan.{Plan}
use Rattle.account_book.specs.declared.plans.Point.{Point}

-- An event: a call on an account at a moment, the stamp, which says whose call it is, and whether
-- the keeper takes the row, if there is one to keep.
pub record Event : Type 0 where
  pub account : ℕ
  pub call : Call
  pub moment : ℕ
  pub stamp : Stamp
  pub is_taken : Bool

-- the plan changes nothing
abbrev pub is_idle : Plan → Bool
is_idle p = (length p.blobs == 0) && (length p.edits == 0)

-- with these edits the account stays within the limit
abbrev pub is_within : (List Edit → ℕ) → History → List Edit → Bool
is_within bytes h edits = nat_le (bytes (edits_of h) + bytes edits) MAX_EDIT_BYTES

-- what an event with this plan enters, over this history of its account: nothing where the plan
-- changes nothing, or would pass the limit; else its commit, or the mark of its refusal
abbrev pub entries_of_event : (List Edit → ℕ) → History → Event → Plan → List Entry
entries_of_event bytes h e p =
    if is_idle p || not (is_within bytes h p.edits) then []
    else (if e.is_taken then Committed (commit_of p e.stamp) ∷ [] else Refused e.stamp ∷ [])

-- what an event with this plan is answered
abbrev pub answer_to_event : (List Edit → ℕ) → History → Event → Plan → Out
answer_to_event bytes h e p =
    if is_idle p then p.out
    else (if not (is_within bytes h p.edits) then refusal (codes "serverUnavailable") e.call.ask
    else (if e.is_taken then p.out else refusal (codes "serverFail") e.call.ask))

-- An event that was performed: the history of its account before it and after it, where in that it
-- is, and the answer.
pub record Performed : Type 0 where
  pub event : Event
  pub before : History
  pub after : History
  pub point : Point
  pub out : Out

-- What calls plan, and how many bytes edits take. A history stands for each account's number.
module _ (plan : History → Call → ℕ → Plan) (bytes : List Edit → ℕ) where
  -- the plan of an event
  abbrev pub plan_of_event : (ℕ → History) → Event → Plan
  plan_of_event accounts e = plan (accounts e.account) e.call e.moment

  -- the history of an event's account after it
  abbrev pub history_after : (ℕ → History) → Event → History
  history_after accounts e =
      grown_by (accounts e.account)
      (entries_of_event bytes (accounts e.account) e (plan_of_event accounts e))

  -- the accounts after an event
  abbrev pub after_event : (ℕ → History) → Event → ℕ → History
  after_event accounts e account =
      if account == e.account then history_after accounts e else accounts account

  -- an event as it is performed over these accounts
  abbrev pub performed : (ℕ → History) → Event → Performed
  performed accounts e = record {
    event = e;
    before = accounts e.account;
    after = history_after accounts e;
    point = record {
      account = e.account;
      before = length (accounts e.account).entries;
      after = length (history_after accounts e).entries;
      moment = e.moment;
    };
    out =
        answer_to_event bytes (accounts e.account) e (plan_of_event accounts e);
  }

  -- the accounts after events, one after the other
  abbrev pub after_events : (ℕ → History) → List Event → ℕ → History
  after_events accounts [] = accounts
  after_events accounts (e ∷ es) = after_events (after_event accounts e) es

  -- the events as they are performed, one after the other
  abbrev pub all_performed : (ℕ → History) → List Event → List Performed
  all_performed accounts [] = []
  all_performed accounts (e ∷ es) =
      performed accounts e ∷ all_performed (after_event accounts e) es

  -- The answer is the written reply to the event's call at its point of this history. The point has
  -- the account before and after it, and the state of a kind is another one after it if and only if
  -- it committed an edit of the kind (RFC 8620, section 5.1).
  pub record IsWritten (h : History) (t : Performed) : Type 0 where
    pub reply : IsReply plan bytes h t.point t.event.call t.event.stamp t.out
    pub before : account_after h t.point.before ≡ t.before
    pub after : account_after h t.point.after ≡ t.after
    pub states : (kind : Kind) → (state_of t.after kind ≡ state_of t.before kind)
        ↔ (edits_of_kind kind (edits_in (entries_of_event bytes t.before t.event
        (plan t.before t.event.call t.event.moment))) ≡ [])

  -- What becomes of accounts by events: each history is sound and each account valid at the end of
  -- each entry, and each answer is the written reply at its point of the history that the account
  -- has in the end.
  pub record AreKeptValid (whole : History → Type 0) (accounts : ℕ → History)
      (events : List Event) : Type 0 where
    pub valid : (account count : ℕ) → length (accounts account).entries ≤ count → count
        ≤ length (after_events accounts events account).entries
        → whole (account_after (after_events accounts events account) count)
    pub sound : (account count : ℕ) → length (accounts account).entries ≤ count → count
        ≤ length (after_events accounts events account).entries
        → IsSound (account_after (after_events accounts events account) count)
    pub replies : AllByRecursion (λ (t : Performed). IsWritten (after_events accounts events
        t.event.account) t) (all_performed accounts events)

  -- An entry of a history comes of a call that was answered with the written reply, at a moment of
  -- which the rules promise something.
  pub record IsEntryOfReply (h : History) (index : ℕ) : Type 0 where
    pub call : Call
    pub point : Point
    pub stamp : Stamp
    pub out : Out
    pub before : point.before ≡ index
    pub after : point.after ≡ index + 1
    pub moment : point.moment ≤ last_moment
    pub reply : IsReply plan bytes h point call stamp out

-- the event is at a moment of which the rules promise something
abbrev pub IsTimely : Event → Type 0
IsTimely e = e.moment ≤ last_moment
