-- A session that holds two accounts: what the calls of a copy on them make of it.
use Rattle.std.proofs.Common.{◌≡◌, ◌≢◌, inr, ℕ, ◌+◌, List, [], length, Some, slice_get, refl, sym, ap, ◌∙◌, subst}
use Rattle.std.proofs.Math.ListN.{set}
use Rattle.std.proofs.lemmas.List.{append-nil}
use Rattle.mail_records.specs.Histories.{Entry, History}
use Rattle.account_book.specs.declared.asks.Call.{Call}
use Rattle.account_book.specs.declared.plans.Out.{Out}
use Rattle.account_book.specs.declared.plans.Plan.{Plan}
use Rattle.account_book.specs.declared.plans.Point.{Point}
use Rattle.account_lock.specs.Entries.{StartsWith, under}
use Rattle.account_lock.specs.Views.{LastTurn, PassFacts}
use Rattle.account_hall.specs.Calls.{HasLooked, IsCalled, point_at}
use Rattle.account_hall.specs.Copies.{HasBegun, HasBegunCopy, HasHeldBoth, HasTaken, IsCopied, IsCopy, IsNextCall, SetOf}
use Rattle.account_hall.specs.HeldAccounts.{HeldState, IsHeldBy, IsStep, Side, held_copy, side_of}
use Rattle.account_hall.specs.Sessions.{IsSession, SessionView, session_of}
use Rattle.account_hall.specs.declared.copies.CopyCall.{CopyCall}
use Rattle.account_hall.specs.declared.held_accounts.Held.{Held}
use Rattle.account_hall.proofs.Mapped.{begun, copied}
use Rattle.account_hall.proofs.Nested.{shown}
use Rattle.account_hall.proofs.Places.{flipped, set_elsewhere, set_there, set_twice, set_under}
use Rattle.account_hall.proofs.Steps.{after_call, after_look, is_look, is_next, session_called, session_looked}

abbrev pub side_at : ℕ → PassFacts → Side
side_at account k = record { account = account; number = k.name; opened = k.opening; before = k.before }

pub is_side : {K R : Type 0} (account : ℕ) (k : PassFacts) (h : Held K R) → IsHeldBy account k h → side_of h ≡ side_at account k
is_side account k h w =
    ap (λ (n : ℕ). let s : Side = record { account = n; number = h.number; opened = h.book.value.opened; before = h.book.value.before } in s) w.account_is
    ∙ (ap (λ (n : ℕ). let s : Side = record { account = account; number = n; opened = h.book.value.opened; before = h.book.value.before } in s) w.number_is
    ∙ (ap (λ (o : History). let s : Side = record { account = account; number = k.name; opened = o; before = h.book.value.before } in s) w.opened
    ∙ ap (λ (n : ℕ). let s : Side = record { account = account; number = k.name; opened = k.opening; before = n } in s) w.before))

-- the pass of a session that has just looked
looked : (k : PassFacts) (last : LastTurn) (es : List Entry) → StartsWith es k.seen → under k.name es ≡ k.own → HasLooked k (shown k last es)
looked k last es starts own = record {
  seen = starts;
  own = own;
  same = ap (λ (os : List Entry). let x : PassFacts = record k { last = last; seen = es; own = os } in x) own;
}

module _ {R : Type 0} (plan_of : R → History → Call → ℕ → Plan) (moment : ℕ) (s : SessionView) (account : ℕ) (k : PassFacts) (order : IsSession s) (there : slice_get s.passes account ≡ Some k) (own_is : k.own ≡ under k.name k.seen) where
  -- a call right after what the session has seen
  pub stepped : (call : Call) (es : List Entry) (trail : List Point) (answer : Out) → IsStep plan_of (side_at account k) moment call k.seen es s.trail trail answer
      → (new : SessionView) → new ≡ session_of (set s.passes account (shown k k.last es)) trail → ((rules : R) × IsNextCall (plan_of rules) account call moment s new answer) × IsSession new
  stepped call es trail answer w new is =
      let k' = shown k k.last es in
      let c : IsCalled (plan_of w.rules) k k' (length s.trail + 1) call moment w.before w.after answer = record {
        found = k.seen;
        seen = ([], sym (append-nil k.seen));
        own_then = sym own_is;
        performed = w.performed;
        own = refl;
        same = refl;
      } in
      let kept = session_called (plan_of w.rules) s account k k' (length s.trail + 1) call moment w.before w.after answer order there refl c in
      let next : IsNextCall (plan_of w.rules) account call moment s (after_call s account k' (point_at account w.before w.after moment)) answer =
      is_next (plan_of w.rules) s account k k' (length s.trail + 1) call moment w.before w.after answer order there refl c w.performed.before_is in
      let here : after_call s account k' (point_at account w.before w.after moment) ≡ new = sym (is ∙ ap (session_of (set s.passes account k')) w.trail_is) in
      ((w.rules, subst (λ (x : SessionView). IsNextCall (plan_of w.rules) account call moment s x answer) here next), subst IsSession here kept)

module _ {R : Type 0} (plan_of : R → History → Call → ℕ → Plan) (set_of : SetOf) (copy : CopyCall) (moment : ℕ) (old : SessionView) (kf kt : PassFacts) (lf lt : LastTurn)
    (order : IsSession old) (apart : copy.from ≢ copy.to) (there : slice_get old.passes copy.from ≡ Some kf) (other_there : slice_get old.passes copy.to ≡ Some kt) where
  abbrev pub show : HeldState → SessionView
  show s = session_of (set (set old.passes copy.from (shown kf lf s.from)) copy.to (shown kt lt s.to)) s.trail

  from_there : (s : HeldState) → slice_get (show s).passes copy.from ≡ Some (shown kf lf s.from)
  from_there s = set_elsewhere (set old.passes copy.from (shown kf lf s.from)) copy.to copy.from (shown kt lt s.to) (flipped copy.from copy.to apart) ∙ set_there old.passes copy.from kf (shown kf lf s.from) there

  to_there : (s : HeldState) → slice_get (show s).passes copy.to ≡ Some (shown kt lt s.to)
  to_there s = set_there (set old.passes copy.from (shown kf lf s.from)) copy.to kt (shown kt lt s.to) (set_elsewhere old.passes copy.from copy.to (shown kf lf s.from) apart ∙ other_there)

  at_from : (call : Call) (s s' : HeldState) (answer : Out) → IsSession (show s) → IsStep plan_of (side_at copy.from kf) moment call s.from s'.from s.trail s'.trail answer × (s'.to ≡ s.to)
      → ((rules : R) × IsNextCall (plan_of rules) copy.from call moment (show s) (show s') answer) × IsSession (show s')
  at_from call s s' answer k w =
      stepped plan_of moment (show s) copy.from (shown kf lf s.from) k (from_there s) refl call s'.from s'.trail answer w.0 (show s')
      (ap (λ ps. session_of ps s'.trail)
      (ap (λ es. set (set old.passes copy.from (shown kf lf s'.from)) copy.to (shown kt lt es)) w.1
      ∙ sym (set_under old.passes copy.from copy.to (shown kf lf s.from) (shown kt lt s.to) (shown kf lf s'.from) apart)))

  at_to : (call : Call) (s s' : HeldState) (answer : Out) → IsSession (show s) → IsStep plan_of (side_at copy.to kt) moment call s.to s'.to s.trail s'.trail answer × (s'.from ≡ s.from)
      → ((rules : R) × IsNextCall (plan_of rules) copy.to call moment (show s) (show s') answer) × IsSession (show s')
  at_to call s s' answer k w =
      stepped plan_of moment (show s) copy.to (shown kt lt s.to) k (to_there s) refl call s'.to s'.trail answer w.0 (show s')
      (ap (λ ps. session_of ps s'.trail)
      (ap (λ es. set (set old.passes copy.from (shown kf lf es)) copy.to (shown kt lt s'.to)) w.1
      ∙ sym (set_twice (set old.passes copy.from (shown kf lf s.from)) copy.to (shown kt lt s.to) (shown kt lt s'.to))))

  module _ (ef et : List Entry) (seen : StartsWith ef kf.seen) (own : under kf.name ef ≡ kf.own) (other_seen : StartsWith et kt.seen) (other_own : under kt.name et ≡ kt.own) where
    abbrev first : HeldState
    first = record { from = ef; to = et; trail = old.trail }

    then_there : slice_get (set old.passes copy.from (shown kf lf ef)) copy.to ≡ Some kt
    then_there = set_elsewhere old.passes copy.from copy.to (shown kf lf ef) apart ∙ other_there

    one_looked : IsSession (after_look old copy.from (shown kf lf ef))
    one_looked = session_looked old copy.from kf (shown kf lf ef) order there (looked kf lf ef seen own)

    taken : HasTaken copy.from copy.to old (show first)
    taken = record {
      between = after_look old copy.from (shown kf lf ef);
      first = is_look old copy.from kf (shown kf lf ef) order there (looked kf lf ef seen own);
      second = is_look (after_look old copy.from (shown kf lf ef)) copy.to kt (shown kt lt et) one_looked then_there (looked kt lt et other_seen other_own);
    }

    both_looked : IsSession (show first)
    both_looked = session_looked (after_look old copy.from (shown kf lf ef)) copy.to kt (shown kt lt et) one_looked then_there (looked kt lt et other_seen other_own)

    pub is_copy : (last : HeldState) (answer : Out) → HasHeldBoth copy old (show last) → IsCopied (held_copy plan_of set_of (side_at copy.from kf) (side_at copy.to kt) copy moment) first last answer
        → IsCopy plan_of set_of copy moment old (show last) answer × IsSession (show last)
    is_copy last answer both w =
        let h = copied _ _ _ _ set_of copy.from_read_only copy.call copy.made show (λ s. IsSession (show s)) at_from at_to first last answer both_looked w in
        (record { taken = show first; took = taken; copied = h.0; held = both }, h.1)

    pub has_begun : (last : HeldState) → HasHeldBoth copy old (show last) → HasBegun (held_copy plan_of set_of (side_at copy.from kf) (side_at copy.to kt) copy moment) first last
        → HasBegunCopy plan_of set_of copy moment old (show last) × IsSession (show last)
    has_begun last both w =
        let h = begun _ _ _ _ set_of copy.from_read_only copy.call copy.made show (λ s. IsSession (show s)) at_from at_to first last both_looked w in
        (record { taken = show first; took = taken; begun = h.0; held = inr both }, h.1)
