-- A copy between two accounts, from taking both to giving both back.
use Rattle.std.proofs.Common.{◌≡◌, ◌≢◌, ℕ, false, List, Result, Ok, Err, IfOk, OnErr, sym, ap, subst}
use Rattle.std.proofs.Math.ListN.{set}
use Rattle.mail_records.specs.Histories.{History}
use Rattle.account_book.specs.declared.asks.Call.{Call}
use Rattle.account_book.specs.declared.plans.Out.{Out}
use Rattle.account_book.specs.declared.plans.Plan.{Plan}
use Rattle.account_book.specs.declared.plans.Point.{Point}
use Rattle.account_lock.specs.Views.{LastTurn, PassFacts}
use Rattle.account_hall.specs.Copies.{HasBegun, HasBegunCopy, HasHeldBoth, IsCopied, IsCopy, SetOf}
use Rattle.account_hall.specs.Halls.{AreOf, RoomView}
use Rattle.account_hall.specs.HeldAccounts.{AreReleased, AreTaken, HasGained, MayRelease, Side, entries_in, held_copy, side_of, state_of}
use Rattle.account_hall.specs.Sessions.{IsFree, IsSession, session_of}
use Rattle.account_hall.specs.declared.copies.CopyCall.{CopyCall}
use Rattle.account_hall.specs.declared.held_accounts.Held.{Held}
use Rattle.account_hall.proofs.Fronts.{all_at}
use Rattle.account_hall.proofs.Nested.{had_both, shown, turned}
use Rattle.account_hall.proofs.Pairs.{has_begun, is_copy, is_side, side_at}
use Rattle.account_hall.proofs.Releases.{GivenBack, from_is, given_back, may_release_from, may_release_to, of_last, of_taken, to_is}

module _ {K R : Type 0} (plan_of : R → History → Call → ℕ → Plan) (set_of : SetOf) (copy : CopyCall) (moment : ℕ) (ks ks2 : List PassFacts) (trail trail' : List Point) (h g h' g' : Held K R)
    (order : IsSession (session_of ks trail)) (apart : copy.from ≢ copy.to) (t : AreTaken copy.from copy.to ks ks2 h g) (gained : HasGained h h') (other_gained : HasGained g g') where
  free : t.pass.holds ≡ false
  free = (all_at IsFree ks copy.from t.pass order.free t.there).holds

  other_free : t.other.holds ≡ false
  other_free = (all_at IsFree ks copy.to t.other order.free t.other_there).holds

  pub account_from : h'.account ≡ copy.from
  account_from = from_is copy.from copy.to ks ks2 h g h' g' apart t gained other_gained free other_free

  pub account_to : g'.account ≡ copy.to
  account_to = to_is copy.from copy.to ks ks2 h g h' g' apart t gained other_gained free other_free

  pub release_from : MayRelease ks2 h'
  release_from = may_release_from copy.from copy.to ks ks2 h g h' g' apart t gained other_gained free other_free

  pub release_to : MayRelease ks2 g'
  release_to = may_release_to copy.from copy.to ks ks2 h g h' g' apart t gained other_gained free other_free

  pub hall_taken : (rooms : List RoomView) → AreOf rooms ks → AreOf rooms ks2
  hall_taken rooms of = of_taken copy.from copy.to ks ks2 h g h' g' apart t gained other_gained free other_free rooms of

  module _ (ks4 : List PassFacts) (released : AreReleased ks2 ks4 h' g') where
    back : GivenBack copy.from copy.to ks ks2 h g h' g' apart t gained other_gained free other_free ks4
    back = given_back copy.from copy.to ks ks2 h g h' g' apart t gained other_gained free other_free ks4 released

    pub hall_last : (rooms : List RoomView) → AreOf rooms ks → AreOf rooms ks4
    hall_last rooms of = of_last copy.from copy.to ks ks2 h g h' g' apart t gained other_gained free other_free rooms ks4 back of

    abbrev last_from : LastTurn
    last_from = turned t.began back.ended t.pass

    abbrev last_to : LastTurn
    last_to = turned t.other_began back.other_ended t.other

    end : session_of (set (set ks copy.from (shown t.pass last_from (entries_in h'))) copy.to (shown t.other last_to (entries_in g'))) trail' ≡ session_of ks4 trail'
    end = ap (λ ps. session_of ps trail') (sym back.list)

    both : HasHeldBoth copy (session_of ks trail) (session_of (set (set ks copy.from (shown t.pass last_from (entries_in h'))) copy.to (shown t.other last_to (entries_in g'))) trail')
    both = had_both copy.from copy.to ks t.pass t.other apart t.there t.other_there t.began t.other_began back.ended back.other_ended (entries_in h') (entries_in g') trail trail' t.within back.within

    sides : (P : Side → Side → Type 0) → P (side_of h) (side_of g) → P (side_at copy.from t.pass) (side_at copy.to t.other)
    sides P p = subst (λ y. P (side_at copy.from t.pass) y) (is_side copy.to t.other g t.other_held) (subst (λ x. P x (side_of g)) (is_side copy.from t.pass h t.held) p)

    copied_to : (answer : Out) → IsCopied (held_copy plan_of set_of (side_of h) (side_of g) copy moment) (state_of h g trail) (state_of h' g' trail') answer
        → IsCopy plan_of set_of copy moment (session_of ks trail) (session_of ks4 trail') answer × IsSession (session_of ks4 trail')
    copied_to answer w =
        let v = sides (λ x y. IsCopied (held_copy plan_of set_of x y copy moment) (state_of h g trail) (state_of h' g' trail') answer) w in
        let done = is_copy plan_of set_of copy moment (session_of ks trail) t.pass t.other last_from last_to order apart t.there t.other_there (entries_in h) (entries_in g) t.held.seen t.held.own t.other_held.seen t.other_held.own (state_of h' g' trail') answer both v in
        (subst (λ n. IsCopy plan_of set_of copy moment (session_of ks trail) n answer) end done.0, subst IsSession end done.1)

    begun_to : HasBegun (held_copy plan_of set_of (side_of h) (side_of g) copy moment) (state_of h g trail) (state_of h' g' trail')
        → HasBegunCopy plan_of set_of copy moment (session_of ks trail) (session_of ks4 trail') × IsSession (session_of ks4 trail')
    begun_to w =
        let v = sides (λ x y. HasBegun (held_copy plan_of set_of x y copy moment) (state_of h g trail) (state_of h' g' trail')) w in
        let done = has_begun plan_of set_of copy moment (session_of ks trail) t.pass t.other last_from last_to order apart t.there t.other_there (entries_in h) (entries_in g) t.held.seen t.held.own t.other_held.seen t.other_held.own (state_of h' g' trail') both v in
        (subst (HasBegunCopy plan_of set_of copy moment (session_of ks trail)) end done.0, subst IsSession end done.1)

    pub copied_if : {E : Type 0} (r : Result Out E) → IfOk r (λ answer. IsCopied (held_copy plan_of set_of (side_of h) (side_of g) copy moment) (state_of h g trail) (state_of h' g' trail') answer)
        → IfOk r (λ answer. IsCopy plan_of set_of copy moment (session_of ks trail) (session_of ks4 trail') answer)
    copied_if (Ok answer) w = (copied_to answer w).0
    copied_if (Err e) w = tt

    pub begun_if : {E : Type 0} (r : Result Out E) → OnErr r (HasBegun (held_copy plan_of set_of (side_of h) (side_of g) copy moment) (state_of h g trail) (state_of h' g' trail'))
        → OnErr r (HasBegunCopy plan_of set_of copy moment (session_of ks trail) (session_of ks4 trail'))
    begun_if (Ok answer) w = tt
    begun_if (Err e) w = (begun_to w).0

    pub session_if : {E : Type 0} (r : Result Out E) → IfOk r (λ answer. IsCopied (held_copy plan_of set_of (side_of h) (side_of g) copy moment) (state_of h g trail) (state_of h' g' trail') answer)
        → OnErr r (HasBegun (held_copy plan_of set_of (side_of h) (side_of g) copy moment) (state_of h g trail) (state_of h' g' trail')) → IsSession (session_of ks4 trail')
    session_if (Ok answer) w v = (copied_to answer w).1
    session_if (Err e) w v = (begun_to v).1
