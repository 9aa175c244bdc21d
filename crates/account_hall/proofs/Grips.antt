-- Accounts are taken and given back, one after the other.
use Rattle.std.proofs.Common.{◌≡◌, ◌≢◌, ℕ, suc, ◌<◌, List, [], ◌∷◌, map, length, take, drop, get_or, Some, None, slice_get, refl, sym, ap, ◌∙◌, subst, arith}
use Rattle.std.proofs.Math.ListN.{set}
use Rattle.account_lock.specs.Views.{PassFacts, going_turn}
use Rattle.account_hall.specs.Halls.{AreOf, RoomFacts, RoomView, room_view}
use Rattle.account_hall.specs.HeldAccounts.{AreTaken, HasTurnAt, IsFreeAt, IsTaken, entries_in, holding, next_turn, turn_at, turn_if}
use Rattle.account_hall.specs.declared.held_accounts.Held.{Held}
use Rattle.account_hall.proofs.Fronts.{of_set, pass_there, room_lock}
use Rattle.account_hall.proofs.Places.{get_dropped, get_taken, set_apart, set_elsewhere, set_there}

pub count_map : {A B : Type 0} (f : A → B) (xs : List A) → length (map f xs) ≡ length xs
count_map f [] = refl
count_map f (x ∷ xs) = ap suc (count_map f xs)

module _ {B : Type 0} (rooms : List (RoomFacts B)) (ks : List PassFacts) (i : ℕ) (of : AreOf (map room_view rooms) ks) (low : i < length rooms) where
  below : i < length (map room_view rooms)
  below = let n = count_map room_view rooms in omega (arith, low, n)

  -- the pass at an account, and its lock
  pub grip_there : (k : PassFacts) → k ≡ get_or ks i k → slice_get ks i ≡ Some k
  grip_there k is = pass_there rooms (map room_view rooms) ks i k refl of below is

  pub grip_lock : (r : RoomFacts B) (k : PassFacts) → r ≡ get_or rooms i r → k ≡ get_or ks i k → k.lock ≡ r.lock.id
  grip_lock r k room is = room_lock rooms (map room_view rooms) ks i r k refl of below room is

  -- the same of a list that was split there
  pub grip_first : (back : List PassFacts) (k : PassFacts) → back ≡ drop i ks → k ≡ get_or back 0 k → k ≡ get_or ks i k
  grip_first back k parts is = is ∙ (ap (λ ps. get_or ps 0 k) parts ∙ get_dropped ks i k)

  -- the turn of the pass at a lower account
  pub grip_lower : (front : List PassFacts) (j : ℕ) (k : PassFacts) → front ≡ take i ks → j < i → k ≡ get_or front j k → slice_get ks j ≡ Some k
  grip_lower front j k parts less is =
      let n = count_map room_view rooms in
      pass_there rooms (map room_view rooms) ks j k refl of (omega (arith, low, less, n)) (is ∙ (ap (λ ps. get_or ps j k) parts ∙ get_taken ks i j k less))

pub one_there : (ks : List PassFacts) (i : ℕ) (k k' : PassFacts) → slice_get ks i ≡ Some k → slice_get ks i ≡ Some k' → k ≡ k'
one_there ks i k k' a b = let same : Some k ≡ Some k' = sym a ∙ b in cc same

pub turn_is : (ks : List PassFacts) (account : ℕ) (k : PassFacts) → slice_get ks account ≡ Some k → turn_at ks account ≡ going_turn k
turn_is ks account k there = ap turn_if there

module _ {K R : Type 0} (from to : ℕ) (ks ks1 : List PassFacts) (h : Held K R) (apart : from ≢ to) (t : IsTaken from None ks ks1 h) where
  elsewhere : slice_get ks1 to ≡ slice_get ks to
  elsewhere = ap (λ ps. slice_get ps to) t.list ∙ set_elsewhere ks from to (holding t.pass None (entries_in h)) apart

  here : slice_get ks1 h.account ≡ Some (holding t.pass None (entries_in h))
  here =
      ap (slice_get ks1) t.held.account_is
      ∙ (ap (λ ps. slice_get ps from) t.list ∙ set_there ks from t.pass (holding t.pass None (entries_in h)) t.there)

  pub still_free : IsFreeAt to ks → IsFreeAt to ks1
  still_free free k there = free k (sym elsewhere ∙ there)

  pub has_turn : HasTurnAt h.account ks1
  has_turn k there = ap (λ x. x.holds) (one_there ks1 h.account k (holding t.pass None (entries_in h)) there here)

  pub of_one : (rooms : List RoomView) → AreOf rooms ks → AreOf rooms ks1
  of_one rooms of = subst (AreOf rooms) (sym t.list) (of_set rooms ks from t.pass (holding t.pass None (entries_in h)) of t.there refl)

  pub turn_then : turn_at ks1 h.account ≡ Some (next_turn t.pass)
  turn_then = turn_is ks1 h.account (holding t.pass None (entries_in h)) here

  pub taken_then : from < to → (ks2 : List PassFacts) (g : Held K R) → IsTaken to (turn_at ks1 h.account) ks1 ks2 g → AreTaken from to ks ks2 h g
  taken_then less ks2 g u = record {
    pass = t.pass;
    other = u.pass;
    there = t.there;
    other_there = sym elsewhere ∙ u.there;
    held = t.held;
    other_held = u.held;
    began = None;
    other_began = turn_at ks1 h.account;
    within = (λ _. turn_then, λ more. absurd (omega (arith, less, more)));
    list = u.list ∙ ap (λ ps. set ps to (holding u.pass (turn_at ks1 h.account) (entries_in g))) t.list;
  }

  -- the account of the copies was taken first
  pub taken_back : from < to → (ks2 : List PassFacts) (g : Held K R) → IsTaken to (turn_at ks1 h.account) ks1 ks2 g → AreTaken to from ks ks2 g h
  taken_back less ks2 g u = record {
    pass = u.pass;
    other = t.pass;
    there = sym elsewhere ∙ u.there;
    other_there = t.there;
    held = u.held;
    other_held = t.held;
    began = turn_at ks1 h.account;
    other_began = None;
    within = (λ more. absurd (omega (arith, less, more)), λ _. turn_then);
    list = u.list ∙ (ap (λ ps. set ps to (holding u.pass (turn_at ks1 h.account) (entries_in g))) t.list
        ∙ set_apart ks from to (holding t.pass None (entries_in h)) (holding u.pass (turn_at ks1 h.account) (entries_in g)) apart);
  }
