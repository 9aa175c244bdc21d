-- Of the turns of a session at two accounts one is within the other.
use Rattle.std.proofs.Common.{◌≡◌, ◌≢◌, ◌⊎◌, inl, inr, ⊎_elim, ℕ, zero, suc, ◌<◌, List, min, max, Option, Some, slice_get, refl, sym, ap, ◌∙◌, subst, arith}
use Rattle.std.proofs.Math.ListN.{set}
use Rattle.mail_records.specs.Histories.{Entry}
use Rattle.account_book.specs.declared.plans.Point.{Point}
use Rattle.account_lock.specs.Entries.{under}
use Rattle.account_lock.specs.Views.{LastTurn, PassFacts, Turn, begun_within, ended_within}
use Rattle.account_hall.specs.Copies.{HasHadBoth}
use Rattle.account_hall.specs.HeldAccounts.{IsWithin, next_turn}
use Rattle.account_hall.specs.Sessions.{SessionView, session_of}
use Rattle.account_hall.proofs.Places.{flipped, set_elsewhere, set_there}

-- the pass of a session with this last turn, which has seen these entries
abbrev pub shown : PassFacts → LastTurn → List Entry → PassFacts
shown k last es = record k { last = last; seen = es; own = under k.name es }

-- the last turn of a pass after one more
abbrev pub turned : Option Turn → Option Turn → PassFacts → LastTurn
turned began ended k = ended_within ended (begun_within began k.last)

pub lower_or : (i j : ℕ) → i ≢ j → (i < j) ⊎ (j < i)
lower_or zero zero apart = absurd (apart refl)
lower_or zero (suc j) apart = inl (omega arith)
lower_or (suc i) zero apart = inr (omega arith)
lower_or (suc i) (suc j) apart = ⊎_elim (λ (less : i < j). inl (omega (arith, less))) (λ (more : j < i). inr (omega (arith, more))) (lower_or i j (λ same. apart (ap suc same)))

module _ (from to : ℕ) (ks : List PassFacts) (k other : PassFacts) (apart : from ≢ to) (there : slice_get ks from ≡ Some k) (other_there : slice_get ks to ≡ Some other)
    (a b c d : Option Turn) (es os : List Entry) (trail trail' : List Point) where
  abbrev one : PassFacts
  one = shown k (turned a c k) es

  abbrev two : PassFacts
  two = shown other (turned b d other) os

  abbrev old : SessionView
  old = session_of ks trail

  abbrev new : SessionView
  new = session_of (set (set ks from one) to two) trail'

  one_there : slice_get new.passes from ≡ Some one
  one_there = set_elsewhere (set ks from one) to from two (flipped from to apart) ∙ set_there ks from k one there

  two_there : slice_get new.passes to ≡ Some two
  two_there = set_there (set ks from one) to other two (set_elsewhere ks from to one apart ∙ other_there)

  by_from : b ≡ Some (next_turn k) → d ≡ Some (next_turn k) → HasHadBoth from to old new
  by_from began ended = record {
    lower = k;
    lower' = one;
    higher = other;
    higher' = two;
    low_there = there;
    low_there' = one_there;
    high_there = other_there;
    high_there' = two_there;
    once = (refl, refl);
    began = began;
    ended = ended;
  }

  by_to : a ≡ Some (next_turn other) → c ≡ Some (next_turn other) → HasHadBoth to from old new
  by_to began ended = record {
    lower = other;
    lower' = two;
    higher = k;
    higher' = one;
    low_there = other_there;
    low_there' = two_there;
    high_there = there;
    high_there' = one_there;
    once = (refl, refl);
    began = began;
    ended = ended;
  }

  ordered : (low high : ℕ) → HasHadBoth low high old new → min from to ≡ low → max from to ≡ high → HasHadBoth (min from to) (max from to) old new
  ordered low high both least most = subst (λ n. HasHadBoth n (max from to) old new) (sym least) (subst (λ n. HasHadBoth low n old new) (sym most) both)

  pub had_both : IsWithin from to k other a b → IsWithin from to k other c d → HasHadBoth (min from to) (max from to) old new
  had_both began ended = ⊎_elim
      (λ (less : from < to). ordered from to (by_from (began.0 less) (ended.0 less)) (omega (arith, less)) (omega (arith, less)))
      (λ (more : to < from). ordered to from (by_to (began.1 more) (ended.1 more)) (omega (arith, more)) (omega (arith, more)))
      (lower_or from to apart)
