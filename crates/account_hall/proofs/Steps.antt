-- What a call, or a look, makes of a session.
use Rattle.std.proofs.Common.{◌≡◌, ◌⊎◌, inl, inr, ⊎_elim, ℕ, zero, suc, ◌+◌, List, [], ◌∷◌, ◌++◌, length, None, Some, slice_get, Result, Ok, Err, OnErr, refl, sym, ap, ◌∙◌, subst, append_assoc, arith, length-append}
use Rattle.std.proofs.Math.ListN.{set}
use Rattle.std.proofs.lemmas.List.{append-nil}
use Rattle.mail_records.specs.Histories.{Entry, History}
use Rattle.record_codec.specs.Sizes.{edit_bytes}
use Rattle.account_book.specs.Replies.{IsReply}
use Rattle.account_book.specs.declared.asks.Call.{Call}
use Rattle.account_book.specs.declared.plans.Out.{Out}
use Rattle.account_book.specs.declared.plans.Plan.{Plan}
use Rattle.account_book.specs.declared.plans.Point.{Point}
use Rattle.account_lock.specs.Entries.{StartsWith, under}
use Rattle.account_lock.specs.Views.{LastTurn, PassFacts, begun_within}
use Rattle.account_hall.specs.Calls.{HasLooked, IsCalled, point_at}
use Rattle.account_hall.specs.Copies.{IsNextCall}
use Rattle.account_hall.specs.Histories.{GainsAtMostOne, count_with, history_with, seen_count, stamp_from}
use Rattle.account_hall.specs.Sessions.{HasHadTurn, IsCall, IsFree, IsInOrder, IsLook, IsSession, SessionView}
use Rattle.account_hall.proofs.Fronts.{all_at, all_set, at_set, set_same}
use Rattle.account_hall.proofs.Orders.{in_order_called, in_order_looked, in_order_other, more_seen, trail_called}

decide : (i j : ℕ) → (i ≡ j) ⊎ (i ≡ j → ⊥)
decide zero zero = inl refl
decide zero (suc j) = inr (λ same. absurd (omega (arith, same)))
decide (suc i) zero = inr (λ same. absurd (omega (arith, same)))
decide (suc i) (suc j) = ⊎_elim (λ same. inl (ap suc same)) (λ apart. inr (λ same. apart (omega (arith, same)))) (decide i j)

free_same : (k k' : PassFacts) (last : LastTurn) (seen own : List Entry) → k' ≡ record k { last = last; seen = seen; own = own } → IsFree k → IsFree k'
free_same k k' last seen own same free = subst IsFree (sym same) (record { root = free.root; holds = free.holds; ended = free.ended })

-- what a call found, and one entry more at most, begins with what was seen
seen_on : (number serial before after : ℕ) (seen found new : List Entry) → StartsWith found seen → GainsAtMostOne number serial before after found new → StartsWith new seen
seen_on number serial before after seen found new starts (inl none) = subst (λ es. StartsWith es seen) (sym none.same) starts
seen_on number serial before after seen found new starts (inr one) =
    (starts.0 ++ one.entry ∷ [], one.grows ∙ (ap (λ (es : List Entry). es ++ one.entry ∷ []) starts.1 ∙ append_assoc seen starts.0 (one.entry ∷ [])))

abbrev pub after_call : SessionView → ℕ → PassFacts → Point → SessionView
after_call s account k' p = record { passes = set s.passes account k'; trail = s.trail ++ p ∷ [] }

abbrev pub after_look : SessionView → ℕ → PassFacts → SessionView
after_look s account k' = record { passes = set s.passes account k'; trail = s.trail }

module _ (plan : History → Call → ℕ → Plan) (s : SessionView) (account : ℕ) (k k' : PassFacts) (serial : ℕ) (call : Call) (moment before after : ℕ) (out : Out)
    (order : IsSession s) (there : slice_get s.passes account ≡ Some k) (next : serial ≡ length s.trail + 1) (c : IsCalled plan k k' serial call moment before after out) where
  abbrev point : Point
  point = point_at account before after moment

  opening_is : k'.opening ≡ k.opening
  opening_is = ap (λ (x : PassFacts). x.opening) c.same

  gains : GainsAtMostOne k.name (length s.trail + 1) before after c.found k'.seen
  gains = subst (λ n. GainsAtMostOne k.name n before after c.found k'.seen) next c.performed.gains

  mine : IsInOrder account k' (s.trail ++ point ∷ [])
  mine = in_order_called account k k' s.trail point c.found (order.each account k there) refl opening_is c.seen c.own_then c.own c.performed.before_is c.performed.after_is gains

  pub session_called : IsSession (after_call s account k' point)
  session_called = record {
    free = all_set IsFree s.passes account k' order.free (free_same k k' k'.last k'.seen k'.own c.same (all_at IsFree s.passes account k order.free there));
    trail = trail_called account k k' s.trail point c.found (order.each account k there) refl opening_is c.seen c.own_then c.own c.performed.before_is c.performed.after_is order.trail;
    each = λ j x here. let h = at_set s.passes account j k' x here in ⊎_elim
        (λ (same : account ≡ j). subst (λ n. IsInOrder n x (s.trail ++ point ∷ [])) same (subst (λ y. IsInOrder account y (s.trail ++ point ∷ [])) (sym (h.0 same)) mine))
        (λ apart. in_order_other j x s.trail point apart (order.each j x (h.1 apart)))
        (decide account j);
  }

  pub is_call : IsCall plan account call moment s (after_call s account k' point) out
  is_call =
      let count : length (s.trail ++ point ∷ []) ≡ serial = length-append s.trail (point ∷ []) ∙ sym next in
      let name_is : k'.name ≡ k.name = ap (λ (x : PassFacts). x.name) c.same in
      let far = more_seen k.opening k.seen c.found c.seen in
      let first = c.performed.before_is in
      record {
        pass = k;
        pass' = k';
        point = point;
        there = there;
        passes = refl;
        same = c.same;
        seen = seen_on k.name serial before after k.seen c.found k'.seen c.seen c.performed.gains;
        own = c.own ∙ ap (λ n. under n k'.seen) (sym name_is);
        trail = refl;
        account_is = refl;
        moment_is = refl;
        before = omega (arith, far, first);
        after = c.performed.after_is ∙ ap (λ o. count_with o k'.seen) (sym opening_is);
        reply = subst (λ n. IsReply plan edit_bytes (history_with k'.opening k'.seen) point call (stamp_from k'.opening k'.name n) out) (sym count)
            (subst (λ (x : PassFacts). IsReply plan edit_bytes (history_with x.opening k'.seen) point call (stamp_from x.opening x.name serial) out) (sym c.same) (c.performed.reply account));
      }

  -- the call is the next one, if it begins with what was seen
  pub is_next : before ≡ seen_count k → IsNextCall plan account call moment s (after_call s account k' point) out
  unfolding is_call
  is_next next = record { call_is = is_call; next = next }

module _ (s : SessionView) (account : ℕ) (k k' : PassFacts) (order : IsSession s) (there : slice_get s.passes account ≡ Some k) (l : HasLooked k k') where
  pub session_looked : IsSession (after_look s account k')
  session_looked = record {
    free = all_set IsFree s.passes account k' order.free (subst IsFree (sym l.same) (let f = all_at IsFree s.passes account k order.free there in record { root = f.root; holds = f.holds; ended = f.ended }));
    trail = order.trail;
    each = λ j x here. let h = at_set s.passes account j k' x here in ⊎_elim
        (λ (same : account ≡ j). subst (λ n. IsInOrder n x s.trail) same (subst (λ y. IsInOrder account y s.trail) (sym (h.0 same)) (in_order_looked account k k' s.trail l (order.each account k there))))
        (λ apart. order.each j x (h.1 apart))
        (decide account j);
  }

  pub is_look : IsLook account s (after_look s account k')
  is_look = record { pass = k; pass' = k'; there = there; passes = refl; looked = l; trail = refl }

pub had_turn : (s : SessionView) (account : ℕ) (k k' : PassFacts) (trail : List Point) → slice_get s.passes account ≡ Some k → k'.last ≡ begun_within None k.last
    → HasHadTurn account s (record { passes = set s.passes account k'; trail = trail })
had_turn s account k k' trail there once = record { pass = k; pass' = k'; there = there; passes = refl; once = once }

-- nothing was done
pub look_away : (s : SessionView) (account : ℕ) (k : PassFacts) → slice_get s.passes account ≡ Some k → IsLook account s s
look_away s account k there = record {
  pass = k;
  pass' = k;
  there = there;
  passes = sym (set_same s.passes account k there);
  looked = record { seen = ([], sym (append-nil k.seen)); own = refl; same = refl };
  trail = refl;
}

pub OnErr-any : {T E : Type 0} {P : Type 0} (r : Result T E) → P → OnErr r P
OnErr-any (Ok x) p = tt
OnErr-any (Err e) p = p
