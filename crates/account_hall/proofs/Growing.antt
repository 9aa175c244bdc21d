-- A session later has all that it had, and perhaps more.
use Rattle.std.proofs.Common.{◌≡◌, ℕ, zero, suc, List, [], ◌∷◌, ◌++◌, Some, slice_get, refl, sym, ap, ◌∙◌, subst, append_assoc}
use Rattle.std.proofs.Math.ListN.{set}
use Rattle.std.proofs.lemmas.List.{append-nil}
use Rattle.mail_records.specs.Histories.{Entry, History}
use Rattle.account_book.specs.declared.asks.Call.{Call}
use Rattle.account_book.specs.declared.plans.Out.{Out}
use Rattle.account_book.specs.declared.plans.Plan.{Plan}
use Rattle.account_book.specs.declared.plans.Point.{Point}
use Rattle.account_lock.specs.Entries.{StartsWith}
use Rattle.account_lock.specs.Views.{PassFacts}
use Rattle.account_hall.specs.Growing.{HasGrown, IsLater}
use Rattle.account_hall.specs.Sessions.{IsCall, IsLook, SessionView}
use Rattle.account_hall.proofs.Closing.{seen_further}

starts_with_itself : (es : List Entry) → StartsWith es es
starts_with_itself es = ([], sym (append-nil es))

same_later : (k : PassFacts) → IsLater k k
same_later k = record { name_is = refl; opening_is = refl; seen = starts_with_itself k.seen }

-- each of these passes is there later
abbrev AreLater : List PassFacts → List PassFacts → Type 0
AreLater ks ks' = (account : ℕ) (k : PassFacts) → slice_get ks account ≡ Some k → (k' : PassFacts) × (slice_get ks' account ≡ Some k') × IsLater k k'

one_later : (ks : List PassFacts) (i : ℕ) (k k' : PassFacts) → slice_get ks i ≡ Some k → IsLater k k' → AreLater ks (set ks i k')
one_later [] i k k' there later j x here = absurd (cc there)
one_later (z ∷ zs) zero k k' there later zero x here = let e : k ≡ x = cc (there, here) in (k', refl, subst (λ (y : PassFacts). IsLater y k') e later)
one_later (z ∷ zs) zero k k' there later (suc j) x here = (x, here, same_later x)
one_later (z ∷ zs) (suc i) k k' there later zero x here = (x, here, same_later x)
one_later (z ∷ zs) (suc i) k k' there later (suc j) x here = one_later zs i k k' there later j x here

pub grown_same : (s : SessionView) → HasGrown s s
grown_same s = record {
  added = [];
  trail = sym (append-nil s.trail);
  passes = λ account k there. (k, there, same_later k);
}

pub grown_on : (s m s' : SessionView) → HasGrown s m → HasGrown m s' → HasGrown s s'
grown_on s m s' one two = record {
  added = one.added ++ two.added;
  trail = two.trail ∙ (ap (λ (ps : List Point). ps ++ two.added) one.trail ∙ append_assoc s.trail one.added two.added);
  passes = λ account k there.
      let first = one.passes account k there in
      let second = two.passes account first.0 first.1 in (
        second.0,
        second.1,
        record {
          name_is = second.2.name_is ∙ first.2.name_is;
          opening_is = second.2.opening_is ∙ first.2.opening_is;
          seen = seen_further first.0.seen k.seen second.0.seen second.2.seen first.2.seen;
        },
      );
}

pub grown_called : (plan : History → Call → ℕ → Plan) (account : ℕ) (call : Call) (moment : ℕ) (s s' : SessionView) (out : Out) → IsCall plan account call moment s s' out → HasGrown s s'
grown_called plan account call moment s s' out c =
    let later : IsLater c.pass c.pass' = record { name_is = ap (λ (k : PassFacts). k.name) c.same; opening_is = ap (λ (k : PassFacts). k.opening) c.same; seen = c.seen } in
    record {
      added = c.point ∷ [];
      trail = c.trail;
      passes = subst (AreLater s.passes) (sym c.passes) (one_later s.passes account c.pass c.pass' c.there later);
    }

pub grown_looked : (account : ℕ) (s s' : SessionView) → IsLook account s s' → HasGrown s s'
grown_looked account s s' l =
    let later : IsLater l.pass l.pass' = record { name_is = ap (λ (k : PassFacts). k.name) l.looked.same; opening_is = ap (λ (k : PassFacts). k.opening) l.looked.same; seen = l.looked.seen } in
    record {
      added = [];
      trail = l.trail ∙ sym (append-nil s.trail);
      passes = subst (AreLater s.passes) (sym l.passes) (one_later s.passes account l.pass l.pass' l.there later);
    }
