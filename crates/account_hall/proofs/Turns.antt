-- What a session has seen of an account after a turn at it.
use Rattle.std.proofs.Common.{◌≡◌, ℕ, Bool, true, false, List, None, Result, Ok, Err, IfOk, sym, ap, ◌∙◌, subst}
use Rattle.mail_records.specs.Histories.{History, Entry}
use Rattle.account_book.specs.declared.asks.Call.{Call}
use Rattle.account_book.specs.declared.plans.Done.{Done}
use Rattle.account_book.specs.declared.plans.Out.{Out}
use Rattle.account_book.specs.declared.plans.Plan.{Plan}
use Rattle.account_lock.specs.Entries.{StartsWith, under}
use Rattle.account_lock.specs.Views.{LastTurn, PassFacts, begun_within, ended_within}
use Rattle.account_hall.specs.Calls.{HasLooked, IsCalled, IsPerformed}

-- the pass after a turn, from what `take` and `give` make of it
turned : (k k1 k2 : PassFacts) (found new : List Entry) → k.holds ≡ false → k1 ≡ record k { holds = true; last = begun_within None k.last; seen = found } → k2 ≡ record k1 { holds = false; last = ended_within None k1.last; seen = new; own = under k1.name new }
    → k2 ≡ record k { last = begun_within None k.last; seen = new; own = under k.name new }
turned k k1 k2 found new free took gave =
    gave ∙ (ap (λ (x : PassFacts). let y : PassFacts = record x { holds = false; last = ended_within None x.last; seen = new; own = under x.name new } in y) took
    ∙ ap (λ (b : Bool). let y : PassFacts = record k { holds = b; last = begun_within None k.last; seen = new; own = under k.name new } in y) (sym free))

-- it had one turn more
pub once : (k k1 k2 : PassFacts) (found new : List Entry) → k.holds ≡ false → k1 ≡ record k { holds = true; last = begun_within None k.last; seen = found } → k2 ≡ record k1 { holds = false; last = ended_within None k1.last; seen = new; own = under k1.name new }
    → k2.last ≡ begun_within None k.last
once k k1 k2 found new free took gave = ap (λ (x : PassFacts). x.last) (turned k k1 k2 found new free took gave)

pub called : (plan : History → Call → ℕ → Plan) (k k1 k2 : PassFacts) (found new : List Entry) (serial : ℕ) (call : Call) (moment before after : ℕ) (out : Out)
    → k.holds ≡ false → k1 ≡ record k { holds = true; last = begun_within None k.last; seen = found } → k2 ≡ record k1 { holds = false; last = ended_within None k1.last; seen = new; own = under k1.name new }
    → StartsWith found k.seen → under k.name found ≡ k.own → IsPerformed plan k.opening found new k.name serial call moment before after out
    → IsCalled plan k k2 serial call moment before after out
called plan k k1 k2 found new serial call moment before after out free took gave starts own performed =
    let is = turned k k1 k2 found new free took gave in
    let last : k2.last ≡ begun_within None k.last = ap (λ (x : PassFacts). x.last) is in
    let seen : k2.seen ≡ new = ap (λ (x : PassFacts). x.seen) is in
    let mine : k2.own ≡ under k.name new = ap (λ (x : PassFacts). x.own) is in
    record {
      found = found;
      seen = starts;
      own_then = own;
      performed = subst (λ es. IsPerformed plan k.opening found es k.name serial call moment before after out) (sym seen) performed;
      own = mine ∙ ap (under k.name) (sym seen);
      same = is ∙ (ap (λ (t : LastTurn). let y : PassFacts = record k { last = t; seen = new; own = under k.name new } in y) (sym last)
          ∙ (ap (λ (es : List Entry). let y : PassFacts = record k { last = k2.last; seen = es; own = under k.name new } in y) (sym seen) ∙ ap (λ (es : List Entry). let y : PassFacts = record k { last = k2.last; seen = k2.seen; own = es } in y) (sym mine)));
    }

pub called_if : {E R : Type 0} (plan_of : R → History → Call → ℕ → Plan) (rules : R) (opened : History) (k k1 k2 : PassFacts) (found new : List Entry) (number serial : ℕ) (call : Call) (moment : ℕ) (r : Result Done E)
    → k.holds ≡ false → k1 ≡ record k { holds = true; last = begun_within None k.last; seen = found } → k2 ≡ record k1 { holds = false; last = ended_within None k1.last; seen = new; own = under k1.name new }
    → StartsWith found k.seen → under k.name found ≡ k.own → opened ≡ k.opening → number ≡ k.name → IfOk r (λ d. IsPerformed (plan_of rules) opened found new number serial call moment d.before d.after d.out)
    → IfOk r (λ d. (x : R) × IsCalled (plan_of x) k k2 serial call moment d.before d.after d.out)
called_if plan_of rules opened k k1 k2 found new number serial call moment (Ok d) free took gave starts own same named done =
    let here : IsPerformed (plan_of rules) k.opening found new number serial call moment d.before d.after d.out = subst (λ h. IsPerformed (plan_of rules) h found new number serial call moment d.before d.after d.out) same done in
    (rules, called (plan_of rules) k k1 k2 found new serial call moment d.before d.after d.out free took gave starts own (subst (λ n. IsPerformed (plan_of rules) k.opening found new n serial call moment d.before d.after d.out) named here))
called_if plan_of rules opened k k1 k2 found new number serial call moment (Err e) free took gave starts own same named done = tt

pub looked : (k k1 k2 : PassFacts) (found new : List Entry) → k.holds ≡ false → k1 ≡ record k { holds = true; last = begun_within None k.last; seen = found } → k2 ≡ record k1 { holds = false; last = ended_within None k1.last; seen = new; own = under k1.name new }
    → StartsWith found k.seen → under k.name found ≡ k.own → new ≡ found → HasLooked k k2
looked k k1 k2 found new free took gave starts own none =
    let is = turned k k1 k2 found new free took gave in
    let last : k2.last ≡ begun_within None k.last = ap (λ (x : PassFacts). x.last) is in
    let seen : k2.seen ≡ new = ap (λ (x : PassFacts). x.seen) is in
    let mine : under k.name new ≡ k.own = ap (under k.name) none ∙ own in
    record {
      seen = subst (λ es. StartsWith es k.seen) (sym (seen ∙ none)) starts;
      own = ap (λ (x : PassFacts). x.own) is ∙ mine;
      same = is ∙ (ap (λ (t : LastTurn). let y : PassFacts = record k { last = t; seen = new; own = under k.name new } in y) (sym last)
          ∙ (ap (λ (es : List Entry). let y : PassFacts = record k { last = k2.last; seen = es; own = under k.name new } in y) (sym seen) ∙ ap (λ (es : List Entry). let y : PassFacts = record k { last = k2.last; seen = k2.seen; own = es } in y) mine));
    }
