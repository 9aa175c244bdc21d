-- What the lock hands out at its end.
use Rattle.std.proofs.Common.{◌≡◌, inl, inr, ⊎_elim, lt_of_not-le, ℕ, ◌<◌, true, List, sym, ap, ◌∙◌, subst, Option, Some}
use mathlib.Core.Option.{some, some-injective}
use native.Mathlib.Decide.{dec_le}
use lib.ListN.{get_elem?}
use Rattle.account_lock.proofs.Places.{zero_or}
use Rattle.atomic_table.specs.Table.{Final, Seen}
use Rattle.atomic_table.specs.Seated.{TableId}
use Rattle.mail_records.specs.Histories.{Entry}
use Rattle.account_lock.specs.Entries.{StartsWith}
use Rattle.account_lock.specs.Views.{Origin, View}
use Rattle.account_lock.specs.Rule.{IsKept}
use Rattle.account_lock.specs.Views.{PassFacts, Turn, facts_of, origin_of}
use Rattle.account_lock.specs.Passes.{IsLast, HasEndedAll, HasNoOthers, KeepsEnded}
use Rattle.account_lock.proofs.Naming.{ends, all_ended}

-- what is known of a value at the end
pub record Last {Y : Type 0} (shows : Y → List Entry) (origin : Y → Origin) (built : Y) (k : PassFacts) (y : Y) : Type 0 where
  pub seen : StartsWith (shows y) k.seen
  pub ended : KeepsEnded k (shows y)
  pub all : HasEndedAll k
  pub names : HasNoOthers k (shows y)
  pub same : origin y ≡ origin_of k
  pub untouched : k.given ≡ 0 → y ≡ built

pub closes : {Y : Type 0} (shows : Y → List Entry) (origin : Y → Origin) (built : Y) (z : TableId) (first last : Option Turn) (k : PassFacts) (me : ℕ) (v : View) (words : List ℕ) (slots : List (Option Y)) (x : Option Y)
    → facts_of z first last v ≡ k → k.root ≡ true → IsLast k → Final (Seen (IsKept shows origin built) me v) words slots → get_elem? slots 0 ≡ some x → (y : Y) × (x ≡ Some y) × Last shows origin built k y
closes shows origin built z first last k me v words slots x is root all_given f at =
    let all = all_ended shows origin built f.0 me v f.1.0 f.1.1 (ap (λ (q : PassFacts). q.root) is ∙ root) (subst IsLast (sym is) all_given) in
    let e = ends shows origin built f.0 me v f.1.0 f.1.1 (ap (λ (q : PassFacts). q.root) is ∙ root) all in
    let others : HasNoOthers (facts_of z first last v) (shows e.0) = λ n none_has. ⊎_elim
    (λ (n_is : n ≡ 0). e.4 n (inl n_is))
    (λ (p : 0 < n). elim (dec_le n v.given) [
      | yes q ↦ let m = all n p q in absurd (none_has m.0 m.1 m.2 m.3)
      | no q ↦ e.4 n (inr (lt_of_not-le q))
    ])
    (zero_or n) in
    (e.0, sym (some-injective _ x (sym (f.4 0 (Some e.0) e.1) ∙ at)), subst (λ (q : PassFacts). Last shows origin built q e.0) is (record { seen = e.2; ended = e.3.1; all = all; names = others; same = e.5; untouched = e.6 }))
