-- What contracts see of a pass once another was joined.
use Rattle.std.proofs.Common.{◌≡◌, List, ◌++◌, Option, ap, subst}
use Rattle.atomic_table.specs.Seated.{TableId}
use Rattle.mail_records.specs.Histories.{Entry}
use Rattle.account_lock.specs.Entries.{StartsWith}
use Rattle.account_lock.specs.Views.{View, joined, ended_with}
use Rattle.account_lock.specs.Views.{PassFacts, Turn, facts_of}
use Rattle.account_lock.specs.Passes.{taken_in}
use Rattle.account_lock.proofs.Entries.{then_longer}

-- it has seen the longer list
pub joined_facts : (z y : TableId) (b e c f : Option Turn) (v w : View) (k other : PassFacts) → facts_of z b e v ≡ k → facts_of y c f w ≡ other → StartsWith (joined v w).seen w.seen → facts_of z b e (joined v w) ≡ taken_in k other
joined_facts z y b e c f v w k other one two heard =
    let longer : facts_of z b e (joined v w) ≡ taken_in (facts_of z b e v) (facts_of y c f w) =
    ap (λ (xs : List Entry). record (facts_of z b e v) { seen = xs; ended = v.ended ++ ended_with w }) (then_longer v.turn v.seen w.seen heard) in
    subst (λ (x : PassFacts). facts_of z b e (joined v w) ≡ taken_in x other) one (subst (λ (x : PassFacts). facts_of z b e (joined v w) ≡ taken_in (facts_of z b e v) x) two longer)
