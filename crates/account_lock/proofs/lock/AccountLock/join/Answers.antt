use Rattle.std.proofs.Common.{rules, ◌≡◌, ◌∙◌, sym, subst}
use Rattle.account_lock.specs.Entries.{StartsWith}
use Rattle.account_lock.specs.Views.{joined}
use Rattle.account_lock.specs.Views.{PassFacts, facts, facts_of}
use Rattle.account_lock.proofs.Entries.{then_more}
use Rattle.account_lock.proofs.Naming.{joins}
use Rattle.account_lock.proofs.Joining.{joined_facts}
use Rattle.account_lock.proofs.lock.AccountLock.join.Goals as goal

pub join_seat-requires : goal.join_seat-requires
join_seat-requires g c = (search rules, search rules, search rules, search rules, joins _ _ _ _ _ _ _ (search rules) (search rules) (search rules))

pub returns-clause-pass : goal.returns-clause-pass
returns-clause-pass g c =
    let z = c.into_badge.result.table_id in let v = c.into_seat-seat.result.me.0 in let w = c.into_seat.result.me.0 in
    let b = c.pass.inside.began in let e = c.pass.inside.ended in
    let is : facts z b e c.into_badge.result.views ≡ facts_of z b e (joined v w) = search rules in
    let one : facts_of z b e v ≡ c.args.pass.now = search rules in
    let two : facts_of c.into_seat.result.table_id c.other.inside.began c.other.inside.ended w ≡ c.args.other = search rules in
    let heard : StartsWith (joined v w).seen w.seen = search rules in is ∙ joined_facts z _ b e _ _ v w _ _ one two heard

pub returns-clause-seen : goal.returns-clause-seen
returns-clause-seen g c =
    let z = c.into_badge.result.table_id in let v = c.into_seat-seat.result.me.0 in let w = c.into_seat.result.me.0 in
    let b = c.pass.inside.began in let e = c.pass.inside.ended in
    let is : facts z b e c.into_badge.result.views ≡ facts_of z b e (joined v w) = search rules in
    let one : facts_of z b e v ≡ c.args.pass.now = search rules in
    subst (λ (k : PassFacts). StartsWith k.seen c.args.pass.now.seen) (sym is) (subst (λ (k : PassFacts). StartsWith (joined v w).seen k.seen) one (then_more v.turn v.seen w.seen))
