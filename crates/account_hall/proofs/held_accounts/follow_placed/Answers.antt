use Rattle.std.proofs.Common.{IfOk, refl, subst}
use Rattle.account_hall.specs.Copies.{IsFollowed, IsPlacedSo}
use Rattle.account_hall.specs.HeldAccounts.{held_steps, side_of, state_from}
use Rattle.account_hall.proofs.Parts.{gained_none}
use Rattle.account_hall.proofs.held_accounts.follow_placed.Goals as goal

pub returns-in-Err-clause-followed : goal.returns-in-Err-clause-followed
returns-in-Err-clause-followed g c to es =
    let s = state_from c.args.from.now es c.args.trail.now.items in
    subst (λ r. IsPlacedSo (held_steps g.R.Rules.plan_of g.O.Originals.set_of (side_of c.args.from.now) to c.args.asked.read_only c.args.asked.call c.args.asked.made c.args.asked.moment) r s s c.in-Err.other) c.in-Err.ensures (refl, refl)

pub returns-in-Err-clause-gained : goal.returns-in-Err-clause-gained
returns-in-Err-clause-gained g c = gained_none c.args.from.now

pub returns-in-Ok-find_set-clause-followed : goal.returns-in-Ok-find_set-clause-followed
returns-in-Ok-find_set-clause-followed g c to es =
    let steps = held_steps g.R.Rules.plan_of g.O.Originals.set_of (side_of c.args.from.now) to c.args.asked.read_only c.args.asked.call c.args.asked.made c.args.asked.moment in
    let s = state_from c.args.from.now es c.args.trail.now.items in
    let s' = state_from c.follow_copy.new.from es c.follow_copy.new.trail.items in
    subst (λ r. IfOk c.follow_copy.result (λ out. IsPlacedSo steps r s s' out)) c.in-Ok.ensures
    (subst (λ o. IfOk c.follow_copy.result (λ out. IsFollowed steps c.in-Ok.placed o s s' out)) c.in-Ok-find_set.ensures (c.follow_copy.ensures.followed to es g.O.Originals.set_of))

pub returns-in-Err-find_set-clause-gained : goal.returns-in-Err-find_set-clause-gained
returns-in-Err-find_set-clause-gained g c = gained_none c.args.from.now
