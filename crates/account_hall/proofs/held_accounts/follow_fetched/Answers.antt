use Rattle.std.proofs.Common.{refl, subst}
use Rattle.account_hall.specs.Copies.{IsFetchedSo}
use Rattle.account_hall.specs.HeldAccounts.{held_steps, side_of, state_of}
use Rattle.account_hall.proofs.Parts.{followed_begun, followed_if, gained_none}
use Rattle.account_hall.proofs.held_accounts.follow_fetched.Goals as goal

pub returns-in-Err-clause-followed : goal.returns-in-Err-clause-followed
returns-in-Err-clause-followed g c =
    let s = state_of c.args.from.now c.args.to.now c.args.trail.now.items in
    subst (λ r. IsFetchedSo (held_steps g.R.Rules.plan_of g.O.Originals.set_of (side_of c.args.from.now) (side_of c.args.to.now) c.args.asked.read_only c.args.asked.call c.args.asked.made c.args.asked.moment) r s s c.in-Err.other) c.in-Err.ensures (refl, refl)

pub returns-in-Err-clause-gained : goal.returns-in-Err-clause-gained
returns-in-Err-clause-gained g c = (gained_none c.args.from.now, gained_none c.args.to.now)

pub returns-in-Ok-clause-followed : goal.returns-in-Ok-clause-followed
returns-in-Ok-clause-followed g c =
    let steps = held_steps g.R.Rules.plan_of g.O.Originals.set_of (side_of c.args.from.now) (side_of c.args.to.now) c.args.asked.read_only c.args.asked.call c.args.asked.made c.args.asked.moment in
    let s = state_of c.args.from.now c.args.to.now c.args.trail.now.items in
    let s' = state_of c.place_held.new.from c.place_held.new.to c.place_held.new.trail.items in
    followed_if steps s s s' c.in-Ok.carried _ c.place_held.result c.in-Ok.ensures c.place_held.ensures.placed

pub returns-in-Ok-clause-begun : goal.returns-in-Ok-clause-begun
returns-in-Ok-clause-begun g c =
    let steps = held_steps g.R.Rules.plan_of g.O.Originals.set_of (side_of c.args.from.now) (side_of c.args.to.now) c.args.asked.read_only c.args.asked.call c.args.asked.made c.args.asked.moment in
    let s = state_of c.args.from.now c.args.to.now c.args.trail.now.items in
    let s' = state_of c.place_held.new.from c.place_held.new.to c.place_held.new.trail.items in
    followed_begun steps s s s' c.args.fetched c.in-Ok.carried c.place_held.result c.in-Ok.ensures c.place_held.ensures.begun
